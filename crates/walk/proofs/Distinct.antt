-- Distinct numbers below n are at most n. Assumes nothing.
use Prim.Native.Nat.{ℕ, ◌+◌, ◌≤◌, ◌<◌}
use native.Mathlib.Omega.{arith}
use mathlib.Core.Path.{◌≡◌, refl, sym, subst}
use mathlib.Core.Bool.{cond}
use mathlib.Core.Logic.{◌≢◌, inl, inr}
use mathlib.Core.List.{List, [], ◌∷◌, Memᴰ}
use lib.Dec.{eqb}
use lib.ListN.{length}
use borrow.Author.Tests.{eq-eqb, ne_eqb}
use Rattle.theory.specs.Sums.{sum_below}
use Rattle.theory.specs.Demands.{Distinct}
use Rattle.theory.proofs.Cases.{same?}
use Rattle.theory.proofs.Sums.{sum_mono, sum_same, sum_add, sum_zero, sum_ones, sum_change}

-- Whether two numbers are the same, as 1 or 0.
abbrev is : (x w : ℕ) → ℕ
is x w = cond (eqb x w) 1 0

is_same : (x : ℕ) → is x x ≡ 1
is_same x = rw (eq-eqb x x refl) refl

is_other : (x w : ℕ) → x ≢ w → is x w ≡ 0
is_other x w q = rw (ne_eqb x w q) refl

is_once : (n x : ℕ) → x < n → sum_below n (is x) ≡ 1
is_once n x l =
    let changed = sum_change n x (λ w. 0) (is x) l (λ w q. is_other x w (λ e. q (sym e))) in
    omega (arith, changed, sum_zero n (λ w. 0) (λ w h. refl), is_same x)

-- How often a number stands in a list.
abbrev times : (l : List ℕ) (w : ℕ) → ℕ
times [] w = 0
times (x ∷ l) w = is x w + times l w

times_absent : (l : List ℕ) (w : ℕ) → (Memᴰ w l → ⊥) → times l w ≡ 0
times_absent [] w q = refl
times_absent (x ∷ l) w q = omega (arith, is_other x w (λ e. q (Memᴰ.head (sym e))), times_absent l w (λ m. q (Memᴰ.tail m)))

times_once : (l : List ℕ) (w : ℕ) → Distinct l → times l w ≤ 1
times_once [] w d = omega arith
times_once (x ∷ l) w d = elim (same? x w) [
  | inl e ↦
      let here : is x w ≡ 1 = subst (λ (k : ℕ). is x k ≡ 1) e (is_same x) in
      omega (arith, here, times_absent l w (subst (λ (k : ℕ). Memᴰ k l → ⊥) e d.0))
  | inr q ↦ omega (arith, is_other x w q, times_once l w d.1)
]

times_all : (n : ℕ) (l : List ℕ) → ((w : ℕ) → Memᴰ w l → w < n) → sum_below n (times l) ≡ length l
times_all n [] h = sum_zero n (times []) (λ w l. refl)
times_all n (x ∷ l) h =
    omega (arith, sum_same n (times (x ∷ l)) (λ w. is x w + times l w) (λ w q. refl), sum_add n (is x) (times l), is_once n x (h x (Memᴰ.head refl)), times_all n l (λ w m. h w (Memᴰ.tail m)))

pub distinct_few : (n : ℕ) (l : List ℕ) → Distinct l → ((w : ℕ) → Memᴰ w l → w < n) → length l ≤ n
distinct_few n l d h = omega (arith, times_all n l h, sum_mono n (times l) (λ w. 1) (λ w q. times_once l w d), sum_ones n)
