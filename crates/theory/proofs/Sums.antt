-- Laws of `sum_below` and `list_below`.
use Prim.Native.Nat.{ℕ, zero, suc, ◌+◌, ◌*◌, ◌≤◌, ◌<◌}
use native.Mathlib.Omega.{arith}
use mathlib.Core.Path.{◌≡◌, refl, ◌∙◌}
use mathlib.Core.Logic.{◌≢◌, inl, inr}
use mathlib.Core.List.{[], ◌∷◌}
use lib.ListN.{length, get_or, length-append, get_or-append}
use lib.Seq.{get_or_at}
use Rattle.theory.specs.Sums.{sum_below, list_below}
use Rattle.theory.proofs.Cases.{split}

pub sum_mono : (n : ℕ) (f g : ℕ → ℕ) → ((w : ℕ) → w < n → f w ≤ g w) → sum_below n f ≤ sum_below n g
sum_mono zero f g h = omega arith
sum_mono (suc n) f g h = omega (arith, sum_mono n f g (λ w l. h w (omega arith)), h n (omega arith))

pub sum_same : (n : ℕ) (f g : ℕ → ℕ) → ((w : ℕ) → w < n → f w ≡ g w) → sum_below n f ≡ sum_below n g
sum_same n f g h =
    omega (arith, sum_mono n f g (λ w l. omega (arith, h w l)), sum_mono n g f (λ w l. omega (arith, h w l)))

pub sum_add : (n : ℕ) (f g : ℕ → ℕ) → sum_below n (λ w. f w + g w) ≡ sum_below n f + sum_below n g
sum_add zero f g = refl
sum_add (suc n) f g = omega (arith, sum_add n f g)

pub sum_twice : (n : ℕ) (f : ℕ → ℕ) → sum_below n (λ w. 2 * f w) ≡ 2 * sum_below n f
sum_twice zero f = refl
sum_twice (suc n) f = omega (arith, sum_twice n f)

pub sum_zero : (n : ℕ) (f : ℕ → ℕ) → ((w : ℕ) → w < n → f w ≡ 0) → sum_below n f ≡ 0
sum_zero zero f h = refl
sum_zero (suc n) f h = omega (arith, sum_zero n f (λ w l. h w (omega arith)), h n (omega arith))

pub sum_ones : (n : ℕ) → sum_below n (λ w. 1) ≡ n
sum_ones zero = refl
sum_ones (suc n) = omega (arith, sum_ones n)

pub sum_most : (n c : ℕ) (f : ℕ → ℕ) → ((w : ℕ) → w < n → f w ≤ c) → sum_below n f ≤ n * c
sum_most zero c f h = omega arith
sum_most (suc n) c f h = omega (arith, sum_most n c f (λ w l. h w (omega arith)), h n (omega arith))

pub sum_at : (n v : ℕ) (f : ℕ → ℕ) → v < n → f v ≤ sum_below n f
sum_at zero v f h = absurd (omega arith)
sum_at (suc n) v f h = elim (split v n) [
  | inl l ↦ omega (arith, sum_at n v f l)
  | inr l ↦ let e : v ≡ n = omega arith in rw e (omega arith)
]

-- One place changed: new sum + old term = old sum + new term.
pub sum_change : (n v : ℕ) (f g : ℕ → ℕ) → v < n → ((w : ℕ) → w ≢ v → g w ≡ f w) → sum_below n g + f v ≡ sum_below n f + g v
sum_change zero v f g h other = absurd (omega arith)
sum_change (suc n) v f g h other = elim (split v n) [
  | inl l ↦ omega (arith, sum_change n v f g l other, other n (omega arith))
  | inr l ↦ let e : v ≡ n = omega arith in rw e (omega (arith, sum_same n g f (λ w k. other w (omega arith))))
]

pub length_list_below : {A : Type 0} (n : ℕ) (f : ℕ → A) → length (list_below n f) ≡ n
length_list_below zero f = refl
length_list_below (suc n) f = rw length-append (omega (arith, length_list_below n f))

pub get_d_list_below : {A : Type 0} (n i : ℕ) (f : ℕ → A) (d : A) → i < n → get_or (list_below n f) i d ≡ f i
get_d_list_below zero i f d h = absurd (omega arith)
get_d_list_below (suc n) i f d h = elim (split i n) [
  | inl l ↦ get_or-append (list_below n f) (f n ∷ []) d i (rw length_list_below l) ∙ get_d_list_below n i f d l
  | inr l ↦ let e : i ≡ n = omega arith in rw e (get_or_at (list_below n f) (f n) [] d n (length_list_below n f))
]
