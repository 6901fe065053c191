-- Bounds set anew, for buckets of any sizes: u(i), u(i + 1), .., `left` of them, up to t (document 01, "Two-level heap").
use Prim.Native.Nat.{ℕ, zero, suc, ◌+◌, ◌-◌, ◌≤◌, ◌<◌, min}
use native.Mathlib.Numerals.{add-one}
use native.Mathlib.Omega.{arith}
use mathlib.Core.Path.{◌≡◌, refl, sym, ◌∙◌}
use mathlib.Core.Logic.{inl, inr}
use mathlib.Core.List.{List}
use lib.ListN.{length, drop, set, length-set}
use lib.Seq.{get_or-set_same, get_or-set_other, drop-set-add}
use Rattle.theory.specs.Heap.{bound, rebound}
use Rattle.theory.proofs.Cases.{same?}

module _ (size : ℕ → ℕ) (t : ℕ) where
  -- Lists that agree at a place agree there afterwards.
  pub rebound_alike : (before i left : ℕ) (u u' : List ℕ) (p : ℕ) → i + left ≤ length u → i + left ≤ length u' → bound u p ≡ bound u' p
      → bound (rebound size t before i left u) p ≡ bound (rebound size t before i left u') p
  unfolding rebound
  rebound_alike before i zero u u' p long long' e = e
  rebound_alike before i (suc left) u u' p long long' e =
      let y : ℕ = min (before + size i) t in
      rebound_alike y (suc i) left (set u i y) (set u' i y) p (rw length-set (omega arith)) (rw length-set (omega arith))
      (elim (same? p i) [
        | inl q ↦ rw q (get_or-set_same u i y 0 (omega arith) ∙ sym (get_or-set_same u' i y 0 (omega arith)))
        | inr n ↦ get_or-set_other u i p y 0 n ∙ e ∙ sym (get_or-set_other u' i p y 0 n)
      ])

  -- One turn of the code: the bounds that are left to set, where words stand before the bounds.
  pub rebound_turn : (before i to m : ℕ) (w : List ℕ) → i < to
      → rebound size t (min (before + size i) t) (i + 1) (to - (i + 1)) (drop m (set w (m + i) (min (before + size i) t)))
      ≡ rebound size t before i (to - i) (drop m w)
  unfolding rebound
  rebound_turn before i to m w h =
      let e : to - i ≡ suc (to - (i + 1)) = omega arith in rw (e, drop-set-add, add-one)

-- Sizes that agree for the buckets set give the same bounds.
pub rebound_same : (size size' : ℕ → ℕ) (t before i left : ℕ) (u : List ℕ) → ((k : ℕ) → i ≤ k → k < i + left → size k ≡ size' k)
    → rebound size t before i left u ≡ rebound size' t before i left u
unfolding rebound
rebound_same size size' t before i zero u same = refl
rebound_same size size' t before i (suc left) u same =
    let e : size i ≡ size' i = same i (omega arith) (omega arith) in
    rw e (rebound_same size size' t (min (before + size' i) t) (suc i) left _ (λ k l h. same k (omega arith) (omega arith)))
