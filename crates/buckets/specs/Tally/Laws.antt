-- What a store does to a tally, and when a tally is 0. Assumes nothing.
use Rattle.std.specs.Prelude.{◌≡◌, ◌≢◌, eqb, get_or, set}
use Rattle.std.proofs.Math.Path.{refl}
use Rattle.std.proofs.Common.{ap, not-suc-le-zero, le_of_suc-le-suc, eq-eqb, ne_eqb}
use mathlib.Core.List.{List, [], ◌∷◌}
use Prim.Native.Nat.{ℕ, zero, suc, ◌+◌, ◌≤◌, ◌<◌}
use Rattle.std.proofs.Math.Decide.{ℕ_discrete}
use native.Mathlib.Omega.{arith}
use Rattle.std.proofs.Math.ListN.{length}
use Rattle.buckets.specs.Tally.{digit, tally}

module _ (kind : ℕ → ℕ) (k : ℕ) where
  -- what an element adds to the tally
  abbrev one : ℕ → ℕ
  one x = digit (eqb (kind x) k)

  one_here : (x : ℕ) → kind x ≡ k → one x ≡ 1
  one_here x e = ap digit (eq-eqb (kind x) k e)

  one_other : (x : ℕ) → kind x ≢ k → one x ≡ 0
  one_other x d = ap digit (ne_eqb (kind x) k d)

  one_le : (x : ℕ) → one x ≤ 1
  one_le x = go (ℕ_discrete (kind x) k)
    where
      go : Dec (kind x ≡ k) → one x ≤ 1
      go (yes e) = omega (arith, one_here x e)
      go (no d) = omega (arith, one_other x d)

  -- a store counts its element, and no longer the one that was there
  tally_set : (l : List ℕ) (i x : ℕ) → i < length l → tally kind k (set l i x) + one (get_or l i 0) ≡ tally kind k l + one x
  unfolding tally
  tally_set [] i x h = absurd (not-suc-le-zero h)
  tally_set (y ∷ l) zero x h = omega arith
  tally_set (y ∷ l) (suc i) x h =
      let r : tally kind k (set l i x) + one (get_or l i 0) ≡ tally kind k l + one x = tally_set l i x (le_of_suc-le-suc h) in
      omega arith

  module _ (l : List ℕ) (i x : ℕ) (h : i < length l) where
    -- an element of the kind goes, one comes, or none does either
    pub tally_leave : kind (get_or l i 0) ≡ k → kind x ≢ k → suc (tally kind k (set l i x)) ≡ tally kind k l
    tally_leave e d = omega (arith, tally_set l i x h, one_here (get_or l i 0) e, one_other x d)

    pub tally_enter : (kind (get_or l i 0) ≡ k → ⊥) → kind x ≡ k → tally kind k (set l i x) ≡ suc (tally kind k l)
    tally_enter d e = omega (arith, tally_set l i x h, one_other (get_or l i 0) d, one_here x e)

    pub tally_stay : (kind (get_or l i 0) ≡ k → ⊥) → kind x ≢ k → tally kind k (set l i x) ≡ tally kind k l
    tally_stay d e = omega (arith, tally_set l i x h, one_other (get_or l i 0) d, one_other x e)

  pub tally_le : (l : List ℕ) → tally kind k l ≤ length l
  unfolding tally
  tally_le [] = omega arith
  tally_le (y ∷ l) = omega (arith, tally_le l, one_le y)

  pub tally_some : (l : List ℕ) (i : ℕ) → i < length l → kind (get_or l i 0) ≡ k → 0 < tally kind k l
  unfolding tally
  tally_some [] i h e = absurd (not-suc-le-zero h)
  tally_some (y ∷ l) zero h e = omega (arith, one_here y e)
  tally_some (y ∷ l) (suc i) h e = omega (arith, tally_some l i (le_of_suc-le-suc h) e)

  pub tally_find : (l : List ℕ) → 0 < tally kind k l → (i : ℕ) × (i < length l) × (kind (get_or l i 0) ≡ k)
  unfolding tally
  tally_find [] h = absurd (not-suc-le-zero h)
  tally_find (y ∷ l) h =
      elim (ℕ_discrete (kind y) k) [
        | yes e ↦ (zero, omega arith, e)
        | no d ↦
            let r : (i : ℕ) × (i < length l) × (kind (get_or l i 0) ≡ k) = tally_find l (omega (arith, one_other y d)) in
            (suc r.0, omega (arith, r.1), r.2)
      ]

  pub tally_zero : (l : List ℕ) → ((i : ℕ) → i < length l → kind (get_or l i 0) ≢ k) → tally kind k l ≡ 0
  unfolding tally
  tally_zero [] none = refl
  tally_zero (y ∷ l) none =
      omega (arith, one_other y (none zero (omega arith)), tally_zero l (λ i h. none (suc i) (omega arith)))
