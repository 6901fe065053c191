-- What a row holds: its length, its entries, and when an entry is a power. Assumes nothing.
use mathlib.Core.Path.{◌≡◌, refl, ap, ◌∙◌}
use mathlib.Core.Bool.{Bool, true, false, cond, ◌&&◌}
use mathlib.Core.Logic.{◌⊎◌, inl, inr}
use Prim.Native.Nat.{ℕ, zero, suc, ◌+◌, ◌-◌, ◌^◌, ◌≤◌, ◌<◌}
use native.Mathlib.Nat.{add-zero, add-suc, suc-add}
use native.Mathlib.Omega.{arith}
use borrow.Author.Tests.{lt-ltb, le-leb, lt-leb, ne_eqb}
use lib.ListN.{length, get_or, replicate}
use lib.Dec.{leb}
use Rattle.powers.specs.Powers.{power, entries, power_row}

-- ---- an entry

pub power_is : (K i : ℕ) → (i ≡ 0) ⊎ (K ^ (i - 1) < 1048576) → power K i ≡ K ^ i
unfolding power
power_is K zero h = refl
power_is K (suc i) (inl e) = absurd (omega arith)
power_is K (suc i) (inr h) = simp (ne_eqb (suc i) 0 (omega arith), lt-ltb (K ^ (suc i - 1)) 1048576 h)

-- ---- a row

pub row_length : (K : ℕ) → length (power_row K) ≡ 21
unfolding power_row
row_length K = go (leb 2 K && leb K 64)
  where
    go : (t : Bool) → length (cond t (entries K 0 21) (replicate 21 0)) ≡ 21
    go true = refl
    go false = refl

entries_at : (K i count k : ℕ) → k < count → get_or (entries K i count) k 0 ≡ power K (i + k)
entries_at K i zero k h = absurd (omega arith)
entries_at K i (suc count) zero h = rw add-zero
entries_at K i (suc count) (suc k) h = entries_at K (suc i) count k (omega arith) ∙ rw (suc-add, add-suc)

pub row_at : (K i : ℕ) → 2 ≤ K → K ≤ 64 → i ≤ 20 → get_or (power_row K) i 0 ≡ power K i
unfolding power_row
row_at K i low high h = simp (le-leb 2 K low, le-leb K 64 high) (entries_at K 0 21 i (omega arith) ∙ ap (power K) (omega arith))

pub row_none : (K : ℕ) → (K < 2) ⊎ (64 < K) → power_row K ≡ replicate 21 0
unfolding power_row
row_none K (inl h) = simp (lt-leb 2 K h)
row_none K (inr h) = simp (le-leb 2 K (omega arith), lt-leb K 64 h)
