-- Small facts used all over: the cases of a comparison and of a mark, and constructors that differ.
use Prim.Native.Nat.{ℕ, ◌≤◌, ◌<◌}
use native.Mathlib.Omega.{arith}
use mathlib.Core.Path.{◌≡◌, refl}
use mathlib.Core.Bool.{Bool, true, false}
use mathlib.Core.Logic.{◌⊎◌, inl, inr, ◌≢◌}
use lib.Dec.{ltb, eqb}
use borrow.Author.Tests.{ltb-true, ltb-false, eqb-true, eqb-false}
use Rattle.theory.specs.Search.{Mark, unlabelled, labelled, scanned}

pub split : (a b : ℕ) → (a < b) ⊎ (b ≤ a)
split a b = go (ltb a b) refl
  where
    go : (t : Bool) → ltb a b ≡ t → (a < b) ⊎ (b ≤ a)
    go true e = inl (ltb-true a b e)
    go false e = inr (ltb-false a b e)

pub same? : (a b : ℕ) → (a ≡ b) ⊎ (a ≢ b)
same? a b = go (eqb a b) refl
  where
    go : (t : Bool) → eqb a b ≡ t → (a ≡ b) ⊎ (a ≢ b)
    go true e = inl (eqb-true a b e)
    go false e = inr (eqb-false a b e)

-- `differ (cc)` proves anything where two constructors are said to be equal.
pub differ : {A : Type 0} → ◌≡◌ {A = ℕ} 0 1 → A
differ e = absurd (omega arith)

pub labelled≢scanned : labelled ≢ scanned
labelled≢scanned e = differ (cc)

pub labelled≢unlabelled : labelled ≢ unlabelled
labelled≢unlabelled e = differ (cc)

pub scanned≢unlabelled : scanned ≢ unlabelled
scanned≢unlabelled e = differ (cc)

pub mark_cases : {A : Type 0} (k : Mark) → (k ≡ unlabelled → A) → (k ≡ labelled → A) → (k ≡ scanned → A) → A
mark_cases unlabelled u l c = u refl
mark_cases labelled u l c = l refl
mark_cases scanned u l c = c refl
