-- Tallies count by count: when two are equal, what those of the steps say, and what a label is to them. Assumes nothing.
use native.Mathlib.Omega.{arith}
use mathlib.Core.Path.{◌≡◌, refl, ap}
use Prim.Native.Nat.{ℕ}
use Rattle.theory.specs.Search.{unlabelled, labelled}
use Rattle.state.specs.declared.Tally.{Tally}
use Rattle.state.specs.Tallies.{insertion, decrease, reads, after_event, after_label}

-- Tallies are equal where each count is.
pub same_tally : {t t' : Tally} → t.insertions ≡ t'.insertions → t.decreases ≡ t'.decreases → t.shifts ≡ t'.shifts → t.looks ≡ t'.looks → t.reads ≡ t'.reads → t ≡ t'
same_tally p q r e f i = record { insertions = p i; decreases = q i; shifts = r i; looks = e i; reads = f i }

-- Each count of tallies that are equal.
module _ {t t' : Tally} (e : t ≡ t') where
  pub same_insertions : t.insertions ≡ t'.insertions
  same_insertions = ap (λ (k : Tally). k.insertions) e

  pub same_decreases : t.decreases ≡ t'.decreases
  same_decreases = ap (λ (k : Tally). k.decreases) e

  pub same_shifts : t.shifts ≡ t'.shifts
  same_shifts = ap (λ (k : Tally). k.shifts) e

  pub same_looks : t.looks ≡ t'.looks
  same_looks = ap (λ (k : Tally). k.looks) e

  pub same_reads : t.reads ≡ t'.reads
  same_reads = ap (λ (k : Tally). k.reads) e

-- A label of an unlabelled node is an insertion, that of a labelled one a decrease, each with the reads of its search.
pub label_insertion : (read : ℕ) (t : Tally) → after_event (reads read) (after_event insertion t) ≡ after_label unlabelled read t
label_insertion read t = same_tally refl (omega arith) refl refl refl

pub label_decrease : (read : ℕ) (t : Tally) → after_event (reads read) (after_event decrease t) ≡ after_label labelled read t
label_decrease read t = same_tally (omega arith) refl refl refl refl
