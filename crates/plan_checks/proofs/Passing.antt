-- The checks of the arcs' lines and of the holds' lines, one line at a time. Assumes nothing.
use mathlib.Core.Path.{◌≡◌, refl, sym, ◌∙◌, ap}
use mathlib.Core.List.{List, [], ◌∷◌, ◌++◌}
use Prim.Native.Nat.{ℕ, suc, ◌+◌, ◌-◌, ◌≤◌, ◌<◌}
use native.Mathlib.Nat.{sub-zero}
use native.Mathlib.Numerals.{add-one}
use native.Mathlib.Omega.{arith}
use lib.ListN.{length, drop}
use lib.Seq.{drop-drop}
use borrow.Author.Tests.{lt-ltb, le-ltb}
use Rattle.model.specs.Answers.{Check, fault_of}
use Rattle.std.specs.Prelude.{Ok, Err, None, Some}
use Rattle.model.specs.declared.Kind.TheVariants.{PlanLine, Hold}
use Rattle.model.specs.declared.Fault.{Fault}
use Rattle.check_numbers.specs.Numbers.{fault_if}
use Rattle.checks.specs.Checks.{first_fault}
use Rattle.checks.proofs.Order.{one, stopped, gone_on}
use Rattle.plan_lines.specs.Lines.{arc_line, hold_line}
use Rattle.plan_lines.specs.Told.{lines_taken}
use Rattle.plan_lines.proofs.Reach.{Reached, reached_start, reached_next, reached_end}
use Rattle.plan_lines.proofs.Fields.{arc_line_lem, hold_line_lem}
use Rattle.plan_checks.specs.Checking.{arc_checks, arcs_check, hold_check, hold_lines_check, lines_end_of}

-- ---- the arcs' lines after i of them

pub record Checked (n C m : ℕ) (bytes : List ℕ) (from at i before : ℕ) : Type 0 where
  pub reached : Reached 3 m bytes from at i
  pub same : arcs_check n C m 0 0 (drop from bytes) ≡ arcs_check n C (m - i) i before (drop at bytes)

pub checked_start : (n C m : ℕ) (bytes : List ℕ) (from : ℕ) → from ≤ length bytes → Checked n C m bytes from from 0 0
checked_start n C m bytes from h = record { reached = reached_start 3 m bytes from h; same = rw sub-zero }

module _ {n C m : ℕ} {bytes : List ℕ} {from at i before : ℕ} (c : Checked n C m bytes from at i before) where
  -- what the arcs' lines have come to
  abbrev ends : Check → Type 0
  ends found = lines_end_of found (from + lines_taken 3 m (drop from bytes)) ≡ lines_end_of (arcs_check n C m 0 0 (drop from bytes)) (from + lines_taken 3 m (drop from bytes))

  pub line_missing : i < m → arc_line (drop at bytes) ≡ None → ends (Err (fault_of PlanLine (i + 2)))
  unfolding arcs_check
  line_missing l e =
      let left : m - i ≡ suc (m - suc i) = omega arith in
      rw (c.same, left, e)

  module _ {tail head cost taken : ℕ} (l : i < m) (e : arc_line (drop at bytes) ≡ Some (record { tail = tail; head = head; cost = cost; taken = taken })) where
    split : arcs_check n C m 0 0 (drop from bytes)
        ≡ first_fault (arc_checks n C i before tail head cost ++ (arcs_check n C (m - suc i) (suc i) tail (drop taken (drop at bytes)) ∷ []))
    unfolding arcs_check
    split =
        let left : m - i ≡ suc (m - suc i) = omega arith in
        c.same ∙ rw (left, e)

    pub arc_fails_lem : {fault : Fault} → Err fault ≡ first_fault (arc_checks n C i before tail head cost) → ends (Err fault)
    arc_fails_lem f = ap (λ (found : Check). lines_end_of found (from + lines_taken 3 m (drop from bytes)))
        (stopped (arc_checks n C i before tail head cost) _ f refl ∙ sym split)

    pub checked_next : first_fault (arc_checks n C i before tail head cost) ≡ Ok tt → Checked n C m bytes from (at + taken) (i + 1) tail
    checked_next f = record {
      reached = reached_next c.reached l (arc_line_lem (drop at bytes) e);
      same = rw add-one
          (split
          ∙ sym (gone_on (arc_checks n C i before tail head cost) f (one refl))
          ∙ ap (arcs_check n C (m - suc i) (suc i) tail) (drop-drop taken at bytes));
    }

  pub checked_end : m ≤ i → Ok at ≡ lines_end_of (arcs_check n C m 0 0 (drop from bytes)) (from + lines_taken 3 m (drop from bytes))
  unfolding arcs_check
  checked_end l =
      let none_left : m - i ≡ 0 = omega arith in
      let passed : arcs_check n C m 0 0 (drop from bytes) ≡ Ok tt = rw none_left at c.same in
      rw (passed, sym (reached_end c.reached l)) refl

-- ---- the holds' lines after v of them

pub record HoldsChecked (C m n : ℕ) (bytes : List ℕ) (from at v : ℕ) : Type 0 where
  pub reached : Reached 1 n bytes from at v
  pub same : hold_lines_check C m n 0 (drop from bytes) ≡ hold_lines_check C m (n - v) v (drop at bytes)

pub lines_start : (C m n : ℕ) (bytes : List ℕ) (from : ℕ) → from ≤ length bytes → HoldsChecked C m n bytes from from 0
lines_start C m n bytes from h = record { reached = reached_start 1 n bytes from h; same = rw sub-zero }

module _ {C m n : ℕ} {bytes : List ℕ} {from at v : ℕ} (c : HoldsChecked C m n bytes from at v) where
  abbrev lines_end : Check → Type 0
  lines_end found = lines_end_of found (from + lines_taken 1 n (drop from bytes)) ≡ lines_end_of (hold_lines_check C m n 0 (drop from bytes)) (from + lines_taken 1 n (drop from bytes))

  pub hold_missing : v < n → hold_line (drop at bytes) ≡ None → lines_end (Err (fault_of PlanLine (m + 2 + v)))
  unfolding hold_lines_check
  hold_missing l e =
      let left : n - v ≡ suc (n - suc v) = omega arith in
      let line : m + 2 + v ≡ m + v + 2 = omega arith in
      rw (c.same, left, e, line)

  module _ {hold taken : ℕ} (l : v < n) (e : hold_line (drop at bytes) ≡ Some (record { hold = hold; taken = taken })) where
    left : n - v ≡ suc (n - suc v)
    left = omega arith

    pub hold_fails : C < hold → lines_end (Err (fault_of Hold v))
    unfolding hold_lines_check fault_if first_fault
    hold_fails above = rw (c.same, left, e, lt-ltb C hold above)

    hold_split : hold_lines_check C m n 0 (drop from bytes)
        ≡ first_fault (hold_check C v hold ∷ hold_lines_check C m (n - suc v) (suc v) (drop taken (drop at bytes)) ∷ [])
    unfolding hold_lines_check
    hold_split = c.same ∙ rw (left, e)

    hold_passes : hold ≤ C → first_fault (hold_check C v hold ∷ []) ≡ Ok tt
    unfolding fault_if first_fault
    hold_passes low = rw (le-ltb C hold low)

    pub lines_next : hold ≤ C → HoldsChecked C m n bytes from (at + taken) (v + 1)
    lines_next low = record {
      reached = reached_next c.reached l (hold_line_lem (drop at bytes) e);
      same = rw add-one
          (hold_split
          ∙ sym (gone_on (hold_check C v hold ∷ []) (hold_passes low) (one refl))
          ∙ ap (hold_lines_check C m (n - suc v) (suc v)) (drop-drop taken at bytes));
    }

  pub lines_passed : n ≤ v → Ok at ≡ lines_end_of (hold_lines_check C m n 0 (drop from bytes)) (from + lines_taken 1 n (drop from bytes))
  unfolding hold_lines_check
  lines_passed l =
      let none_left : n - v ≡ 0 = omega arith in
      let passed : hold_lines_check C m n 0 (drop from bytes) ≡ Ok tt = rw none_left at c.same in
      rw (passed, sym (reached_end c.reached l)) refl
