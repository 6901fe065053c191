-- The checks of the lines behind the `p` line, one line at a time. Assumes nothing.
use Prim.Native.Nat.{ℕ, suc, ◌+◌, ◌≤◌, ◌<◌}
use native.Mathlib.Omega.{arith}
use native.Mathlib.Numerals.{add-one}
use mathlib.Core.Path.{◌≡◌, refl, sym, ◌∙◌, ap}
use mathlib.Core.List.{List, [], ◌∷◌}
use lib.Dec.{ltb}
use lib.ListN.{length, drop}
use Rattle.std.specs.Prelude.{Option, Some, None, Ok, Err}
use Rattle.model.specs.Answers.{Check, fault_of}
use Rattle.model.specs.declared.Kind.TheVariants.{RoadForm, RoadOrder}
use Rattle.model.specs.declared.Fault.{Fault}
use Rattle.check_numbers.specs.Numbers.{fault_if}
use Rattle.checks.specs.Checks.{first_fault}
use Rattle.checks.proofs.Order.{one, stopped, gone_on}
use Rattle.dimacs_lines.specs.declared.RoadLine.{RoadLine}
use Rattle.dimacs_lines.specs.declared.Told.{Told}
use Rattle.dimacs_lines.specs.declared.Told.TheVariants.{Comment, Problem, RoadArc}
use Rattle.dimacs_lines.specs.Lines.{road_line, line_and_behind, road_lines}
use Rattle.dimacs_lines.proofs.Behind.{lines_at, lines_end, line_some, line_within}
use Rattle.dimacs_checks.specs.Checking.{told_check, arcs_told, lines_check}

pub one_arc_lem : (told : Told) → arcs_told told ≤ 1
one_arc_lem Comment = omega arith
one_arc_lem (Problem nodes arcs) = omega arith
one_arc_lem (RoadArc tail head cost) = omega arith

-- ---- the checks after some lines

module _ (n m C : ℕ) (bytes : List ℕ) (from before : ℕ) where
  abbrev all : Check
  all = lines_check n m C 0 before (road_lines (drop from bytes))

  pub record Checked (at line read : ℕ) : Type 0 where
    pub passed : line ≤ at
    pub few : read ≤ line
    pub within : at ≤ length bytes
    pub same : all ≡ lines_check n m C read line (road_lines (drop at bytes))

  pub checked_start : before ≤ from → from ≤ length bytes → Checked from before 0
  checked_start h w = record { passed = h; few = omega arith; within = w; same = refl }

  module _ {at line read : ℕ} (c : Checked at line read) where
    -- the arcs that lack
    pub checked_end : length bytes ≤ at → fault_if RoadOrder line (ltb read m) ≡ all
    unfolding lines_check
    checked_end l = sym (c.same ∙ rw (lines_end bytes at l))

    -- the lines left, by the first of them
    checked_first : {found : Option RoadLine} → at < length bytes → road_line (drop at bytes) ≡ found
        → all ≡ lines_check n m C read line (line_and_behind found (λ taken. road_lines (drop (at + taken) bytes)))
    checked_first l e = c.same ∙ ap (lines_check n m C read line) (lines_at bytes at l ∙ rw e refl)

    pub ill_formed : at < length bytes → road_line (drop at bytes) ≡ None → Err (fault_of RoadForm (line + 1)) ≡ all
    unfolding lines_check first_fault
    ill_formed l e = rw add-one (sym (checked_first l e))

    module _ {found : RoadLine} (l : at < length bytes) (e : road_line (drop at bytes) ≡ Some found) where
      pub behind_within : at + found.taken ≤ length bytes
      behind_within = line_within bytes at c.within e

      pub some_taken : 1 ≤ found.taken
      some_taken = line_some (drop at bytes) e

      split : all ≡ first_fault (told_check n m C read (suc line) found.told
          ∷ lines_check n m C (read + arcs_told found.told) (suc line) (road_lines (drop (at + found.taken) bytes)) ∷ [])
      unfolding lines_check
      split = checked_first l e

      pub line_fails : {check : Check} {fault : Fault} → check ≡ told_check n m C read (line + 1) found.told → check ≡ Err fault
          → check ≡ all
      line_fails f g = stopped (told_check n m C read (suc line) found.told ∷ []) _ (one (rw add-one at f)).is g ∙ sym split

      pub checked_next : told_check n m C read (line + 1) found.told ≡ Ok tt → Checked (at + found.taken) (line + 1) (read + arcs_told found.told)
      checked_next f = record {
        passed = omega (arith, c.passed, some_taken);
        few = omega (arith, c.few, one_arc_lem found.told);
        within = behind_within;
        same =
            rw add-one
            (split ∙ sym (gone_on (told_check n m C read (suc line) found.told ∷ []) (sym (one (sym (rw add-one at f))).is) (one refl)));
      }
