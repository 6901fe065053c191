-- The checks of a road file, in order (document 02, paper 1).
use Rattle.std.specs.Prelude.{ℕ, suc, ◌+◌, max, Bool, ◌||◌, List, [], ◌∷◌, ◌++◌, Option, Some, None, ltb, leb, Ok, Err}
use Rattle.model.specs.Answers.{Check, fault_of}
use Rattle.model.specs.declared.Fault.{Fault}
use Rattle.model.specs.declared.Kind.TheVariants.{Head, Cost, Tail, RoadForm, RoadOrder}
use Rattle.check_numbers.specs.Numbers.{fault_if, nodes_check, head_count_check, ceiling_check}
use Rattle.checks.specs.Checks.{first_fault, map_lists, lent_checks}
use Rattle.dimacs_lines.specs.declared.RoadLine.{RoadLine}
use Rattle.dimacs_lines.specs.declared.Told.{Told}
use Rattle.dimacs_lines.specs.declared.Told.TheVariants.{Comment, Problem, RoadArc}
use Rattle.dimacs_lines.specs.Lines.{road_lines}

-- ---- the lines up to the `p` line

-- What they come to: the fault, or the numbers n and m with the number of lines up to the `p` line and the lines behind
-- it (document 02, paper 1).
pub data Heading : Type 0 where
  unheaded : Fault → Heading
  headed : (nodes arcs before : ℕ) → (lines : List (Option RoadLine)) → Heading

-- A line by what it tells, with the lines behind it and what they come to: a comment is passed over, and an arc before the `p` line is 19 with
-- its number (document 02, paper 1).
abbrev pub heading_at : Told → (line : ℕ) → (lines : List (Option RoadLine)) → (behind : Heading) → Heading
heading_at Comment line lines behind = behind
heading_at (RoadArc tail head cost) line lines behind = unheaded (fault_of RoadOrder line)
heading_at (Problem nodes arcs) line lines behind = headed nodes arcs line lines

-- An ill-formed line is 18 with its number; a `p` line lacking at the end is 19 with the last line, 1 for an empty file (document 02, paper
-- 1).
unfoldable pub heading_from : (before : ℕ) → List (Option RoadLine) → Heading
heading_from before [] = unheaded (fault_of RoadOrder (max before 1))
heading_from before (None ∷ lines) = unheaded (fault_of RoadForm (suc before))
heading_from before (Some found ∷ lines) = heading_at found.told (suc before) lines (heading_from (suc before) lines)

-- The heading of a file (document 02, paper 1).
abbrev pub road_heading : List ℕ → Heading
road_heading bytes = heading_from 0 (road_lines bytes)

-- The `p` line by 1, 4, 2 and 10 (document 02, paper 1).
unfoldable pub problem_checks : (n m C starts heads costs : ℕ) → List Check
problem_checks n m C starts heads costs = nodes_check n ∷ head_count_check m ∷ ceiling_check C ∷ lent_checks 0 (map_lists n m starts heads costs)

-- ---- the lines behind it

-- A node of the file is outside 1 to n (document 02, paper 1).
abbrev pub outside : (n node : ℕ) → Bool
outside n node = ltb node 1 || ltb n node

-- An arc by 12, 7 and 8, with the count of `a` lines before it (document 02, paper 1).
unfoldable pub road_arc_checks : (n C read tail head cost : ℕ) → List Check
road_arc_checks n C read tail head cost =
    fault_if Tail read (outside n tail) ∷ fault_if Head read (outside n head) ∷ fault_if Cost read (ltb C cost) ∷ []

-- A line behind the `p` line by what it tells, where `read` is the count of `a` lines before it: a second `p` line is 19, and so is an arc
-- beyond m, before its other checks (document 02, paper 1).
abbrev pub told_check : (n m C read line : ℕ) → Told → Check
told_check n m C read line Comment = Ok tt
told_check n m C read line (Problem nodes arcs) = Err (fault_of RoadOrder line)
told_check n m C read line (RoadArc tail head cost) =
    first_fault (fault_if RoadOrder line (leb m read) ∷ road_arc_checks n C read tail head cost)

-- A line behind the `p` line: ill-formed is 18 (document 02, paper 1).
abbrev pub road_line_check : (n m C read line : ℕ) → Option RoadLine → Check
road_line_check n m C read line None = Err (fault_of RoadForm line)
road_line_check n m C read line (Some found) = told_check n m C read line found.told

-- How many arcs a line tells (document 02, paper 1).
abbrev pub arcs_told : Told → ℕ
arcs_told Comment = 0
arcs_told (Problem nodes arcs) = 0
arcs_told (RoadArc tail head cost) = 1

-- The same of a line that may be ill-formed (document 02, paper 1).
abbrev pub arcs_in : Option RoadLine → ℕ
arcs_in None = 0
arcs_in (Some found) = arcs_told found.told

-- The lines behind the `p` line, where `before` lines and `read` arcs came before them; an arc lacking at the end is 19 with the last line
-- (document 02, paper 1).
unfoldable pub lines_check : (n m C read before : ℕ) → List (Option RoadLine) → Check
lines_check n m C read before [] = fault_if RoadOrder before (ltb read m)
lines_check n m C read before (found ∷ lines) =
    first_fault (road_line_check n m C read (suc before) found ∷ lines_check n m C (read + arcs_in found) (suc before) lines ∷ [])

-- ---- the file

-- The heading, then the lines behind it (document 02, paper 1).
abbrev pub heading_check : Heading → (C starts heads costs : ℕ) → Check
heading_check (unheaded fault) C starts heads costs = Err fault
heading_check (headed n m before lines) C starts heads costs =
    first_fault (problem_checks n m C starts heads costs ++ (lines_check n m C 0 before lines ∷ []))

-- The checks of a road file, its ceiling C and the words of the lists lent for it (document 02, paper 1).
unfoldable pub road_check : List ℕ → (C starts heads costs : ℕ) → Check
road_check bytes C starts heads costs = heading_check (road_heading bytes) C starts heads costs
