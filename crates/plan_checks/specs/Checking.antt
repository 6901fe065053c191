-- The checks of a planning file, in order (document 01, "What a call returns"; document 02, paper 2).
use Rattle.std.specs.Prelude.{ℕ, zero, suc, ◌+◌, ◌≤◌, Bool, ◌||◌, ◌≡◌, List, [], ◌∷◌, ◌++◌, ltb, leb, length, drop, Option, None, Some, Result, Ok, Err}
use Rattle.model.specs.Answers.{Check, fault_of}
use Rattle.model.specs.declared.Fault.{Fault}
use Rattle.model.specs.declared.Kind.TheVariants.{Head, Cost, PlanLine, Tail, Hold}
use Rattle.check_numbers.specs.Numbers.{fault_if, nodes_check, head_count_check, ceiling_check, source_check, segments_check}
use Rattle.checks.specs.Checks.{first_fault, file_lists, lent_checks}
use Rattle.grouping.specs.Arcs.{PlanArc}
use Rattle.plan_lines.specs.declared.ArcLine.{ArcLine}
use Rattle.plan_lines.specs.declared.HoldLine.{HoldLine}
use Rattle.plan_lines.specs.declared.HeaderLine.{HeaderLine}
use Rattle.plan_lines.specs.Lines.{arc_line, hold_line, header_line}
use Rattle.plan_lines.specs.Told.{behind_lines, behind_arcs, lines_arcs, held_lines, node_holds}
use Rattle.plan_sums.specs.Sums.{arc_sums_check}

-- ---- lines

-- 11: line missing, ill-formed or left over; lines are counted from 1 (document 01, "What a call returns").
abbrev pub line_fault : (line : ℕ) → Check
line_fault line = Err (fault_of PlanLine line)

-- The line behind line 1 and i others: that of arc i, and with m + v for i that of node v's hold (document 01, "Planning file"; document 02,
-- paper 2).
abbrev pub line_of : (i : ℕ) → ℕ
line_of i = i + 2

-- 11 for bytes that are left over: their line (document 01, "What a call returns").
abbrev pub left_over_check : (line : ℕ) → List ℕ → Check
left_over_check line bytes = fault_if PlanLine line (ltb 0 (length bytes))

-- ---- the arcs

-- 12 for arc i: tail below the one before or not below n (document 01, "What a call returns").
abbrev pub tail_check : (n i before tail : ℕ) → Check
tail_check n i before tail = fault_if Tail i (ltb tail before || leb n tail)

-- 7 for arc i: head not below n (document 01, "What a call returns").
abbrev pub head_check : (n i head : ℕ) → Check
head_check n i head = fault_if Head i (leb n head)

-- 8 for arc i: cost above C (document 01, "What a call returns").
abbrev pub cost_check : (C i cost : ℕ) → Check
cost_check C i cost = fault_if Cost i (ltb C cost)

-- Arc i by 12, 7 and 8; `before` is the tail of the arc before it (document 01, "What a call returns").
unfoldable pub arc_checks : (n C i before tail head cost : ℕ) → List Check
arc_checks n C i before tail head cost = tail_check n i before tail ∷ head_check n i head ∷ cost_check C i cost ∷ []

-- The line of arc i, checked by 11 and then as `read` says (document 01, "What a call returns").
abbrev pub arc_line_check : Option ArcLine → (i : ℕ) → (read : (tail head cost taken : ℕ) → Check) → Check
arc_line_check None i read = line_fault (line_of i)
arc_line_check (Some line) i read = read line.tail line.head line.cost line.taken

-- The lines of arc i and of those behind it, `left` in all, each by 11, 12, 7, 8. No tail is below that before arc 0, which counts as 0
-- (document 01, "What a call returns").
unfoldable pub arcs_check : (n C left i before : ℕ) → List ℕ → Check
arcs_check n C zero i before bytes = Ok tt
arcs_check n C (suc left) i before bytes =
    arc_line_check (arc_line bytes) i
    (λ tail head cost taken.
    first_fault (arc_checks n C i before tail head cost ++ (arcs_check n C left (suc i) tail (drop taken bytes) ∷ [])))

-- ---- the holds

-- 20 for node v: hold above C (document 02, paper 2).
abbrev pub hold_check : (C v hold : ℕ) → Check
hold_check C v hold = fault_if Hold v (ltb C hold)

-- The line of node v's hold behind those of m arcs, checked by 11 and then as `read` says (document 02, paper 2).
abbrev pub hold_line_check : Option HoldLine → (m v : ℕ) → (read : (hold taken : ℕ) → Check) → Check
hold_line_check None m v read = line_fault (line_of (m + v))
hold_line_check (Some line) m v read = read line.hold line.taken

-- The lines of node v's hold and of those behind it, `left` in all, each by 11 and 20 (document 02, paper 2).
unfoldable pub hold_lines_check : (C m left v : ℕ) → List ℕ → Check
hold_lines_check C m zero v bytes = Ok tt
hold_lines_check C m (suc left) v bytes =
    hold_line_check (hold_line bytes) m v
    (λ hold taken. first_fault (hold_check C v hold ∷ hold_lines_check C m left (suc v) (drop taken bytes) ∷ []))

-- ---- the whole file

-- Behind the lines of the arcs: the lines of the holds, where line 1 says that holds are told, left-over bytes, then 8 of each cost together
-- with the tail's hold (document 02, paper 2).
unfoldable pub behind_checks : (n m C : ℕ) (held : Bool) → List PlanArc → List ℕ → List Check
behind_checks n m C held arcs bytes =
    let lines = held_lines held n in
    hold_lines_check C m lines 0 bytes
    ∷ left_over_check (line_of (m + lines)) (behind_lines 1 lines bytes)
    ∷ arc_sums_check C arcs (node_holds held n bytes)
    ∷ []

-- Behind line 1: the lines of the arcs, then what is behind them (document 01, "What a call returns"; document 02, paper 2).
unfoldable pub lines_checks : (n m C : ℕ) (held : Bool) → List ℕ → List Check
lines_checks n m C held bytes = arcs_check n C m 0 0 bytes ∷ behind_checks n m C held (lines_arcs m bytes) (behind_arcs m bytes)

-- Line 1 by 1, 4, 2, 3, 9, 10 (document 01, "What a call returns"; document 02, paper 2).
unfoldable pub header_checks : (n m C source K starts heads costs holds : ℕ) → List Check
header_checks n m C source K starts heads costs holds =
    nodes_check n
    ∷ head_count_check m
    ∷ ceiling_check C
    ∷ source_check n source
    ∷ segments_check K
    ∷ lent_checks 0 (file_lists n m starts heads costs holds)

-- A planning file, and the words of the lists lent for it: line 1 by 11 and its other checks, then the lines behind it (document 01, "What
-- a call returns"; document 02, paper 2).
abbrev pub header_line_check : Option HeaderLine → (bytes : List ℕ) → (starts heads costs holds : ℕ) → Check
header_line_check None bytes starts heads costs holds = line_fault 1
header_line_check (Some line) bytes starts heads costs holds =
    first_fault
    (header_checks line.nodes line.arcs line.ceiling line.source line.segments starts heads costs holds
    ++ lines_checks line.nodes line.arcs line.ceiling line.held (drop line.taken bytes))

-- The checks of a planning file (document 01, "What a call returns"; document 02, paper 2).
unfoldable pub plan_check : List ℕ → (starts heads costs holds : ℕ) → Check
plan_check bytes starts heads costs holds = header_line_check (header_line bytes) bytes starts heads costs holds

-- ---- what the code goes by

-- What lines have come to: the place behind them where they pass (document 01, "What a call returns").
abbrev pub lines_end_of : Check → (behind : ℕ) → Result ℕ Fault
lines_end_of (Ok tt) behind = Ok behind
lines_end_of (Err fault) behind = Err fault

-- The lines of m arcs, from a place of the bytes on, have passed, and another place for what stands behind them lies within the bytes
-- (document 01, "What a call returns").
pub record ArcsPassed (n m C : ℕ) (bytes : List ℕ) (at behind : ℕ) : Type 0 where
  pub passed : arcs_check n C m 0 0 (drop at bytes) ≡ Ok tt
  pub within : at ≤ length bytes
  pub behind_within : behind ≤ length bytes
