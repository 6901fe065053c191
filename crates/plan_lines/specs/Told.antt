-- What the lines behind line 1 tell, and the bytes that they take (document 01, "Planning file"; document 02, paper 2).
use Rattle.std.specs.Prelude.{ℕ, zero, suc, ◌+◌, Bool, true, false, List, [], ◌∷◌, drop, replicate, Option, None, Some}
use Rattle.cursor.specs.declared.LineNumbers.{LineNumbers}
use Rattle.cursor.specs.Lines.{line_numbers}
use Rattle.grouping.specs.Arcs.{PlanArc}
use Rattle.plan_lines.specs.declared.ArcLine.{ArcLine}
use Rattle.plan_lines.specs.declared.HoldLine.{HoldLine}
use Rattle.plan_lines.specs.Lines.{arc_line, hold_line}

-- ---- how far lines reach

-- A line's bytes, and those of the lines behind it; from an ill-formed line on none are counted (document 01, "Planning file").
abbrev pub taken_and_behind : Option LineNumbers → (behind : ℕ → ℕ) → ℕ
taken_and_behind None behind = 0
taken_and_behind (Some line) behind = line.taken + behind line.taken

-- The bytes that so many lines of so many fields take (document 01, "Planning file").
unfoldable pub lines_taken : (width left : ℕ) → List ℕ → ℕ
lines_taken width zero bytes = 0
lines_taken width (suc left) bytes = taken_and_behind (line_numbers width bytes) (λ taken. lines_taken width left (drop taken bytes))

-- The bytes behind these lines (document 01, "Planning file").
abbrev pub behind_lines : (width count : ℕ) → List ℕ → List ℕ
behind_lines width count bytes = drop (lines_taken width count bytes) bytes

-- The bytes behind the lines of m arcs (document 01, "Planning file").
abbrev pub behind_arcs : (m : ℕ) → List ℕ → List ℕ
behind_arcs m bytes = behind_lines 3 m bytes

-- ---- arcs

-- An arc's line, and the arcs behind the bytes that it takes (document 01, "Planning file").
abbrev pub arc_and_behind : Option ArcLine → (behind : ℕ → List PlanArc) → List PlanArc
arc_and_behind None behind = []
arc_and_behind (Some line) behind = record { tail = line.tail; head = line.head; cost = line.cost } ∷ behind line.taken

-- The arcs of so many lines (document 01, "Planning file").
unfoldable pub lines_arcs : (left : ℕ) → List ℕ → List PlanArc
lines_arcs zero bytes = []
lines_arcs (suc left) bytes = arc_and_behind (arc_line bytes) (λ taken. lines_arcs left (drop taken bytes))

-- ---- holds

-- A hold's line, and the holds behind the bytes that it takes (document 02, paper 2).
abbrev pub hold_and_behind : Option HoldLine → (behind : ℕ → List ℕ) → List ℕ
hold_and_behind None behind = []
hold_and_behind (Some line) behind = line.hold ∷ behind line.taken

-- The holds of so many lines (document 02, paper 2).
unfoldable pub lines_holds : (left : ℕ) → List ℕ → List ℕ
lines_holds zero bytes = []
lines_holds (suc left) bytes = hold_and_behind (hold_line bytes) (λ taken. lines_holds left (drop taken bytes))

-- The number of hold lines: one for each node, where line 1 says that holds are told (document 02, paper 2).
abbrev pub held_lines : (held : Bool) (n : ℕ) → ℕ
held_lines false n = 0
held_lines true n = n

-- A hold for each node: that of its line, and 0 where none are told (document 02, paper 2).
abbrev pub node_holds : (held : Bool) (n : ℕ) → List ℕ → List ℕ
node_holds false n bytes = replicate n 0
node_holds true n bytes = lines_holds n bytes
