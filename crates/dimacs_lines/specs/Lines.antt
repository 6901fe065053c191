-- The lines of a road file (document 02, paper 1).
use Rattle.std.specs.Prelude.{ℕ, zero, suc, ◌+◌, ◌-◌, Bool, true, false, cond, ◌&&◌, List, [], ◌∷◌, Option, Some, None, eqb, get_or, drop}
use Rattle.fields.specs.Fields.{Line, line_feed, line}
use Rattle.fields.specs.Fields as fields
use Rattle.dimacs_lines.specs.declared.RoadLine.{RoadLine}
use Rattle.dimacs_lines.specs.declared.Told.{Told}
use Rattle.dimacs_lines.specs.declared.Told.TheVariants.{Comment, Problem, RoadArc}

-- ---- what a line begins with

-- Fields are parted by one space (document 02, paper 1).
abbrev pub space : ℕ
space = 32

-- `c`, with which a comment begins (document 02, paper 1).
abbrev pub comment_prefix : List ℕ
comment_prefix = 99 ∷ []

-- `p sp `, and the numbers n and m behind it (document 02, paper 1).
abbrev pub problem_prefix : List ℕ
problem_prefix = 112 ∷ 32 ∷ 115 ∷ 112 ∷ 32 ∷ []

-- `a `, and tail, head and cost behind it (document 02, paper 1).
abbrev pub arc_prefix : List ℕ
arc_prefix = 97 ∷ 32 ∷ []

-- The bytes begin with a prefix (document 02, paper 1).
unfoldable pub begins : (prefix bytes : List ℕ) → Bool
begins [] bytes = true
begins (letter ∷ prefix) [] = false
begins (letter ∷ prefix) (byte ∷ bytes) = eqb byte letter && begins prefix bytes

-- ---- one line

-- What a line tells, and the bytes that it takes (document 02, paper 1).
abbrev pub line_of : Told → (taken : ℕ) → RoadLine
line_of told taken = record { told = told; taken = taken }

-- A comment, of which `taken` bytes were read: any bytes up to its line feed, without which there is no line (document 02, paper 1).
unfoldable pub comment_from : (taken : ℕ) → List ℕ → Option RoadLine
comment_from taken [] = None
comment_from taken (byte ∷ bytes) = cond (eqb byte line_feed) (Some (line_of Comment (suc taken))) (comment_from (suc taken) bytes)

-- The numbers of a `p` line (document 02, paper 1).
abbrev pub problem_of : Line → Option RoadLine
problem_of fields.NoLine = None
problem_of (fields.Numbers values taken) = Some (line_of (Problem (get_or values 0 0) (get_or values 1 0)) (5 + taken))

-- A `p` line, by what stands behind its five bytes `p sp ` (document 02, paper 1).
abbrev pub problem_line : List ℕ → Option RoadLine
problem_line bytes = problem_of (line space 2 (drop 5 bytes))

-- The numbers of an `a` line (document 02, paper 1).
abbrev pub road_arc_of : Line → Option RoadLine
road_arc_of fields.NoLine = None
road_arc_of (fields.Numbers values taken) = Some (line_of (RoadArc (get_or values 0 0) (get_or values 1 0) (get_or values 2 0)) (2 + taken))

-- An `a` line, by what stands behind its two bytes `a ` (document 02, paper 1).
abbrev pub road_arc_line : List ℕ → Option RoadLine
road_arc_line bytes = road_arc_of (line space 3 (drop 2 bytes))

-- The line at the front of the bytes; None for an ill-formed one, also where they are empty (document 02, paper 1).
unfoldable pub road_line : List ℕ → Option RoadLine
road_line bytes =
    cond (begins comment_prefix bytes) (comment_from 0 bytes)
    (cond (begins problem_prefix bytes) (problem_line bytes)
    (cond (begins arc_prefix bytes) (road_arc_line bytes)
    None))

-- ---- all lines

-- A line and those behind the bytes that it takes; none is read behind one that is ill-formed (document 02, paper 1).
abbrev pub line_and_behind : Option RoadLine → (behind : ℕ → List (Option RoadLine)) → List (Option RoadLine)
line_and_behind None behind = None ∷ []
line_and_behind (Some line) behind = Some line ∷ behind line.taken

-- The lines of a file, where `passed` bytes at the front belong to the line before (document 02, paper 1: line by line).
unfoldable pub lines_from : (passed : ℕ) → List ℕ → List (Option RoadLine)
lines_from passed [] = []
lines_from (suc passed) (byte ∷ bytes) = lines_from passed bytes
lines_from zero (byte ∷ bytes) = line_and_behind (road_line (byte ∷ bytes)) (λ taken. lines_from (taken - 1) bytes)

-- The lines of a file, up to the first that is ill-formed (document 02, paper 1).
abbrev pub road_lines : List ℕ → List (Option RoadLine)
road_lines bytes = lines_from 0 bytes
