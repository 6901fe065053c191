-- The three kinds of line of a planning file (document 01, "Planning file"; document 02, paper 2).
use Rattle.std.specs.Prelude.{ℕ, Bool, true, false, cond, List, eqb, get_or, Option, None, Some}
use Rattle.cursor.specs.declared.LineNumbers.{LineNumbers}
use Rattle.cursor.specs.Lines.{line_numbers}
use Rattle.plan_lines.specs.declared.ArcLine.{ArcLine}
use Rattle.plan_lines.specs.declared.HoldLine.{HoldLine}
use Rattle.plan_lines.specs.declared.HeaderLine.{HeaderLine}

-- The three numbers of an arc's line: tail, head, cost (document 01, "Planning file").
abbrev pub arc_of : Option LineNumbers → Option ArcLine
arc_of None = None
arc_of (Some line) = Some (record { tail = get_or line.numbers 0 0; head = get_or line.numbers 1 0; cost = get_or line.numbers 2 0; taken = line.taken })

-- The arc's line at the front of the bytes (document 01, "Planning file").
unfoldable pub arc_line : List ℕ → Option ArcLine
arc_line bytes = arc_of (line_numbers 3 bytes)

-- The one number of a hold's line (document 02, paper 2).
abbrev pub hold_line_of : Option LineNumbers → Option HoldLine
hold_line_of None = None
hold_line_of (Some line) = Some (record { hold = get_or line.numbers 0 0; taken = line.taken })

-- The hold's line at the front of the bytes (document 02, paper 2).
unfoldable pub hold_line : List ℕ → Option HoldLine
hold_line bytes = hold_line_of (line_numbers 1 bytes)

-- Line 1's first five numbers, n, m, C, source and K, beside what is told of holds (document 01, "Planning file").
abbrev pub header_told : LineNumbers → (held : Bool) → HeaderLine
header_told line told = record {
  nodes = get_or line.numbers 0 0;
  arcs = get_or line.numbers 1 0;
  ceiling = get_or line.numbers 2 0;
  source = get_or line.numbers 3 0;
  segments = get_or line.numbers 4 0;
  held = told;
  taken = line.taken;
}

-- Line 1 of six fields: n, m, C, source, K and 1, which says that holds are told (document 02, paper 2).
abbrev pub held_header_of : Option LineNumbers → Option HeaderLine
held_header_of None = None
held_header_of (Some line) = cond (eqb (get_or line.numbers 5 0) 1) (Some (header_told line true)) None

-- Line 1 of five fields, which tells no holds: n, m, C, source, K (document 01, "Planning file"); else of six (document 02, paper 2).
abbrev pub header_of : (five six : Option LineNumbers) → Option HeaderLine
header_of None six = held_header_of six
header_of (Some line) six = Some (header_told line false)

-- Line 1, at the front of the bytes (document 01, "Planning file"; document 02, paper 2).
unfoldable pub header_line : List ℕ → Option HeaderLine
header_line bytes = header_of (line_numbers 5 bytes) (line_numbers 6 bytes)
