-- What the search for the `p` line finds (document 02, paper 1).
use Rattle.std.specs.Prelude.{Result, Ok, Err, ℕ, ◌≤◌, ◌≡◌, List, length, drop}
use Rattle.model.specs.declared.Fault.{Fault}
use Rattle.dimacs_lines.specs.Lines.{road_lines}
use Rattle.dimacs_checks.specs.declared.ProblemLine.{ProblemLine}
use Rattle.dimacs_checks.specs.Checking.{Heading, unheaded, headed, road_heading}

-- What the search for the `p` line answers: the line, or the fault (document 02, paper 1).
abbrev pub ProblemAnswer : Type 0
ProblemAnswer = Result ProblemLine Fault

-- What the answer tells of the bytes: the lines behind the `p` line are those at the place behind it
-- (document 02, paper 1).
abbrev pub heading_of : (bytes : List ℕ) → ProblemAnswer → Heading
heading_of bytes (Ok found) = headed found.nodes found.arcs found.line (road_lines (drop found.at bytes))
heading_of bytes (Err fault) = unheaded fault

-- No more lines than bytes were passed, and no more bytes than there are (document 02, paper 1).
abbrev pub FoundWithin : (bytes : List ℕ) → ProblemAnswer → Type 0
FoundWithin bytes (Ok found) = (found.line ≤ found.at) × (found.at ≤ length bytes)
FoundWithin bytes (Err fault) = Unit {0}

-- What the search for the `p` line promises (document 02, paper 1).
pub record ProblemFound (bytes : List ℕ) (found : ProblemAnswer) : Type 0 where
  pub told : heading_of bytes found ≡ road_heading bytes
  pub within : FoundWithin bytes found
