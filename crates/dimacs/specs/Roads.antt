-- The map of a road file (document 02, paper 1).
use Rattle.std.specs.Prelude.{ℕ, ◌-◌, List, [], ◌∷◌, Option, Some, None, replicate}
use Rattle.theory.specs.Runs.{Inputs, inputs}
use Rattle.grouping.specs.Arcs.{PlanArc, starts_of, heads_of, costs_of}
use Rattle.dimacs_lines.specs.declared.RoadLine.{RoadLine}
use Rattle.dimacs_lines.specs.declared.Told.{Told}
use Rattle.dimacs_lines.specs.declared.Told.TheVariants.{Comment, Problem, RoadArc}
use Rattle.dimacs_checks.specs.Checking.{Heading, unheaded, headed, road_heading}

-- The arc that a line tells, if any, before those behind it; a road file counts nodes from 1 where a map counts from 0 (document 02, paper
-- 1).
abbrev pub arc_and_behind : Told → (behind : List PlanArc) → List PlanArc
arc_and_behind Comment behind = behind
arc_and_behind (Problem nodes arcs) behind = behind
arc_and_behind (RoadArc tail head cost) behind = record { tail = tail - 1; head = head - 1; cost = cost } ∷ behind

-- The arcs of lines, in the order of the file (document 02, paper 1).
unfoldable pub line_arcs : List (Option RoadLine) → List PlanArc
line_arcs [] = []
line_arcs (None ∷ lines) = line_arcs lines
line_arcs (Some line ∷ lines) = arc_and_behind line.told (line_arcs lines)

-- What a road file tells: n and m, and its arcs (document 02, paper 1).
pub record Road : Type 0 where
  pub nodes : ℕ
  pub count : ℕ
  pub arcs : List PlanArc

-- The numbers of the `p` line, and the arcs behind it; a file without one is refused, and its numbers count as 0 (document 02, paper 1).
abbrev pub road_of : Heading → Road
road_of (unheaded fault) = record { nodes = 0; count = 0; arcs = [] }
road_of (headed nodes count before lines) = record { nodes = nodes; count = count; arcs = line_arcs lines }

-- What the bytes of a road file tell (document 02, paper 1).
abbrev pub road : List ℕ → Road
road bytes = road_of (road_heading bytes)

-- The starts of a road file (document 02, paper 1).
abbrev pub road_starts : List ℕ → List ℕ
road_starts bytes = starts_of (road bytes).nodes (road bytes).arcs

-- The heads of a road file (document 02, paper 1).
abbrev pub road_heads : List ℕ → List ℕ
road_heads bytes = heads_of (road bytes).nodes (road bytes).arcs

-- The costs of a road file (document 02, paper 1).
abbrev pub road_costs : List ℕ → List ℕ
road_costs bytes = costs_of (road bytes).nodes (road bytes).arcs

-- What a run on what a road file tells is given, with a ceiling and a source (document 02, paper 1). A road file tells no holds: each is 0
-- (document 02, paper 2).
abbrev pub road_run : Road → (C source : ℕ) → Inputs
road_run told C source =
    inputs told.nodes C source (starts_of told.nodes told.arcs) (heads_of told.nodes told.arcs) (costs_of told.nodes told.arcs)
    (replicate told.nodes 0)

-- What a run on a road file is given, with a ceiling and a source (document 02, paper 1).
abbrev pub road_inputs : List ℕ → (C source : ℕ) → Inputs
road_inputs bytes C source = road_run (road bytes) C source
