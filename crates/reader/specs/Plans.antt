-- The map of a planning file (document 01, "Planning file" and "What the planner holds and leaves out").
use Rattle.std.specs.Prelude.{ℕ, Bool, false, List, drop, Option, None, Some}
use Rattle.theory.specs.Runs.{Inputs, inputs}
use Rattle.grouping.specs.Arcs.{PlanArc, starts_of, heads_of, costs_of}
use Rattle.plan_lines.specs.declared.HeaderLine.{HeaderLine}
use Rattle.plan_lines.specs.Lines.{header_line}
use Rattle.plan_lines.specs.Told.{lines_arcs, behind_arcs, node_holds}

-- ---- the numbers of the file

-- Line 1's numbers, m as `count`, whether it has the sixth as `held`, and the bytes that it takes (document 01, "Planning file"; document 02, paper 2).
pub record Header : Type 0 where
  pub nodes : ℕ
  pub count : ℕ
  pub ceiling : ℕ
  pub source : ℕ
  pub segments : ℕ
  pub held : Bool
  pub taken : ℕ

-- The numbers of line 1; a file without one is refused, and its numbers count as 0 (document 01, "What a call returns").
abbrev pub header_numbers : Option HeaderLine → Header
header_numbers None = record { nodes = 0; count = 0; ceiling = 0; source = 0; segments = 0; held = false; taken = 0 }
header_numbers (Some line) = record {
  nodes = line.nodes;
  count = line.arcs;
  ceiling = line.ceiling;
  source = line.source;
  segments = line.segments;
  held = line.held;
  taken = line.taken;
}

-- What a planning file tells: line 1's numbers, its arcs in the order of its lines, and a hold for each node (document 01, "Planning
-- file"; document 02, paper 2).
pub record Plan : Type 0 where
  pub header : Header
  pub arcs : List PlanArc
  pub holds : List ℕ

-- What a file tells whose line 1 has these numbers: behind the bytes that it takes, as many arcs as it says (document 01, "Planning
-- file"), then the holds, where it says that they are told (document 02, paper 2).
abbrev pub plan_under : Header → List ℕ → Plan
plan_under header bytes =
    let lines = drop header.taken bytes in
    record {
      header = header;
      arcs = lines_arcs header.count lines;
      holds = node_holds header.held header.nodes (behind_arcs header.count lines);
    }

-- What the bytes of a file tell (document 01, "Planning file"; document 02, paper 2).
abbrev pub plan_of : List ℕ → Plan
plan_of bytes = plan_under (header_numbers (header_line bytes)) bytes

-- ---- the map of the file

-- The starts of a planning file (document 01, "Planning file").
abbrev pub plan_starts : Plan → List ℕ
plan_starts plan = starts_of plan.header.nodes plan.arcs

-- The heads of a planning file (document 01, "Planning file").
abbrev pub plan_heads : Plan → List ℕ
plan_heads plan = heads_of plan.header.nodes plan.arcs

-- The costs of a planning file (document 01, "Planning file").
abbrev pub plan_costs : Plan → List ℕ
plan_costs plan = costs_of plan.header.nodes plan.arcs

-- The holds of a planning file (document 02, paper 2).
abbrev pub plan_holds : Plan → List ℕ
plan_holds plan = plan.holds

-- What a run on a planning file is given (document 01, "Planning file"; document 02, paper 2).
abbrev pub plan_run : Plan → Inputs
plan_run plan =
    inputs plan.header.nodes plan.header.ceiling plan.header.source (plan_starts plan) (plan_heads plan) (plan_costs plan) (plan_holds plan)
