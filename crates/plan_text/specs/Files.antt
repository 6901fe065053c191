-- The planning file of a map, and when two of them tell the same (document 02, paper 5).
use Rattle.std.specs.Prelude.{ℕ, ◌≡◌, List, length, get_or}
use Rattle.theory.specs.Sums.{list_below}
use Rattle.theory.specs.Maps.{Map, tail_of}
use Rattle.theory.specs.Runs.{Inputs}
use Rattle.grouping.specs.Arcs.{PlanArc}
use Rattle.plan_text.specs.Rendering.{render_plan}

-- Arc a of a map's lists: its tail, head and cost (document 02, paper 5).
abbrev pub arc_at : (n : ℕ) → (starts heads costs : List ℕ) → (a : ℕ) → PlanArc
arc_at n starts heads costs a = record { tail = tail_of n starts a; head = get_or heads a 0; cost = get_or costs a 0 }

-- The arcs of a map's lists in number order (document 02, paper 5).
abbrev pub arc_list : (n : ℕ) → (starts heads costs : List ℕ) → List PlanArc
arc_list n starts heads costs = list_below (length heads) (arc_at n starts heads costs)

-- The arcs of a map in number order (document 02, paper 5).
abbrev pub arcs_of : Map → List PlanArc
arcs_of M = arc_list M.nodes M.starts M.heads M.costs

-- The planning file of a map with C and a source, and of K (document 02, paper 5).
unfoldable pub plan_file : Inputs → (K : ℕ) → List ℕ
plan_file I K = render_plan I.map.nodes I.ceiling I.source K (arcs_of I.map) I.map.holds

-- Two maps with C, source and K agree: n, arcs in order, C, source, K and holds (document 02, paper 5).
pub record Agree (I I' : Inputs) (K K' : ℕ) : Type 0 where
  pub nodes : I.map.nodes ≡ I'.map.nodes
  pub arcs : arcs_of I.map ≡ arcs_of I'.map
  pub ceiling : I.ceiling ≡ I'.ceiling
  pub source : I.source ≡ I'.source
  pub segments : K ≡ K'
  pub holds : I.map.holds ≡ I'.map.holds
