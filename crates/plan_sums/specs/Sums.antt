-- Number 8 of a planning file behind its lines: an arc's cost together with its tail's hold (document 02, paper 2).
use Rattle.std.specs.Prelude.{ℕ, ◌≤◌, ◌<◌, ◌≡◌, List, map, length, get_or, drop}
use Rattle.model.specs.Answers.{Check}
use Rattle.check_lists.specs.Lists.{NoneAbove, NoneFalls}
use Rattle.check_sums.specs.Sums.{sums_check}
use Rattle.grouping.specs.Arcs.{PlanArc, tail_key}
use Rattle.plan_lines.specs.Told.{lines_arcs, lines_holds}

-- The tails of the arcs, in the order of their lines (document 01, "Planning file").
abbrev pub arc_tails : List PlanArc → List ℕ
arc_tails arcs = map tail_key arcs

-- 8: the least arc whose cost and its tail's hold are together above C, the arcs in the order of their lines (document 02, paper 2).
abbrev pub arc_sums_check : (C : ℕ) → List PlanArc → (holds : List ℕ) → Check
arc_sums_check C arcs holds = sums_check C (λ a. get_or (arc_tails arcs) a 0) (map (λ (arc : PlanArc). arc.cost) arcs) holds

-- What the checks before it have shown of the lines of m arcs and n holds, which begin at two places of the bytes: every line is there, the
-- tails never fall and are nodes, and no hold is above C (document 02, paper 2).
pub record SumLines (n m C : ℕ) (bytes : List ℕ) (at holds_at : ℕ) : Type 0 where
  pub within : at ≤ length bytes
  pub holds_within : holds_at ≤ length bytes
  pub arcs_count : length (lines_arcs m (drop at bytes)) ≡ m
  pub tails_rise : NoneFalls (arc_tails (lines_arcs m (drop at bytes)))
  pub tails_nodes : (a : ℕ) → a < m → get_or (arc_tails (lines_arcs m (drop at bytes))) a 0 < n
  pub holds_count : length (lines_holds n (drop holds_at bytes)) ≡ n
  pub holds_most : NoneAbove C (lines_holds n (drop holds_at bytes))
