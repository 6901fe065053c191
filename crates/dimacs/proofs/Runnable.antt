-- A road file that passes its checks gives a map that no run refuses, and that the lists lent for it hold. Assumes nothing.
use Prim.Native.Nat.{ℕ, ◌+◌, ◌≤◌, ◌<◌}
use native.Mathlib.Omega.{arith}
use mathlib.Core.Path.{◌≡◌}
use mathlib.Core.List.{List, [], ◌∷◌, ◌++◌}
use lib.ListN.{length}
use Rattle.std.specs.Prelude.{Option, Ok}
use Rattle.model.specs.declared.Kind.TheVariants.{NodeCount}
use Rattle.theory.specs.Runs.{ValidInputs, Allowed, work_words}
use Rattle.theory.specs.declared.Levels.{Levels}
use Rattle.theory.proofs.Cases.{differ}
use Rattle.checks.specs.Checks.{first_fault, lent_checks, run_checks, Lengths}
use Rattle.checks.proofs.Order.{AllPass, none, more, passed_all}
use Rattle.checks.proofs.Sizes.{passed_range, passed_heads, passed_ceiling, passed_lent}
use Rattle.checks.proofs.Valid.{ready_passed}
use Rattle.grouping.specs.Arcs.{heads_of, costs_of}
use Rattle.grouping.proofs.Valid.{arcs_ends, heads_length, costs_length, arcs_valid}
use Rattle.dimacs_lines.specs.declared.RoadLine.{RoadLine}
use Rattle.dimacs_checks.specs.Checking.{Heading, unheaded, headed, road_heading, problem_checks, lines_check, heading_check, road_check}
use Rattle.dimacs.specs.Roads.{Road, line_arcs, road_of, road, road_run, road_inputs}
use Rattle.dimacs.proofs.Passing.{lines_shown, arcs_in_lem}

-- ---- the map of a file that passes

module _ (C starts heads costs source : ℕ) where
  lines_valid : (n m before : ℕ) (lines : List (Option RoadLine))
      → AllPass (problem_checks n m C starts heads costs ++ (lines_check n m C 0 before lines ∷ [])) → source < n
      → ValidInputs (road_run (road_of (headed n m before lines)) C source)
  unfolding problem_checks lent_checks
  lines_valid n m before lines (more by-1 (more by_4 (more by_2 (more first (more second (more third (more passed none))))))) from =
      let nodes = passed_range NodeCount n 1 4096 by-1 in
      let shown = lines_shown n m C 0 before lines (omega arith) passed in
      arcs_valid n C (line_arcs lines) (arcs_in_lem shown.ranged) source nodes.0 nodes.1 (omega (arith, shown.count, passed_heads m by_4))
      (passed_ceiling C by_2) from

  heading_valid : (heading : Heading) → heading_check heading C starts heads costs ≡ Ok tt → source < (road_of heading).nodes
      → ValidInputs (road_run (road_of heading) C source)
  heading_valid (unheaded fault) e from = differ (cc)
  heading_valid (headed n m before lines) e from = lines_valid n m before lines (passed_all _ e) from

-- ---- the words that it needs

-- What a file tells is as much as its `p` line says, and the lists lent for it are long enough.
pub record RoadFits (told : Road) (starts heads costs : ℕ) : Type 0 where
  pub heads_count : length (heads_of told.nodes told.arcs) ≡ told.count
  pub costs_count : length (costs_of told.nodes told.arcs) ≡ told.count
  pub starts_fit : told.nodes + 1 ≤ starts
  pub heads_fit : told.count ≤ heads
  pub costs_fit : told.count ≤ costs

module _ (C starts heads costs : ℕ) where
  lines_fit : (n m before : ℕ) (lines : List (Option RoadLine))
      → AllPass (problem_checks n m C starts heads costs ++ (lines_check n m C 0 before lines ∷ []))
      → RoadFits (road_of (headed n m before lines)) starts heads costs
  unfolding problem_checks lent_checks
  lines_fit n m before lines (more by-1 (more by_4 (more by_2 (more first (more second (more third (more passed none))))))) =
      let shown = lines_shown n m C 0 before lines (omega arith) passed in
      let ends = arcs_ends (arcs_in_lem shown.ranged) in
      record {
        heads_count = omega (arith, heads_length n (line_arcs lines) ends, shown.count);
        costs_count = omega (arith, costs_length n (line_arcs lines) ends, shown.count);
        starts_fit = passed_lent 0 starts (n + 1) first;
        heads_fit = passed_lent 1 heads m second;
        costs_fit = passed_lent 2 costs m third;
      }

  heading_fits : (heading : Heading) → heading_check heading C starts heads costs ≡ Ok tt → RoadFits (road_of heading) starts heads costs
  heading_fits (unheaded fault) e = differ (cc)
  heading_fits (headed n m before lines) e = lines_fit n m before lines (passed_all _ e)

-- ---- the checks of the runs

-- No run on the map of a road file is refused, of one level or two, from any node, where the lists lent to it are long enough.
module _ (bytes : List ℕ) (C starts heads costs : ℕ) (passed : road_check bytes C starts heads costs ≡ Ok tt) where
  pub roads_valid : (source : ℕ) → source < (road bytes).nodes → ValidInputs (road_inputs bytes C source)
  unfolding road_check
  roads_valid source from = heading_valid C starts heads costs source (road_heading bytes) passed from

  pub roads_fit : RoadFits (road bytes) starts heads costs
  unfolding road_check
  roads_fit = heading_fits C starts heads costs (road_heading bytes) passed

  pub roads_run : (source : ℕ) → source < (road bytes).nodes → (L : Levels) → Allowed L → (room : Lengths)
      → (road bytes).nodes ≤ room.distances → (road bytes).nodes ≤ room.parents → (road bytes).nodes ≤ room.roster
      → work_words L (road bytes).nodes ≤ room.work → first_fault (run_checks L (road_inputs bytes C source) room) ≡ Ok tt
  roads_run source from L allowed room d p r w =
      ready_passed
      (record { valid = roads_valid source from; allowed = allowed; distances_fit = d; parents_fit = p; roster_fit = r; work_fit = w })
