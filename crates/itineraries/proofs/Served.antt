-- For every file that is accepted: the nodes told for a reached node are those of a route of the map that costs its distance, and no route
-- costs less; a node that is not reached has no line. Assumes nothing.
use Prim.Native.Nat.{ℕ, ◌<◌}
use native.Mathlib.Omega.{arith}
use mathlib.Core.Bool.{Bool, true, false, cond}
use mathlib.Core.Path.{◌≡◌, refl, sym, ◌∙◌, ap₂}
use mathlib.Core.List.{List, []}
use lib.Dec.{ltb}
use lib.ListN.{length, get_or}
use Rattle.std.specs.Prelude.{Ok, Err}
use Rattle.model.specs.Answers.{fault_of}
use Rattle.model.specs.declared.Kind.TheVariants.{InputSize}
use Rattle.model.specs.declared.Fault.{Fault}
use Rattle.theory.specs.Maps.{none, Map, Reached, distance_of}
use Rattle.theory.specs.Heap.{Heap}
use Rattle.theory.specs.Runs.{Inputs, ValidInputs, steps_of}
use Rattle.theory.specs.declared.Levels.TheVariants.{One}
use Rattle.theory.specs.Demands.{CheapestRoutes}
use Rattle.theory.proofs.Cases.{differ}
use Rattle.theory.proofs.Demands.{run_demanded}
use Rattle.theory.proofs.Lists.{get_d_inside}
use Rattle.theory.proofs.Maps.Routes.{route_node}
use Rattle.route.specs.Routes.{Served}
use Rattle.plan_checks.specs.Checking.{plan_check}
use Rattle.reader.specs.Plans.{plan_of, plan_run}
use Rattle.reader.proofs.Runnable.{read_runnable}
use Rattle.planning.specs.Planning.{most_bytes, planning_check, plan_text_lem}
use Rattle.itineraries.specs.Itineraries.{route_line, line_if_reached, run_route, routes_text, CheapestLine}
use Rattle.itineraries.proofs.Lines.{unreached_line, reached_line}
use Rattle.itineraries.proofs.Reaching.{reached_served}

passed_read : (bytes : List ℕ) → planning_check bytes ≡ Ok tt → plan_check bytes 513 2048 2048 512 ≡ Ok tt
unfolding planning_check
passed_read bytes e = go (ltb most_bytes (length bytes)) e
  where
    go : (t : Bool) → cond t (Err (fault_of InputSize 0)) (plan_check bytes 513 2048 2048 512) ≡ Ok tt → plan_check bytes 513 2048 2048 512 ≡ Ok tt
    go true f = differ (cc)
    go false f = f

-- A file that is turned down has the line that `plan` prints for it.
pub refused_same : (bytes : List ℕ) {fault : Fault} → planning_check bytes ≡ Err fault → routes_text bytes ≡ plan_text_lem bytes
unfolding routes_text plan_text_lem
refused_same bytes e = rw e refl

module _ (bytes : List ℕ) (accepted : planning_check bytes ≡ Ok tt) where
  abbrev I : Inputs
  I = plan_run (plan_of bytes)

  abbrev M : Map
  M = I.map

  abbrev run : Heap
  run = steps_of One I

  valid : ValidInputs I
  valid = (read_runnable bytes 513 2048 2048 512 (passed_read bytes accepted)).valid

  cheapest : CheapestRoutes M I.source run.search.distances run.search.parents
  cheapest = (run_demanded valid One tt).cheapest

  abbrev distance : ℕ → ℕ
  distance v = get_or run.search.distances v 0

  same_distance : (v : ℕ) → v < M.nodes → distance v ≡ distance_of run.search.distances v
  same_distance v node = get_d_inside run.search.distances v 0 none (omega (arith, cheapest.distances_length))

  module _ (v : ℕ) (reached : Reached M I.source v) where
    node : v < M.nodes
    node = route_node valid.sound reached.1 valid.sound.source_node

    finite : distance v ≡ none → ⊥
    finite e = (cheapest.unreached v node).0 (sym (same_distance v node) ∙ e) reached

    -- The nodes of the line are those of a route of the map, which costs the distance.
    pub listed_served : Served M I.source run.search.distances run.search.parents v
    listed_served = reached_served valid.sound cheapest v node finite

    -- The line of a reached node.
    pub line_served : CheapestLine M I.source v (line_if_reached v (distance v) (run_route I v))
    line_served =
        let S = listed_served in
        record {
          route = S.route;
          is_route = S.is_route;
          least = λ other r. omega (arith, S.cost, cheapest.least v other r);
          told =
              sym (reached_line v (distance v) (run_route I v) finite)
              ∙ ap₂ (route_line v) (same_distance v node ∙ sym S.cost) S.nodes;
        }

  -- A node that is not reached.
  pub unreached_unlisted : (v : ℕ) → v < M.nodes → (Reached M I.source v → ⊥) → line_if_reached v (distance v) (run_route I v) ≡ []
  unreached_unlisted v node away =
      sym (unreached_line v (distance v) (run_route I v) (same_distance v node ∙ (cheapest.unreached v node).1 away))
