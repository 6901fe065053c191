-- The routes by the parents of a run: each node with a distance has one, of at most n nodes, each below n; it is not refused, and the words
-- that are lent past those of the nodes do not matter. Assumes nothing.
use Prim.Native.Nat.{ℕ, zero, suc, ◌-◌, ◌≤◌, ◌<◌}
use native.Mathlib.Omega.{arith}
use mathlib.Core.Path.{◌≡◌, sym, ◌∙◌, ap}
use mathlib.Core.List.{List, ◌++◌}
use lib.ListN.{length, get_or, length-append}
use Rattle.theory.specs.Maps.{none, Map, map_of, Route, route_cost, SpelledRoute, distance_of, Sound}
use Rattle.theory.specs.Demands.{CheapestRoutes}
use Rattle.theory.proofs.Maps.Arcs.{leaves_arc}
use Rattle.theory.proofs.Lists.{get_d_inside}
use Rattle.theory.proofs.Maps.Routes.{spelled_route, spelled_past}
use Rattle.walk.specs.Walk.{Nodes, nodes_of, nodes_along}
use Rattle.walk.proofs.Spelled.{along_length, spelled_walk, spelled_short}
use Rattle.route.specs.Routes.{route_walk, Served}
use Rattle.route.proofs.Serving.{spelled_accepted, spelled_served}
use Rattle.itineraries.specs.Itineraries.{nodes_to, Few, Routable}

-- The nodes of a route are nodes of the map.
along_nodes : {M : Map} {source : ℕ} → Sound M source → {v w : ℕ} {route : List ℕ} → Route M v route w → v < M.nodes
    → (i : ℕ) → i < length (nodes_along M v route) → get_or (nodes_along M v route) i 0 < M.nodes
unfolding nodes_along
along_nodes sound Route.here l zero h = l
along_nodes sound Route.here l (suc i) h = absurd (omega arith)
along_nodes sound (Route.along {v} a q r) l zero h = l
along_nodes sound (Route.along {v} a q r) l (suc i) h = along_nodes sound r (sound.heads_nodes a (leaves_arc sound a v q)) i (omega arith)

module _ {n source : ℕ} {starts heads costs holds : List ℕ} (sound : Sound (map_of n starts heads costs holds) source) {distances parents : List ℕ}
    (cheapest : CheapestRoutes (map_of n starts heads costs holds) source distances parents) where
  abbrev M : Map
  M = map_of n starts heads costs holds

  module _ (v : ℕ) (node : v < n) (reached : get_or distances v 0 ≡ none → ⊥) where
    spells : (route : List ℕ) × SpelledRoute M source parents v route × (route_cost M route ≡ distance_of distances v)
    spells = cheapest.spelled v node (λ e. reached (get_d_inside distances v 0 none (omega (arith, cheapest.distances_length)) ∙ e))

    walked : route_walk n source starts heads parents v ≡ Nodes (nodes_along M source spells.0)
    walked = spelled_walk sound parents spells.1 (n - 1) (omega (arith, spelled_short sound parents spells.1))

    -- The nodes of the line are those of a route of the map that costs the distance.
    pub reached_served : Served M source distances parents v
    reached_served = spelled_served sound parents (omega (arith, cheapest.parents_length)) distances spells.1 spells.2

    module _ (past : List ℕ) where
      spelled : SpelledRoute M source (parents ++ past) v spells.0
      spelled = spelled_past sound parents past cheapest.parents_length spells.1

      short : length (nodes_along M source spells.0) ≤ n
      short = omega (arith, along_length M source spells.0, spelled_short sound parents spells.1)

      walked_past : route_walk n source starts heads (parents ++ past) v ≡ Nodes (nodes_along M source spells.0)
      walked_past = spelled_walk sound (parents ++ past) spelled (n - 1) (omega (arith, spelled_short sound parents spells.1))

      pub nodes_past : nodes_to n source starts heads (parents ++ past) v ≡ nodes_to n source starts heads parents v
      nodes_past = ap nodes_of walked_past ∙ sym (ap nodes_of walked)

      few : n ≤ 512 → Few (nodes_along M source spells.0)
      few h = record {
        count = omega (arith, short);
        small = λ i l. omega (arith, along_nodes sound (spelled_route spells.1) sound.source_node i l);
      }

      pub reached_routable : n ≤ 512 → Routable n source starts heads (parents ++ past) v
      reached_routable h = record {
        node = omega arith;
        some = rw walked_past (omega (arith, along_length M source spells.0));
        accepted = spelled_accepted sound (parents ++ past) (omega (arith, length-append parents past, cheapest.parents_length)) spelled 512 (omega (arith, short));
        few = rw walked_past (few h);
      }
