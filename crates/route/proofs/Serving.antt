-- For every accepted run and every node that it reaches, the route by the run's parents is a route of the map, costs the distance, and is
-- accepted where the list has room. Assumes nothing.
use Prim.Native.Nat.{ℕ, ◌-◌, ◌≤◌}
use native.Mathlib.Omega.{arith}
use mathlib.Core.Path.{◌≡◌, refl, sym, ◌∙◌, ap, subst}
use mathlib.Core.Logic.{◌≢◌, inl, inr}
use mathlib.Core.List.{List, [], ◌∷◌, ◌++◌}
use lib.ListN.{length, drop, length-append, get_or-append}
use borrow.Author.Tests.{lt-leb, le-ltb, eq-eqb, ne_eqb}
use Rattle.model.specs.Answers.{Check, RunAnswer}
use Rattle.std.specs.Prelude.{Ok}
use Rattle.theory.specs.Maps.{Map, map_of, route_cost, Reached, SpelledRoute, parent_of, distance_of, Sound}
use Rattle.theory.specs.Maps as maps
use Rattle.theory.specs.Demands.{CheapestRoutes}
use Rattle.theory.proofs.Cases.{same?}
use Rattle.theory.proofs.Maps.Arcs.{leaves_arc}
use Rattle.theory.proofs.Maps.Routes.{spelled_route, route_node, spelled_past}
use Rattle.check_numbers.specs.Numbers.{fault_if, head_count_check}
use Rattle.theory.specs.Runs.{Inputs, steps_of}
use Rattle.theory.specs.declared.Levels.{Levels}
use Rattle.checks.specs.Checks.{first_fault, run_checks}
use Rattle.checks.proofs.Order.{none, more, all_passed_lem, parts_pass}
use Rattle.checks.proofs.Sizes.{lent_passes}
use Rattle.checks.proofs.Valid.{sound_passed, passed_ready}
use Rattle.runs.specs.Promise.{Lent, lengths_of, Ran, Promised}
use Rattle.walk.specs.Walk.{Nodes, nodes_of, nodes_along}
use Rattle.walk.proofs.Spelled.{spelled_walk, spelled_node, spelled_short}
use Rattle.route.specs.Routes.{route_walk, table_size_checks, table_checks, destination_check, parent_check, walk_check, room_check, route_checks, Served}

-- ---- the checks of a route over lists in order

sound_table : {n source : ℕ} {starts heads costs holds : List ℕ} → Sound (map_of n starts heads costs holds) source → (parents : ℕ) → n ≤ parents
    → first_fault (table_checks n source starts heads parents) ≡ Ok tt
unfolding table_size_checks table_checks fault_if
sound_table {n} {heads = heads} sound parents long =
    let p = sound_passed sound in
    let small : head_count_check (length heads) ≡ Ok tt = rw (le-ltb 65536 (length heads) p.few) refl in
    all_passed_lem (more p.nodes (more p.from (more small (more p.count (more p.words (more p.below (more (lent_passes 1 parents n long) none)))))))

-- ---- a destination that the parents spell

module _ {n source : ℕ} {starts heads costs holds : List ℕ} (sound : Sound (map_of n starts heads costs holds) source) (parents : List ℕ) (long : n ≤ length parents) where
  abbrev M : Map
  M = map_of n starts heads costs holds

  -- A node that is spelled and is not the source has an arc for its parent.
  spelled_parent : {v : ℕ} {route : List ℕ} → SpelledRoute M source parents v route → v ≢ source → parent_of parents v ≢ maps.none
  spelled_parent SpelledRoute.here q e = absurd (q refl)
  spelled_parent (SpelledRoute.on {t} r a h p k) q e = absurd (omega (arith, leaves_arc sound a t h, sound.few_arcs))

  parent_passes : {v : ℕ} {route : List ℕ} → SpelledRoute M source parents v route → parent_check source parents v ≡ Ok tt
  unfolding fault_if
  parent_passes {v} r = elim (same? v source) [
    | inl e ↦ rw (eq-eqb v source e) refl
    | inr q ↦ rw (ne_eqb v source q, ne_eqb (parent_of parents v) maps.none (spelled_parent r q)) refl
  ]

  pub spelled_accepted : {v : ℕ} {route : List ℕ} → SpelledRoute M source parents v route → (room : ℕ) → length (nodes_along M source route) ≤ room
      → first_fault (route_checks n source starts heads parents v room) ≡ Ok tt
  unfolding fault_if route_checks
  spelled_accepted {v} {route} r room l =
      let walk : route_walk n source starts heads parents v ≡ Nodes (nodes_along M source route) = spelled_walk sound parents r (n - 1) (omega (arith, spelled_short sound parents r)) in
      let node : destination_check n v ≡ Ok tt = rw (lt-leb n v (spelled_node sound parents r)) refl in
      let there : walk_check (route_walk n source starts heads parents v) ≡ Ok tt = rw walk refl in
      let space : room_check room (route_walk n source starts heads parents v) ≡ Ok tt = rw (walk, le-ltb room (length (nodes_along M source route)) l) refl in
      parts_pass (table_checks n source starts heads (length parents))
      (destination_check n v ∷ parent_check source parents v ∷ walk_check (route_walk n source starts heads parents v) ∷ room_check room (route_walk n source starts heads parents v) ∷ [])
      (sound_table sound (length parents) long)
      (all_passed_lem (more node (more (parent_passes r) (more there (more space none)))))

  pub spelled_served : (distances : List ℕ) {v : ℕ} {route : List ℕ} → SpelledRoute M source parents v route → route_cost M route ≡ distance_of distances v → Served M source distances parents v
  spelled_served distances {v} {route} r e = record {
    route = route;
    is_route = spelled_route r;
    cost = e;
    nodes = ap nodes_of (spelled_walk sound parents r (n - 1) (omega (arith, spelled_short sound parents r)));
    accepted = spelled_accepted r;
  }

-- ---- the parents of a run

module _ {n source : ℕ} {starts heads costs holds : List ℕ} (sound : Sound (map_of n starts heads costs holds) source) {distances parents : List ℕ}
    (cheapest : CheapestRoutes (map_of n starts heads costs holds) source distances parents) where
  pub cheapest_served : (distances' parents' : List ℕ) (destination : ℕ) → Reached (map_of n starts heads costs holds) source destination
      → Served (map_of n starts heads costs holds) source (distances ++ distances') (parents ++ parents') destination
  cheapest_served distances' parents' destination reached =
      let node = route_node sound reached.1 sound.source_node in
      let finite : distance_of distances destination ≢ maps.none = λ e. (cheapest.unreached destination node).0 e reached in
      let s = cheapest.spelled destination node finite in
      let same : distance_of (distances ++ distances') destination ≡ distance_of distances destination =
      get_or-append distances distances' maps.none destination (omega (arith, cheapest.distances_length)) in
      spelled_served sound (parents ++ parents') (omega (arith, length-append parents parents', cheapest.parents_length)) (distances ++ distances')
      (spelled_past sound parents parents' cheapest.parents_length s.1) (s.2 ∙ sym same)

module _ (L : Levels) (I : Inputs) (l l' : Lent) {r : RunAnswer} where
  pub run_served : first_fault (run_checks L I (lengths_of l)) ≡ Ok tt → Promised L I r l l' → (destination : ℕ) → Reached I.map I.source destination
      → Served I.map I.source l'.distances l'.parents destination
  run_served e P destination reached =
      let Q = subst (λ (k : Check). Ran L I k r l l') e P in
      rw (Q.distances, Q.parents)
      (cheapest_served (passed_ready e).valid.sound Q.demanded.cheapest
      (drop (length (steps_of L I).search.distances) l.distances) (drop (length (steps_of L I).search.parents) l.parents) destination reached)
