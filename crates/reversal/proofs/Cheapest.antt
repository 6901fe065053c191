-- Cheapest routes of the reversed map from the destination are the map's cheapest routes to it, and the parents by old numbers spell them out.
-- Assumes nothing.
use Prim.Native.Nat.{ℕ}
use native.Mathlib.Omega.{arith}
use mathlib.Core.Path.{◌≡◌, refl, sym, ◌∙◌, ap}
use mathlib.Core.List.{List}
use lib.ListN.{length-map, get_or-map}
use Rattle.theory.specs.Maps.{none, Map, head_of, Route, route_cost, Reached, SpelledRoute, parent_of, Joined, Sound}
use Rattle.theory.specs.Demands.{CheapestRoutes, CheapestCosts}
use Rattle.reversal.specs.Reversed.{reversed, old_number, old_parents}
use Rattle.reversal.specs.Routes.{backwards, new_route, old_route}
use Rattle.reversal.specs.Demands.{SpelledTo, CheapestTo}
use Rattle.reversal.proofs.Numbers.{old_none, leaves_old}
use Rattle.reversal.proofs.Routes.{backwards_snoc, old_leaves, routes_reversed}

-- ---- what parents spell out from a node on

spelled_to_route : {M : Map} {d : ℕ} {parents : List ℕ} {v : ℕ} {route : List ℕ} → SpelledTo M d parents v route → Route M v route d
spelled_to_route SpelledTo.here = Route.here
spelled_to_route (SpelledTo.along a e h n r) = Route.along a h (spelled_to_route r)

same_spelled_to : {M : Map} {d : ℕ} {parents : List ℕ} {v w : ℕ} {route route' : List ℕ} → SpelledTo M d parents v route → SpelledTo M d parents w route' → v ≡ w
    → route ≡ route'
same_spelled_to SpelledTo.here SpelledTo.here e = refl
same_spelled_to SpelledTo.here (SpelledTo.along b q g k s) e = absurd (k e)
same_spelled_to (SpelledTo.along a p h n r) SpelledTo.here e = absurd (n (sym e))
same_spelled_to {M} {parents = parents} (SpelledTo.along {route = x} a p h n r) (SpelledTo.along {route = y} b q g k s) e =
    let z : a ≡ b = sym p ∙ ap (parent_of parents) e ∙ q in
    let rest : x ≡ y = same_spelled_to r s (ap (head_of M) z) in
    rw (z, rest)

module _ {M : Map} {s : ℕ} (sound : Sound M s) where
  old_parent : (parents : List ℕ) (v : ℕ) → parent_of (old_parents M parents) v ≡ old_number M (parent_of parents v)
  old_parent parents v = rw (old_none sound) at (get_or-map (old_number M) parents v none)

  old_parent_none : (parents : List ℕ) (v : ℕ) → parent_of parents v ≡ none → parent_of (old_parents M parents) v ≡ none
  old_parent_none parents v e = old_parent parents v ∙ ap (old_number M) e ∙ old_none sound

  spelled_back : {parents : List ℕ} {v : ℕ} {route : List ℕ} → SpelledRoute (reversed M) s parents v route
      → SpelledTo M s (old_parents M parents) v (old_route M route)
  unfolding backwards
  spelled_back SpelledRoute.here = SpelledTo.here
  spelled_back {parents = parents} (SpelledRoute.on {t} {route} r a h e n) =
      let parent = old_parent parents (head_of (reversed M) a) ∙ ap (old_number M) e in
      let rest : SpelledTo M s (old_parents M parents) (head_of M (old_number M a)) (old_route M route) = rw (leaves_old sound a t h) (spelled_back r) in
      rw (backwards_snoc (old_number M) route a) (SpelledTo.along (old_number M a) parent (old_leaves sound a t h) n rest)

  -- ---- cheapest routes

  old_cost : {v w : ℕ} {route : List ℕ} → Route (reversed M) w route v → route_cost M (old_route M route) ≡ route_cost (reversed M) route
  old_cost r =
      let both = routes_reversed sound in
      sym (both.same_cost (both.back r)) ∙ ap (route_cost (reversed M)) (both.back_there r)

  pub reached_there : (v : ℕ) → Reached M v s → Reached (reversed M) s v
  reached_there v r = (new_route M r.0, (routes_reversed sound).there r.1)

  pub reached_back : (v : ℕ) → Reached (reversed M) s v → Reached M v s
  reached_back v r = (old_route M r.0, (routes_reversed sound).back r.1)

  pub cheapest_to : {distances parents : List ℕ} → CheapestRoutes (reversed M) s distances parents → CheapestTo M s distances (old_parents M parents)
  unfolding reversed
  cheapest_to {distances} {parents} c = record {
    distances_length = c.distances_length;
    parents_length = length-map parents (old_number M) ∙ c.parents_length;
    spelled = λ v h n.
        let r = c.spelled v h n in
        (old_route M r.0, spelled_back r.1, old_cost (c.spelled_route v r.0 r.1) ∙ r.2);
    spelled_once = λ v route route' r r'. same_spelled_to r r' refl;
    spelled_route = λ v route r. spelled_to_route r;
    least = λ v route r.
        let both = routes_reversed sound in
        omega (arith, c.least v (new_route M route) (both.there r), both.same_cost r);
    unreached = λ v h. (
      λ e r. (c.unreached v h).0 e (reached_there v r),
      λ no-route. (c.unreached v h).1 (λ r. no-route (reached_back v r)),
    );
    destination_parent = old_parent_none parents s c.source_parent;
    unreached_parent = λ v h e. old_parent_none parents v (c.unreached_parent v h e);
  }

-- Cheapest routes to the destination have cheapest costs.
pub to_costs : {M : Map} {s : ℕ} {distances parents : List ℕ} → CheapestTo M s distances parents
    → CheapestCosts (λ v c. Joined M v s c) M.nodes distances
to_costs c = record {
  found = λ v h q. let r = c.spelled v h q in (r.0, c.spelled_route v r.0 r.1, r.2);
  least = λ v d j. omega (arith, c.least v j.0 j.1, j.2);
  unreached = λ v h. (
    λ e d j. (c.unreached v h).0 e (j.0, j.1),
    λ no-route. (c.unreached v h).1 (λ r. no-route _ (r.0, r.1, refl)),
  );
}
