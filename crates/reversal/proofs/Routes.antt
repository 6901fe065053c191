-- The routes of the reversed map are those of the map, read backwards, and cost the same: the nodes strictly between the ends are the same.
-- Assumes nothing.
use Prim.Native.Nat.{ℕ, ◌<◌}
use native.Mathlib.Omega.{arith}
use mathlib.Core.Path.{◌≡◌, refl, sym, ◌∙◌, ap}
use mathlib.Core.List.{List, [], ◌∷◌, ◌++◌}
use Rattle.theory.specs.Maps.{Map, arcs, head_of, cost_of, hold_of, Leaves, Route, nodes_between, arcs_cost, holds_cost, route_cost, Sound}
use Rattle.theory.proofs.Maps.Arcs.{leaves_arc}
use Rattle.theory.proofs.Maps.Tails.{tail_leaves, tail_is}
use Rattle.theory.proofs.Maps.Routes.{route_snoc, end_hold, end_snoc, cost_snoc, cost_alone, cost_cons}
use Rattle.reversal.specs.Reversed.{reversed, old_number, new_number}
use Rattle.reversal.specs.Routes.{backwards, new_route, old_route, RoutesReversed}
use Rattle.reversal.proofs.Numbers.{new_below, old_of_new, old_below, new_of_old, new_leaves, leaves_old, new_head, new_cost}
use Rattle.reversal.proofs.Valid.{reversed_arcs, reversed_sound}

pub backwards_snoc : (number : ℕ → ℕ) (route : List ℕ) (a : ℕ) → backwards number (route ++ (a ∷ [])) ≡ number a ∷ backwards number route
unfolding backwards
backwards_snoc number [] a = refl
backwards_snoc number (b ∷ route) a = ap (λ (l : List ℕ). l ++ (number b ∷ [])) (backwards_snoc number route a)

-- Read backwards twice, by numbers that undo each other.
twice : {M : Map} {v w : ℕ} {route : List ℕ} (f g : ℕ → ℕ) → ((a v : ℕ) → Leaves M a v → g (f a) ≡ a) → Route M v route w
    → backwards g (backwards f route) ≡ route
unfolding backwards
twice f g undo Route.here = refl
twice f g undo (Route.along {v} {route = route} a h r) = backwards_snoc g (backwards f route) (f a) ∙ rw (undo a v h, twice f g undo r)

module _ {M : Map} {s : ℕ} (sound : Sound M s) where
  leaves_number : (p v : ℕ) → Leaves (reversed M) p v → p < arcs M
  leaves_number p v h = omega (arith, leaves_arc (reversed_sound sound) p v h, reversed_arcs sound)

  -- An arc of the reversed map arrives where its old number leaves.
  pub old_leaves : (p v : ℕ) → Leaves (reversed M) p v → Leaves M (old_number M p) (head_of (reversed M) p)
  old_leaves p v h = let l = leaves_number p v h in rw (new_head sound p l) (tail_leaves sound (old_number M p) (old_below sound p l))

  new_head_is : (a v : ℕ) → Leaves M a v → head_of (reversed M) (new_number M a) ≡ v
  new_head_is a v h =
      let l = leaves_arc sound a v h in
      new_head sound (new_number M a) (new_below sound a l) ∙ rw (old_of_new sound a l) (tail_is sound a v h)

  new_cost_is : (a v : ℕ) → Leaves M a v → cost_of (reversed M) (new_number M a) ≡ cost_of M a
  new_cost_is a v h =
      let l = leaves_arc sound a v h in
      new_cost sound (new_number M a) (new_below sound a l) ∙ ap (cost_of M) (old_of_new sound a l)

  there : {v w : ℕ} {route : List ℕ} → Route M v route w → Route (reversed M) w (new_route M route) v
  unfolding backwards
  there Route.here = Route.here
  there (Route.along {v} a h r) = rw (new_head_is a v h) at (route_snoc (new_number M a) (there r) (new_leaves sound a (leaves_arc sound a v h)))

  back : {v w : ℕ} {route : List ℕ} → Route (reversed M) w route v → Route M v (old_route M route) w
  unfolding backwards
  back Route.here = Route.here
  back (Route.along {v = w} p h r) = rw (leaves_old sound p w h) at (route_snoc (old_number M p) (back r) (old_leaves p w h))

  first_leaves : {v w b : ℕ} {route : List ℕ} → Route M v (b ∷ route) w → Leaves M b v
  first_leaves (Route.along b g r) = g

  -- One arc more in front.
  same_cost_along : (v : ℕ) {w : ℕ} (a : ℕ) (route : List ℕ) → Leaves M a v → Route M (head_of M a) route w
      → route_cost (reversed M) (new_route M route) ≡ route_cost M route
      → route_cost (reversed M) (new_route M (a ∷ route)) ≡ route_cost M (a ∷ route)
  unfolding backwards route_cost arcs_cost holds_cost nodes_between
  same_cost_along v a [] h r e = cost_alone (reversed M) (new_number M a) ∙ new_cost_is a v h ∙ sym (cost_alone M a)
  same_cost_along v a (b ∷ route) h r e =
      let held : end_hold (reversed M) (new_route M (b ∷ route)) ≡ hold_of M (head_of M a) =
      unfold reversed in (end_snoc (reversed M) (new_route M route) (new_number M b) ∙ ap (hold_of M) (new_head_is b (head_of M a) (first_leaves r))) in
      omega (
        arith,
        cost_snoc (reversed M) (new_route M (b ∷ route)) (new_number M a),
        held,
        new_cost_is a v h,
        e,
        cost_cons M a b route,
      )

  same_cost : {v w : ℕ} {route : List ℕ} → Route M v route w → route_cost (reversed M) (new_route M route) ≡ route_cost M route
  unfolding backwards route_cost arcs_cost holds_cost nodes_between
  same_cost Route.here = refl
  same_cost (Route.along {v} {route = route} a h r) = same_cost_along v a route h r (same_cost r)

  pub routes_reversed : RoutesReversed M
  routes_reversed = record {
    there = there;
    back = back;
    there_back = λ r. twice (new_number M) (old_number M) (λ a v h. old_of_new sound a (leaves_arc sound a v h)) r;
    back_there = λ r. twice (old_number M) (new_number M) (λ p v h. new_of_old sound p (leaves_number p v h)) r;
    same_cost = same_cost;
  }
