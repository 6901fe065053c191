-- The bridge between the two rules of cost (document 02, paper 2): a route of a map is a path of its network that costs no more, and the path
-- that the parents spell is a route of the same cost, since it does not come back to the source. What the parents spell is one route.
use Prim.Native.Nat.{ℕ, ◌+◌, ◌≤◌, ◌<◌}
use mathlib.Core.Path.{◌≡◌, refl, sym, ◌∙◌, ap}
use mathlib.Core.Logic.{◌≢◌}
use mathlib.Core.List.{List, [], ◌∷◌, ◌++◌}
use native.Mathlib.Omega.{arith}
use lib.ListN.{length, get_or-append}
use borrow.Author.Tests.{eq-eqb, ne_eqb}
use Rattle.theory.specs.Maps.{none, Map, head_of, cost_of, hold_of, Leaves, Route, nodes_between, arcs_cost, holds_cost, route_cost, Reached, SpelledRoute, parent_of, Sound}
use Rattle.theory.specs.Network.{Link, tail_hold, arc_cost, network, Path, SpelledPath}
use Rattle.theory.proofs.Lists.{inside}
use Rattle.theory.proofs.Maps.Arcs.{link_of, tail_hold_most, out_leaves, leaves_out, leaves_arc, leaves_once}

-- One more arc at a route's end.
pub route_snoc : {M : Map} {v w : ℕ} {route : List ℕ} (a : ℕ) → Route M v route w → Leaves M a w → Route M v (route ++ (a ∷ [])) (head_of M a)
route_snoc a Route.here h = Route.along a h Route.here
route_snoc a (Route.along b g r) h = Route.along b g (route_snoc a r h)

-- The hold of the node at which a route arrives; the route of no arc arrives nowhere.
unfoldable pub end_hold : Map → List ℕ → ℕ
end_hold M [] = 0
end_hold M (a ∷ []) = hold_of M (head_of M a)
end_hold M (a ∷ b ∷ route) = end_hold M (b ∷ route)

pub end_snoc : (M : Map) (route : List ℕ) (a : ℕ) → end_hold M (route ++ (a ∷ [])) ≡ hold_of M (head_of M a)
unfolding end_hold
end_snoc M [] a = refl
end_snoc M (b ∷ []) a = refl
end_snoc M (b ∷ c ∷ route) a = end_snoc M (c ∷ route) a

-- An arc behind a route: the route passes through the node at which it arrived.
pub cost_snoc : (M : Map) (route : List ℕ) (a : ℕ) → route_cost M (route ++ (a ∷ [])) ≡ route_cost M route + end_hold M route + cost_of M a
unfolding route_cost arcs_cost holds_cost nodes_between end_hold
cost_snoc M [] a = omega arith
cost_snoc M (b ∷ []) a = omega arith
cost_snoc M (b ∷ c ∷ route) a = omega (arith, cost_snoc M (c ∷ route) a)

-- An arc before a route: alone it costs itself, and before another arc its head's hold besides.
pub cost_alone : (M : Map) (a : ℕ) → route_cost M (a ∷ []) ≡ cost_of M a
unfolding route_cost arcs_cost holds_cost nodes_between
cost_alone M a = omega arith

pub cost_cons : (M : Map) (a b : ℕ) (route : List ℕ) → route_cost M (a ∷ b ∷ route) ≡ cost_of M a + hold_of M (head_of M a) + route_cost M (b ∷ route)
unfolding route_cost arcs_cost holds_cost nodes_between
cost_cons M a b route = omega arith

pub path_route : {M : Map} {source v c : ℕ} → Path (network M source) v c → Reached M source v
unfolding network
path_route Path.here = ([], Route.here)
path_route {M} {source} (Path.on {v} p l m) =
    let r = path_route p in
    let o = out_leaves M source v l (unfold network in m) in
    rw o.1 (r.0 ++ (l.arc ∷ []), route_snoc l.arc r.1 o.0)

-- A route is a path of the network that costs no more: the network lets a route pass through the source for nothing.
pub route_path : {M : Map} {v w : ℕ} {route : List ℕ} (source c : ℕ) → Route M v route w → Path (network M source) v c
    → (d : ℕ) × Path (network M source) w d × (d ≤ c + tail_hold M.holds source v + route_cost M route)
route_path source c Route.here p = (c, p, omega arith)
route_path {M} {v} source c (Route.along a h Route.here) p =
    (c + arc_cost M source v a, Path.on p (link_of M source v a) (leaves_out M source v a h), omega (arith, cost_alone M a))
route_path {M} {v} source c (Route.along a h (Route.along {route} b g r)) p =
    let q = route_path source (c + arc_cost M source v a) (Route.along b g r) (Path.on p (link_of M source v a) (leaves_out M source v a h)) in
    (q.0, q.1, omega (arith, q.2, tail_hold_most M source (head_of M a), cost_cons M a b route))

source_hold : (M : Map) (source : ℕ) → tail_hold M.holds source source ≡ 0
unfolding tail_hold
source_hold M source = rw (eq-eqb source source refl)

other_hold : (M : Map) (source v : ℕ) → v ≢ source → tail_hold M.holds source v ≡ hold_of M v
unfolding tail_hold
other_hold M source v n = rw (ne_eqb v source n)

-- From the source no hold is paid at the start.
pub source_path : {M : Map} {source w : ℕ} {route : List ℕ} → Route M source route w → (d : ℕ) × Path (network M source) w d × (d ≤ route_cost M route)
unfolding network
source_path {M} {source} r = let q = route_path source 0 r Path.here in (q.0, q.1, omega (arith, q.2, source_hold M source))

-- What the parents spell.
pub spelled_route : {M : Map} {source : ℕ} {parents : List ℕ} {v : ℕ} {route : List ℕ} → SpelledRoute M source parents v route → Route M source route v
spelled_route SpelledRoute.here = Route.here
spelled_route (SpelledRoute.on r a h e n) = route_snoc a (spelled_route r) h

-- A route from a node of the map ends at a node of the map.
pub route_node : {M : Map} {source : ℕ} → Sound M source → {v w : ℕ} {route : List ℕ} → Route M v route w → v < M.nodes → w < M.nodes
route_node sound Route.here l = l
route_node sound (Route.along {v} a h r) l = route_node sound r (sound.heads_nodes a (leaves_arc sound a v h))

-- What the parents of the nodes spell does not depend on the words past them.
pub spelled_past : {M : Map} {source : ℕ} → Sound M source → (parents past : List ℕ) → length parents ≡ M.nodes
    → {v : ℕ} {route : List ℕ} → SpelledRoute M source parents v route → SpelledRoute M source (parents ++ past) v route
spelled_past sound parents past e SpelledRoute.here = SpelledRoute.here
spelled_past {M} sound parents past e (SpelledRoute.on {t} r a h p q) =
    SpelledRoute.on (spelled_past sound parents past e r) a h
    (get_or-append parents past none (head_of M a) (omega (arith, sound.heads_nodes a (leaves_arc sound a t h))) ∙ p) q

-- Where a spelled route goes on, it pays what the arc rule asks: it never comes back to the source.
spelled_end : {M : Map} {source v : ℕ} {parents route : List ℕ} → SpelledRoute M source parents v route → end_hold M route ≡ tail_hold M.holds source v
unfolding end_hold
spelled_end {M} {source} SpelledRoute.here = sym (source_hold M source)
spelled_end {M} {source} (SpelledRoute.on {route} r a h e n) = end_snoc M route a ∙ sym (other_hold M source (head_of M a) (λ q. n (sym q)))

-- A spelled route and one arc more.
spelled_on : {M : Map} {source : ℕ} {parents : List ℕ} {t : ℕ} (route : List ℕ) (a d k : ℕ) → SpelledRoute M source parents t route → route_cost M route ≡ d
    → Leaves M a t → parent_of parents (head_of M a) ≡ a → (source ≡ head_of M a → ⊥) → k ≡ arc_cost M source t a
    → (longer : List ℕ) × SpelledRoute M source parents (head_of M a) longer × (route_cost M longer ≡ d + k)
spelled_on {M} route a d k r q h e n g = (route ++ (a ∷ []), SpelledRoute.on r a h e n, omega (arith, cost_snoc M route a, q, spelled_end r, g))

pub spelled_path_route : {M : Map} {source : ℕ} {parents : List ℕ} {v c : ℕ} → SpelledPath (network M source) parents v c
    → (route : List ℕ) × SpelledRoute M source parents v route × (route_cost M route ≡ c)
unfolding network route_cost arcs_cost holds_cost nodes_between
spelled_path_route SpelledPath.here = ([], SpelledRoute.here, refl)
spelled_path_route {M} {source} {parents = parents} (SpelledPath.on {t} {c = d} p l m e n) =
    let r = spelled_path_route p in
    let o = out_leaves M source t l (unfold network in m) in
    let f : l.head ≡ head_of M l.arc = ap (λ (k : Link). k.head) o.1 in
    let g : l.cost ≡ arc_cost M source t l.arc = ap (λ (k : Link). k.cost) o.1 in
    rw f (spelled_on r.0 l.arc d l.cost r.1 r.2 o.0 (rw f at e) (rw f at n) g)

module _ {M : Map} {source : ℕ} (sound : Sound M source) {parents : List ℕ} where
  same_spelled : {v w : ℕ} {route route' : List ℕ} → SpelledRoute M source parents v route → SpelledRoute M source parents w route' → v ≡ w → route ≡ route'
  same_spelled SpelledRoute.here SpelledRoute.here e = refl
  same_spelled SpelledRoute.here (SpelledRoute.on r a h p n) e = absurd (n e)
  same_spelled (SpelledRoute.on r a h p n) SpelledRoute.here e = absurd (n (sym e))
  same_spelled (SpelledRoute.on {t = t} {route = x} r a h p n) (SpelledRoute.on {t = u} {route = y} s b g q k) e =
      let z : a ≡ b = sym p ∙ ap (parent_of parents) e ∙ q in
      let y : x ≡ y = same_spelled r s (leaves_once sound a t u h (rw z g)) in
      rw (y, z)

  pub spelled_once : (v : ℕ) (route route' : List ℕ) → SpelledRoute M source parents v route → SpelledRoute M source parents v route' → route ≡ route'
  spelled_once v route route' r s = same_spelled r s refl

  -- A node that is spelled and is not the source has a parent word in the table: a missing word spells nothing.
  pub spelled_inside : {v : ℕ} {route : List ℕ} → SpelledRoute M source parents v route → v ≢ source → v < length parents
  spelled_inside SpelledRoute.here n = absurd (n refl)
  spelled_inside (SpelledRoute.on {t} r a h p n) _ = inside parents (head_of M a) (parent_of [] 0) (λ (e : parent_of parents (head_of M a) ≡ parent_of [] 0). omega (arith, leaves_arc sound a t h, sound.few_arcs))
