-- What is demanded of a run to a destination, in the map as it was (document 02, paper 7).
use Rattle.std.specs.Prelude.{ℕ, ◌≤◌, ◌<◌, ◌≡◌, ◌↔◌, List, [], ◌∷◌, length}
use Rattle.theory.specs.Maps.{none, Map, arcs, head_of, Leaves, Route, route_cost, Reached, parent_of, distance_of}
use Rattle.theory.specs.Heap.{Heap}
use Rattle.theory.specs.Demands.{Roster, BoundedCounts}
use Rattle.reversal.specs.Reversed.{reversed, old_parents}

-- A list of arcs is what the parent table spells out from node v on, first arc first. The walk stops at the destination (document 02, paper 7:
-- a parent is "the first arc to take from that node").
pub data SpelledTo (M : Map) (destination : ℕ) (parents : List ℕ) : ℕ → List ℕ → Type 0 where
  here : SpelledTo M destination parents destination []
  along : {v : ℕ} {route : List ℕ} (a : ℕ) → parent_of parents v ≡ a → Leaves M a v → (destination ≡ v → ⊥)
      → SpelledTo M destination parents (head_of M a) route → SpelledTo M destination parents v (a ∷ route)

-- Demand 2 of a run to a destination. A finite distance is the cost of the one route that the parent table spells out from that node on; no
-- route to the destination costs less; a node is marked none exactly if no route leads there (document 02, paper 7).
pub record CheapestTo (M : Map) (destination : ℕ) (distances parents : List ℕ) : Type 0 where
  pub distances_length : length distances ≡ M.nodes
  pub parents_length : length parents ≡ M.nodes
  pub spelled : (v : ℕ) → v < M.nodes → (distance_of distances v ≡ none → ⊥)
      → (route : List ℕ) × SpelledTo M destination parents v route × (route_cost M route ≡ distance_of distances v)
  pub spelled_once : (v : ℕ) (route route' : List ℕ) → SpelledTo M destination parents v route → SpelledTo M destination parents v route' → route ≡ route'
  pub spelled_route : (v : ℕ) (route : List ℕ) → SpelledTo M destination parents v route → Route M v route destination
  pub least : (v : ℕ) (route : List ℕ) → Route M v route destination → distance_of distances v ≤ route_cost M route
  pub unreached : (v : ℕ) → v < M.nodes → (distance_of distances v ≡ none) ↔ (Reached M v destination → ⊥)
  pub destination_parent : parent_of parents destination ≡ none
  pub unreached_parent : (v : ℕ) → v < M.nodes → distance_of distances v ≡ none → parent_of parents v ≡ none

-- Demands 2 and 3 of a run to a destination, whose steps h are those of the reversed map: the roster has each node from which a route leads
-- to the destination, and the bounds are those of a run with the map's own number of arcs (document 02, paper 7).
pub record DemandedTo (M : Map) (destination B L : ℕ) (h : Heap) : Type 0 where
  pub cheapest : CheapestTo M destination h.search.distances (old_parents M h.search.parents)
  pub roster : Roster (λ v. Reached M v destination) h.search.distances h.search.roster
  pub counts : BoundedCounts (reversed M) destination B L h
  pub same_arcs : arcs (reversed M) ≡ arcs M
