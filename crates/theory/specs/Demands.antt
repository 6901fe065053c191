-- What is demanded of a run: cheapest routes (demand 2), and exact and bounded counts (demand 3).
use Rattle.std.specs.Prelude.{ℕ, ◌+◌, ◌*◌, ◌≤◌, ◌<◌, ◌≡◌, ◌↔◌, length}
use mathlib.Core.List.{List, [], ◌∷◌, Memᴰ}
use Rattle.theory.specs.Maps.{none, Map, arcs, Route, route_cost, Reached, SpelledRoute, parent_of, distance_of}
use Rattle.theory.specs.Network.{Network, Path, SpelledPath}
use Rattle.theory.specs.Heap.{Heap, placements}

-- Demand 2: the distances and parents of a run from the source. A finite distance is the cost of the one route that the parent
-- table spells out; no route costs less; a node is marked none exactly if no route leads to it.
pub record CheapestRoutes (M : Map) (source : ℕ) (distances parents : List ℕ) : Type 0 where
  pub distances_length : length distances ≡ M.nodes
  pub parents_length : length parents ≡ M.nodes
  pub spelled : (v : ℕ) → v < M.nodes → (distance_of distances v ≡ none → ⊥)
      → (route : List ℕ) × SpelledRoute M source parents v route × (route_cost M route ≡ distance_of distances v)
  pub spelled_once : (v : ℕ) (route route' : List ℕ) → SpelledRoute M source parents v route → SpelledRoute M source parents v route' → route ≡ route'
  pub spelled_route : (v : ℕ) (route : List ℕ) → SpelledRoute M source parents v route → Route M source route v
  pub least : (v : ℕ) (route : List ℕ) → Route M source route v → distance_of distances v ≤ route_cost M route
  pub unreached : (v : ℕ) → v < M.nodes → (distance_of distances v ≡ none) ↔ (Reached M source v → ⊥)
  pub source_parent : parent_of parents source ≡ none
  pub unreached_parent : (v : ℕ) → v < M.nodes → distance_of distances v ≡ none → parent_of parents v ≡ none

-- What demand 2 says of the distances alone. `Joins v c`: a route of cost c leads from the run's own node to node v or, where a run finds
-- costs to its own node, from v to it (document 01, "Routes"; document 02, papers 2 and 7).
pub record CheapestCosts (Joins : (v c : ℕ) → Type 0) (n : ℕ) (distances : List ℕ) : Type 0 where
  pub found : (v : ℕ) → v < n → (distance_of distances v ≡ none → ⊥) → Joins v (distance_of distances v)
  pub least : (v c : ℕ) → Joins v c → distance_of distances v ≤ c
  pub unreached : (v : ℕ) → v < n → (distance_of distances v ≡ none) ↔ ((c : ℕ) → Joins v c → ⊥)

-- Demand 2 of a network, whose paths stand for the routes of the map that it is made of (document 000, section 1).
pub record CheapestPaths (N : Network) (distances parents : List ℕ) : Type 0 where
  pub distances_length : length distances ≡ N.nodes
  pub parents_length : length parents ≡ N.nodes
  pub spelled : (v : ℕ) → v < N.nodes → (distance_of distances v ≡ none → ⊥) → SpelledPath N parents v (distance_of distances v)
  pub least : (v c : ℕ) → Path N v c → distance_of distances v ≤ c
  pub unreached : (v : ℕ) → v < N.nodes → (distance_of distances v ≡ none) ↔ ((c : ℕ) → Path N v c → ⊥)
  pub source_parent : parent_of parents N.source ≡ none
  pub unreached_parent : (v : ℕ) → v < N.nodes → distance_of distances v ≡ none → parent_of parents v ≡ none

-- No node twice (document 01, "What the planner holds and leaves out": each once).
abbrev pub Distinct : List ℕ → Type 0
Distinct [] = Unit {0}
Distinct (v ∷ vs) = (Memᴰ v vs → ⊥) × Distinct vs

-- The distances along a list of nodes never fall, from `low` to `high`, which is the last one's (document 01, "What the planner
-- holds and leaves out": by nondecreasing distance).
abbrev pub Rising : (distances : List ℕ) → (low : ℕ) → List ℕ → (high : ℕ) → Type 0
Rising distances low [] high = low ≡ high
Rising distances low (v ∷ vs) high = (low ≤ distance_of distances v) × Rising distances (distance_of distances v) vs high

-- What document 01 says of a roster: each reached node once, by nondecreasing distance ("What the planner holds and leaves out"). It
-- follows of the order scanned, which fixes the roster (document 02, paper 6). Its length is r, the number of reached nodes.
pub record Roster (IsReached : ℕ → Type 0) (distances roster : List ℕ) : Type 0 where
  pub listed : (v : ℕ) → Memᴰ v roster → IsReached v
  pub complete : (v : ℕ) → IsReached v → Memᴰ v roster
  pub distinct : Distinct roster
  pub farthest : ℕ
  pub rising : Rising distances 0 roster farthest

-- The heap operations of the steps h: placements, looks and reads (demand 3; document 01, "The tallies"; document 02, paper 3).
abbrev pub operations : Heap → ℕ
operations h = placements h + h.looks + h.reads

-- A number of heap operations is within demand 3's bound for r reached nodes of m arcs, with B buckets and at most L looks to a removal:
-- r × (4 B + L) + 3 m - 4 r + 3 (document 01, "The tallies"; document 02, paper 3).
abbrev pub OperationsBounded : (number r m B L : ℕ) → Type 0
OperationsBounded number r m B L = number + 4 * r ≤ r * (4 * B + L) + 3 * m + 3

-- Demand 3, of the steps h of a run by a heap of B buckets in which a removal makes at most L looks. With r the number of
-- reached nodes: decreases ≤ m - r + 1 and placements = r + decreases + shifts ≤ r × B + m - r + 1, where a difference stands as
-- a sum on the other side, since a difference of natural numbers stops at 0; looks ≤ r × L; reads ≤ r × (B - 1) + 2 × placements
-- (document 02, paper 3); all heap operations together.
pub record BoundedCounts (M : Map) (source B L : ℕ) (h : Heap) : Type 0 where
  pub roster : Roster (Reached M source) h.search.distances h.search.roster
  pub few : length h.search.roster ≤ M.nodes
  pub insertions : h.search.insertions ≡ length h.search.roster
  pub decreases : h.search.decreases + length h.search.roster ≤ arcs M + 1
  pub sum : placements h ≡ length h.search.roster + h.search.decreases + h.shifts
  pub placed : placements h + length h.search.roster ≤ length h.search.roster * B + arcs M + 1
  pub looked : h.looks ≤ length h.search.roster * L
  pub read : h.reads + length h.search.roster ≤ length h.search.roster * B + 2 * placements h
  pub operated : OperationsBounded (operations h) (length h.search.roster) (arcs M) B L

-- Demands 2 and 3 together, of the steps h of a run.
pub record Demanded (M : Map) (source B L : ℕ) (h : Heap) : Type 0 where
  pub cheapest : CheapestRoutes M source h.search.distances h.search.parents
  pub counts : BoundedCounts M source B L h
