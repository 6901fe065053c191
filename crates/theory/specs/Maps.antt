-- Maps, and routes over them with their costs (document 01, "What the planner holds and leaves out" and "Routes"; document 02, paper 2).
use Rattle.std.specs.Prelude.{ℕ, zero, suc, ◌+◌, ◌≤◌, ◌<◌, cond, ◌≡◌, List, [], ◌∷◌, ◌++◌, ltb, length, get_or}

-- The mark for "none", document 01's own term: the distance of an unreached node, and the parent of the source and of
-- unreached nodes (document 01, "What the planner holds and leaves out").
abbrev pub none : ℕ
none = 4294967295

-- A map, lent as lists of words (document 01, "What the planner holds and leaves out"; document 02, paper 2).
pub record Map : Type 0 where
  -- n; the nodes are numbered 0 to n - 1
  pub nodes : ℕ
  pub starts : List ℕ
  pub heads : List ℕ
  pub costs : List ℕ
  -- a hold for each node (document 02, paper 2)
  pub holds : List ℕ

-- The map of lent lists (document 01, "What the planner holds and leaves out").
abbrev pub map_of : (n : ℕ) → (starts heads costs holds : List ℕ) → Map
map_of n starts heads costs holds = record { nodes = n; starts = starts; heads = heads; costs = costs; holds = holds }

-- m, the number of arcs (document 01, "What the planner holds and leaves out").
abbrev pub arcs : Map → ℕ
arcs M = length M.heads

-- The word starts[v] (document 01, "What the planner holds and leaves out").
abbrev pub start_of : Map → ℕ → ℕ
start_of M v = get_or M.starts v 0

-- The head of arc a (document 01, "What the planner holds and leaves out").
abbrev pub head_of : Map → ℕ → ℕ
head_of M a = get_or M.heads a 0

-- The cost of arc a (document 01, "What the planner holds and leaves out").
abbrev pub cost_of : Map → ℕ → ℕ
cost_of M a = get_or M.costs a 0

-- A hold, document 02's own term: what a route pays at node v where it passes through it (document 02, paper 2).
abbrev pub hold_of : Map → ℕ → ℕ
hold_of M v = get_or M.holds v 0

-- Arc a leaves node v: it is one of the numbers starts[v] up to but not including starts[v + 1] (document 01, "What the
-- planner holds and leaves out").
abbrev pub LeavesBy : (starts : List ℕ) → (a v : ℕ) → Type 0
LeavesBy starts a v = (get_or starts v 0 ≤ a) × (a < get_or starts (suc v) 0)

-- Arc a of a map leaves node v (document 01, "What the planner holds and leaves out").
abbrev pub Leaves : Map → (a v : ℕ) → Type 0
Leaves M a v = LeavesBy M.starts a v

-- The tail of arc a among `left` nodes from v on: the first whose arcs do not all end before a (document 01, "Routes": the tail of an
-- arc comes from starts).
unfoldable pub tail_from_lem : (starts : List ℕ) → (a v left : ℕ) → ℕ
tail_from_lem starts a v zero = v
tail_from_lem starts a v (suc left) = cond (ltb a (get_or starts (suc v) 0)) v (tail_from_lem starts a (suc v) left)

-- The tail of arc a: the one node v with starts[v] ≤ a < starts[v + 1] (document 01, "Routes").
abbrev pub tail_of : (n : ℕ) → (starts : List ℕ) → (a : ℕ) → ℕ
tail_of n starts a = tail_from_lem starts a 0 n

-- A list of arcs, in the order of travel, is a route from the first node to the second: each arc leaves the node at which the
-- one before it arrives (document 01, "Routes").
pub data Route (M : Map) : ℕ → List ℕ → ℕ → Type 0 where
  here : {v : ℕ} → Route M v [] v
  along : {v w : ℕ} {route : List ℕ} (a : ℕ) → Leaves M a v → Route M (head_of M a) route w → Route M v (a ∷ route) w

-- The nodes strictly between the ends of a route, each visit (document 02, paper 2).
unfoldable pub nodes_between : Map → List ℕ → List ℕ
nodes_between M [] = []
nodes_between M (a ∷ []) = []
nodes_between M (a ∷ b ∷ route) = head_of M a ∷ nodes_between M (b ∷ route)

-- The costs of a route's arcs (document 02, paper 2).
unfoldable pub arcs_cost : Map → List ℕ → ℕ
arcs_cost M [] = 0
arcs_cost M (a ∷ route) = cost_of M a + arcs_cost M route

-- The holds of nodes, each as often as it is listed (document 02, paper 2).
unfoldable pub holds_cost : Map → List ℕ → ℕ
holds_cost M [] = 0
holds_cost M (v ∷ nodes) = hold_of M v + holds_cost M nodes

-- A route costs its arcs plus the holds of the nodes strictly between its ends, each visit counted (document 02, paper 2).
unfoldable pub route_cost : Map → List ℕ → ℕ
route_cost M route = arcs_cost M route + holds_cost M (nodes_between M route)

-- A route of cost c joins node v to node w (document 01, "Routes"; document 02, paper 2).
abbrev pub Joined : (M : Map) → (v w c : ℕ) → Type 0
Joined M v w c = (route : List ℕ) × Route M v route w × (route_cost M route ≡ c)

-- A node is reached exactly if it is the source or a path leads to it from the source (document 01, "The tallies"); to the
-- source leads the route of no arc.
abbrev pub Reached : Map → (source v : ℕ) → Type 0
Reached M source v = (route : List ℕ) × Route M source route v

-- The parent word of node v; a missing word is none, which is no arc (document 01, "What the planner holds and leaves out").
abbrev pub parent_of : List ℕ → ℕ → ℕ
parent_of parents v = get_or parents v none

-- The distance of node v; a missing word is none (document 01, "What the planner holds and leaves out").
abbrev pub distance_of : List ℕ → ℕ → ℕ
distance_of distances v = get_or distances v none

-- A list of arcs is what the parent table spells out for node v, found from the last arc back. The walk back stops at the
-- source (document 01, "Routes").
pub data SpelledRoute (M : Map) (source : ℕ) (parents : List ℕ) : ℕ → List ℕ → Type 0 where
  here : SpelledRoute M source parents source []
  on : {t : ℕ} {route : List ℕ} → SpelledRoute M source parents t route → (a : ℕ) → Leaves M a t → parent_of parents (head_of M a) ≡ a
      → (source ≡ head_of M a → ⊥) → SpelledRoute M source parents (head_of M a) (route ++ (a ∷ []))

-- A map whose lists are in order, and a source in it: what numbers 1 and 3 to 7 and the length of 20 leave, and nothing of costs and holds
-- but how many they are (document 01, "What a call returns"; document 02, paper 2).
pub record Sound (M : Map) (source : ℕ) : Type 0 where
  pub some_node : 1 ≤ M.nodes
  pub few_nodes : M.nodes ≤ 4096
  pub source_node : source < M.nodes
  pub few_arcs : arcs M ≤ 65536
  pub costs_length : length M.costs ≡ arcs M
  pub holds_length : length M.holds ≡ M.nodes
  pub starts_length : length M.starts ≡ suc M.nodes
  pub starts_first : start_of M 0 ≡ 0
  pub starts_rise : (v : ℕ) → v < M.nodes → start_of M v ≤ start_of M (suc v)
  pub starts_last : start_of M M.nodes ≡ arcs M
  pub heads_nodes : (a : ℕ) → a < arcs M → head_of M a < M.nodes

-- A map, a ceiling C and a source that a run does not refuse by numbers 1 to 8 and 20: the lists are in order, no hold is above C, and no
-- arc's cost and its tail's hold are together above C, the source's arcs included (document 01, "What a call returns"; document 02, paper 2).
pub record Valid (M : Map) (C source : ℕ) : Type 0 where
  pub sound : Sound M source
  pub low_ceiling : C ≤ 1048575
  pub holds_most : (v : ℕ) → v < M.nodes → hold_of M v ≤ C
  pub sums_most : (a v : ℕ) → Leaves M a v → cost_of M a + hold_of M v ≤ C
