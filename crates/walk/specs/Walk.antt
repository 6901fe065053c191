-- The walk from a node back to the source, found from the last arc back by a parent table (document 01, "Routes").
use Rattle.std.specs.Prelude.{ℕ, zero, suc, ◌+◌, ◌≤◌, ◌<◌, Bool, cond, ◌&&◌, ◌≡◌, List, [], ◌∷◌, ◌++◌, Result, Ok, Err, ltb, eqb, length, get_or, replicate}
use Rattle.model.specs.Answers.{words_after}
use Rattle.theory.specs.Maps.{Map, map_of, head_of, parent_of, tail_of, Sound}
use Rattle.walk.specs.declared.WalkError.{WalkError}
use Rattle.walk.specs.declared.WalkError.TheVariants.{Lost, NoRoom}

-- ---- the walk back

-- Arc a is below m, and its head is node v (document 01, "What a call returns", number 16).
abbrev pub leads_to : (heads : List ℕ) → (a v : ℕ) → Bool
leads_to heads a v = ltb a (length heads) && eqb (get_or heads a 0) v

-- What a walk back finds: the nodes from the source on, or that the parents do not lead back to the source (document 01, "Routes").
pub data Walk : Type 0 where
  NoWalk : Walk
  Nodes : (nodes : List ℕ) → Walk

-- The walk's nodes, and node v behind them (document 01, "Routes").
abbrev pub extended : Walk → (v : ℕ) → Walk
extended NoWalk v = NoWalk
extended (Nodes nodes) v = Nodes (nodes ++ (v ∷ []))

-- The walk back from node v, with so many arcs still allowed. It stops at the source (document 01, "Routes").
unfoldable pub walk_back : (n : ℕ) → (starts heads parents : List ℕ) → (source allowed v : ℕ) → Walk
walk_back n starts heads parents source zero v = cond (eqb v source) (Nodes (source ∷ [])) NoWalk
walk_back n starts heads parents source (suc allowed) v =
    cond (eqb v source) (Nodes (source ∷ []))
    (cond (leads_to heads (parent_of parents v) v)
    (extended (walk_back n starts heads parents source allowed (tail_of n starts (parent_of parents v))) v)
    NoWalk)

-- The nodes of a walk, none where there is no walk (document 01, "Routes").
abbrev pub nodes_of : Walk → List ℕ
nodes_of NoWalk = []
nodes_of (Nodes nodes) = nodes

-- ---- the nodes of a route

-- The nodes of a route that starts at node v, in the order of travel (document 01, "Routes").
unfoldable pub nodes_along : (M : Map) → (v : ℕ) → (route : List ℕ) → List ℕ
nodes_along M v [] = v ∷ []
nodes_along M v (a ∷ route) = v ∷ nodes_along M (head_of M a) route

-- ---- the steps of the walk in code

-- An arc leaves one of n nodes (document 01, "What the planner holds and leaves out").
pub record Tailed (n : ℕ) (starts : List ℕ) (a : ℕ) : Type 0 where
  pub count : length starts ≡ n + 1
  pub few : n ≤ 4096
  pub first : get_or starts 0 0 ≤ a
  pub last : a < get_or starts n 0

-- A map without costs and holds, of which the lists are in order, and a parent word for each node: what the checks up to 10 show (document
-- 01, "What a call returns").
pub record Table (n source : ℕ) (starts heads parents : List ℕ) : Type 0 where
  pub sound : Sound (map_of n starts heads (replicate (length heads) 0) (replicate n 0)) source
  pub long : n ≤ length parents

-- A walk back from node v over such a table, with `behind` nodes to follow it and so many arcs still allowed (document 01, "Routes").
pub record Walks (n source : ℕ) (starts heads parents : List ℕ) (v allowed behind : ℕ) : Type 0 where
  pub table : Table n source starts heads parents
  pub node : v < n
  pub short : behind + allowed < n

-- Whether the walk arrives with `behind` nodes to follow it, and whether the list has room for all (document 01, "What a call returns",
-- numbers 16 and 17).
unfoldable pub walked_of : (room behind : ℕ) → Walk → Result ℕ WalkError
walked_of room behind NoWalk = Err Lost
walked_of room behind (Nodes nodes) = cond (ltb room (length nodes + behind)) (Err NoRoom) (Ok (length nodes))

-- The route list behind the walk: the nodes from the source on, if there is room for all (document 01, "Routes").
unfoldable pub walked_words : (behind : ℕ) → Walk → (words : List ℕ) → List ℕ
walked_words behind NoWalk words = words
walked_words behind (Nodes nodes) words = cond (ltb (length words) (length nodes + behind)) words (words_after (Ok tt) nodes words)
