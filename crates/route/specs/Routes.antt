-- The route to a destination, found from the last arc back by a parent table (document 01, "Routes" and "What a call returns").
use Rattle.std.specs.Prelude.{ℕ, ◌-◌, ◌≤◌, not, ◌&&◌, ◌≡◌, List, [], ◌∷◌, ◌++◌, ltb, leb, eqb, length, Result, Ok, Err}
use Rattle.model.specs.Answers.{Check, number_of, fault_of, words_after}
use Rattle.model.specs.declared.Fault.{Fault}
use Rattle.model.specs.declared.Kind.TheVariants.{Destination, NoParent, Parents, RouteRoom}
use Rattle.theory.specs.Maps.{none, Map, Route, route_cost, parent_of, distance_of}
use Rattle.check_numbers.specs.Numbers.{fault_if, nodes_check, source_check, head_count_check, start_count_check, lent_check}
use Rattle.check_lists.specs.Lists.{starts_check, heads_check}
use Rattle.checks.specs.Checks.{first_fault}
use Rattle.walk.specs.declared.WalkError.{WalkError}
use Rattle.walk.specs.declared.WalkError.TheVariants.{Lost, NoRoom}
use Rattle.walk.specs.Walk.{Walk, NoWalk, Nodes, nodes_of, walk_back, nodes_along}

-- ---- the walk back

-- The walk back from the destination: n - 1 arcs are allowed at the outset (document 01, "Routes").
abbrev pub route_walk : (n source : ℕ) → (starts heads parents : List ℕ) → (destination : ℕ) → Walk
route_walk n source starts heads parents destination = walk_back n starts heads parents source (n - 1) destination

-- ---- the checks

-- 1, 3, 4 by heads alone, and 5, which look at no word of a list (document 01, "What a call returns").
unfoldable pub table_size_checks : (n source starts heads : ℕ) → List Check
table_size_checks n source starts heads = nodes_check n ∷ source_check n source ∷ head_count_check heads ∷ start_count_check n starts ∷ []

-- 1, 3, 4, 5, 6, 7 and 10, where the parents are at place 1 (document 01, "What a call returns").
unfoldable pub table_checks : (n source : ℕ) → (starts heads : List ℕ) → (parents : ℕ) → List Check
table_checks n source starts heads parents =
    table_size_checks n source (length starts) (length heads)
    ++ (starts_check n (length heads) starts ∷ heads_check n heads ∷ lent_check 1 parents n ∷ [])

-- 14: destination not below n (document 01, "What a call returns").
abbrev pub destination_check : (n destination : ℕ) → Check
destination_check n destination = fault_if Destination 0 (leb n destination)

-- 15: destination has no parent and is not the source (document 01, "What a call returns").
abbrev pub parent_check : (source : ℕ) → (parents : List ℕ) → (destination : ℕ) → Check
parent_check source parents destination = fault_if NoParent 0 (not (eqb destination source) && eqb (parent_of parents destination) none)

-- 16: the parents do not lead back to the source (document 01, "What a call returns").
abbrev pub walk_check : Walk → Check
walk_check NoWalk = Err (fault_of Parents 0)
walk_check (Nodes nodes) = Ok tt

-- 17: the route list has fewer words than the route has nodes (document 01, "What a call returns").
abbrev pub room_check : (room : ℕ) → Walk → Check
room_check room walk = fault_if RouteRoom 0 (ltb room (length (nodes_of walk)))

-- A route: 1, 3, 4, 5, 6, 7, 10, 14 to 17 in order (document 01, "What a call returns").
unfoldable pub route_checks : (n source : ℕ) → (starts heads parents : List ℕ) → (destination room : ℕ) → List Check
route_checks n source starts heads parents destination room =
    let walk = route_walk n source starts heads parents destination in
    table_checks n source starts heads (length parents)
    ++ (destination_check n destination ∷ parent_check source parents destination ∷ walk_check walk ∷ room_check room walk ∷ [])

-- ---- the promise

-- What a route answers: the number of its nodes, or the first fault (document 01, "Routes" and "What a call returns").
abbrev pub RouteAnswer : Type 0
RouteAnswer = Result ℕ Fault

-- What a route returns: number and place, then the number of nodes (document 01, "Routes" and "What a call returns").
pub record RouteNumbers : Type 0 where
  pub returned : ℕ
  pub place : ℕ
  pub nodes : ℕ

-- All other numbers of a refusal are 0 (document 01, "What a call returns").
abbrev pub refused_route : Fault → RouteNumbers
refused_route fault = record { returned = number_of fault.kind; place = fault.place; nodes = 0 }

-- The numbers of each case of a route's answer (document 01, "What a call returns").
abbrev pub route_numbers_of : RouteAnswer → RouteNumbers
route_numbers_of (Ok nodes) = record { returned = 0; place = 0; nodes = nodes }
route_numbers_of (Err fault) = refused_route fault

-- The answer to a route whose checks in order come to `check` (document 01, "What a call returns").
abbrev pub route_numbers : Check → Walk → RouteNumbers
route_numbers (Ok tt) walk = record { returned = 0; place = 0; nodes = length (nodes_of walk) }
route_numbers (Err fault) walk = refused_route fault

-- The promise of a route whose checks come to `check`: the numbers, and the list with the nodes, source first (document 01, "Routes").
pub record RouteGiven (check : Check) (walk : Walk) (answer : RouteAnswer) (words words' : List ℕ) : Type 0 where
  pub numbers : route_numbers_of answer ≡ route_numbers check walk
  pub list : words' ≡ words_after check (nodes_of walk) words

-- The promise of a route, for every input (document 01, "Routes" and "What a call returns").
abbrev pub RoutePromised : (n source : ℕ) → (starts heads parents : List ℕ) → (destination : ℕ) → RouteAnswer → (words words' : List ℕ) → Type 0
RoutePromised n source starts heads parents destination answer words words' =
    RouteGiven (first_fault (route_checks n source starts heads parents destination (length words)))
    (route_walk n source starts heads parents destination) answer words words'

-- ---- routes of a run

-- The route to a destination that a run has reached, by the parents and distances that it gave back: it is a route of the map, it costs
-- the distance, its nodes are those found, and it is not refused where the list has room for them (document 01, "Routes"; document 02,
-- paper 2).
pub record Served (M : Map) (source : ℕ) (distances parents : List ℕ) (destination : ℕ) : Type 0 where
  pub route : List ℕ
  pub is_route : Route M source route destination
  pub cost : route_cost M route ≡ distance_of distances destination
  pub nodes : nodes_of (route_walk M.nodes source M.starts M.heads parents destination) ≡ nodes_along M source route
  pub accepted : (room : ℕ) → length (nodes_along M source route) ≤ room
      → first_fault (route_checks M.nodes source M.starts M.heads parents destination room) ≡ Ok tt

-- ---- the steps of a route in code

-- The answer to a walk (document 01, "What a call returns", numbers 16 and 17).
abbrev pub walked_numbers : Result ℕ WalkError → RouteNumbers
walked_numbers (Err Lost) = record { returned = 16; place = 0; nodes = 0 }
walked_numbers (Err NoRoom) = record { returned = 17; place = 0; nodes = 0 }
walked_numbers (Ok nodes) = record { returned = 0; place = 0; nodes = nodes }
