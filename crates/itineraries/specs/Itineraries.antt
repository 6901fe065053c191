-- What `routes` prints for every input, and what it leaves in the lists that it lends. The text is ours; its parts are those of document 01,
-- "Routes" and "Planning file".
use Rattle.std.specs.Prelude.{ℕ, zero, suc, ◌≤◌, ◌<◌, cond, ◌≡◌, List, [], ◌∷◌, ◌++◌, eqb, length, get_or, Ok, Err}
use Rattle.model.specs.Answers.{Check, words_after}
use Rattle.theory.specs.Maps.{none, Map, Route, route_cost}
use Rattle.theory.specs.Runs.{Inputs, steps_of}
use Rattle.theory.specs.declared.Levels.TheVariants.{One}
use Rattle.checks.specs.Checks.{first_fault}
use Rattle.walk.specs.Walk.{nodes_of, nodes_along}
use Rattle.route.specs.Routes.{route_walk, route_checks}
use Rattle.fields.specs.Fields.{comma, decimal, render_line}
use Rattle.fields.specs.Writing.{Writes}
use Rattle.reader.specs.Plans.{Plan, plan_of, plan_run}
use Rattle.report.specs.Report.{refused_text}
use Rattle.planning.specs.Planning.{planning_check, PlanLists, lent_of, RunLeft, ListsLeft, WordsLent}

-- ---- the text

-- The line of a reached node: its number, its distance, and the nodes of its route, source first (document 01, "Routes" and "Planning
-- file").
unfoldable pub route_line : (v distance : ℕ) → (nodes : List ℕ) → List ℕ
route_line v distance nodes = render_line comma (v ∷ distance ∷ nodes)

-- The line of a node; one that is not reached has none (document 01, "What the planner holds and leaves out": the mark for none).
unfoldable pub line_if_reached : (v distance : ℕ) → (nodes : List ℕ) → List ℕ
line_if_reached v distance nodes = cond (eqb distance none) [] (route_line v distance nodes)

-- The lines of the first nodes, so many of them, each by number (document 01, "Planning file").
unfoldable pub route_lines : (count : ℕ) → (distances : List ℕ) → (routes : ℕ → List ℕ) → List ℕ
route_lines zero distances routes = []
route_lines (suc v) distances routes = route_lines v distances routes ++ line_if_reached v (get_or distances v 0) (routes v)

-- The nodes of the route to node v by a parent table (document 01, "Routes").
abbrev pub nodes_to : (n source : ℕ) → (starts heads parents : List ℕ) → (v : ℕ) → List ℕ
nodes_to n source starts heads parents v = nodes_of (route_walk n source starts heads parents v)

-- The nodes of the route to node v by the parents of the one-level run of these inputs (document 01, "Routes" and "One-level heap").
abbrev pub run_route : Inputs → (v : ℕ) → List ℕ
run_route I = nodes_to I.map.nodes I.source I.map.starts I.map.heads (steps_of One I).search.parents

-- The lines of the one-level run of these inputs (document 01, "Routes" and "Planning file").
abbrev pub run_lines : Inputs → List ℕ
run_lines I = route_lines I.map.nodes (steps_of One I).search.distances (run_route I)

-- The text for a file that tells `plan` and whose checks come to `check` (document 01, "Routes" and "Planning file").
abbrev pub checked_routes : Check → Plan → List ℕ
checked_routes (Ok tt) plan = run_lines (plan_run plan)
checked_routes (Err fault) plan = refused_text fault

-- What `routes` prints (document 01, "Routes" and "Planning file").
unfoldable pub routes_text : (bytes : List ℕ) → List ℕ
routes_text bytes = checked_routes (planning_check bytes) (plan_of bytes)

-- ---- the lists

-- The route list with the nodes of a route at its front; for a node that is not reached it stays (document 01, "Routes": words past the
-- route are untouched).
unfoldable pub words_if_reached : (distance : ℕ) → (nodes words : List ℕ) → List ℕ
words_if_reached distance nodes words = cond (eqb distance none) words (words_after (Ok tt) nodes words)

-- The route list behind the routes of the first nodes, each written over those before it (document 01, "Routes").
unfoldable pub route_fields : (count : ℕ) → (distances : List ℕ) → (routes : ℕ → List ℕ) → (words : List ℕ) → List ℕ
route_fields zero distances routes words = words
route_fields (suc v) distances routes words = words_if_reached (get_or distances v 0) (routes v) (route_fields v distances routes words)

-- The route list behind the routes of the one-level run of these inputs (document 01, "Routes").
abbrev pub run_fields : Inputs → (words : List ℕ) → List ℕ
run_fields I words = route_fields I.map.nodes (steps_of One I).search.distances (run_route I) words

-- The route list afterwards; a refusal leaves all words (document 01, "What a call returns").
abbrev pub checked_words : Check → Plan → (words : List ℕ) → List ℕ
checked_words (Ok tt) plan words = run_fields (plan_run plan) words
checked_words (Err fault) plan words = words

-- The text is written, and the lists hold the map, what the one-level run leaves, and the routes (document 01, "Planning file" and "Routes").
pub record Listed (check : Check) (plan : Plan) (l l' : PlanLists) (route route' output output' : List ℕ) (bytes : ℕ) : Type 0 where
  pub text : Writes 0 (checked_routes check plan) output output' bytes
  pub lists : ListsLeft check plan One l l'
  pub route_after : route' ≡ checked_words check plan route

-- From bytes to bytes, for every input (document 01, "Planning file" and "What a call returns").
abbrev pub ItinerariesPromised : (bytes : List ℕ) → (l l' : PlanLists) → (route route' output output' : List ℕ) → (written : ℕ) → Type 0
ItinerariesPromised bytes l l' route route' output output' written =
    Listed (planning_check bytes) (plan_of bytes) l l' route route' output output' written

-- ---- what a line tells

-- The line of a reached node is that of a route of the map, with its cost; no route to the node costs less (document 01, "Routes"; document
-- 02, paper 2).
pub record CheapestLine (M : Map) (source v : ℕ) (line : List ℕ) : Type 0 where
  pub route : List ℕ
  pub is_route : Route M source route v
  pub least : (other : List ℕ) → Route M source other v → route_cost M route ≤ route_cost M other
  pub told : line ≡ route_line v (route_cost M route) (nodes_along M source route)

-- ---- what the code goes by

-- Numbers one behind the other, each behind a comma (document 01, "Planning file": fields parted by commas).
unfoldable pub behind_commas : (values : List ℕ) → List ℕ
behind_commas [] = []
behind_commas (value ∷ values) = (comma ∷ decimal value) ++ behind_commas values

-- The most bytes of a line: 4 for the node, 10 for the distance, 4 for each of 512 nodes, and the line feed come to 2,063 (document 01,
-- "Planning file": 512 words for any list by node).
abbrev pub line_bytes : ℕ
line_bytes = 2064

-- The nodes of a line: at most 512, each of at most three digits (document 01, "Planning file").
pub record Few (nodes : List ℕ) : Type 0 where
  pub count : length nodes ≤ 512
  pub small : (i : ℕ) → i < length nodes → get_or nodes i 0 < 1000

-- The route to node v is not refused, and a line has room for its nodes (document 01, "Routes").
pub record Routable (n source : ℕ) (starts heads parents : List ℕ) (v : ℕ) : Type 0 where
  pub node : v < 1000
  pub some : 1 ≤ length (nodes_to n source starts heads parents v)
  pub accepted : first_fault (route_checks n source starts heads parents v 512) ≡ Ok tt
  pub few : Few (nodes_to n source starts heads parents v)

-- Every node with a distance has such a route (document 01, "Routes").
pub record AllRoutable (n source : ℕ) (starts heads distances parents : List ℕ) : Type 0 where
  pub nodes_fit : n ≤ 512
  pub distances_fit : n ≤ length distances
  pub routable : (v : ℕ) → v < n → (get_or distances v 0 ≡ none → ⊥) → Routable n source starts heads parents v

-- `routes` lends besides the route's words and the bytes of its output: 512 lines, and 32 more, since a number is written where 20 bytes are
-- free (document 01, "Planning file").
pub record ListLends (l : PlanLists) (route output : List ℕ) : Type 0 where
  pub lists : WordsLent l
  pub route_words : length route ≡ 512
  pub output_bytes : length output ≡ 1056800

-- The one-level run of these inputs is made, and its routes are written (document 01, "Routes" and "One-level heap").
pub record RunListed (I : Inputs) (l l' : PlanLists) (route route' output output' : List ℕ) (written : ℕ) : Type 0 where
  pub text : Writes 0 (run_lines I) output output' written
  pub left : RunLeft (Ok tt) One I (lent_of l) (lent_of l')
  pub route_after : route' ≡ run_fields I route
