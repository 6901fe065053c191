-- A planning file that was written, read again (document 02, paper 5: it reads back to the same map).
use Rattle.std.specs.Prelude.{ℕ, ◌+◌, ◌≤◌, ◌≡◌, List, length, Ok}
use Rattle.model.specs.Answers.{words_after}
use Rattle.theory.specs.Maps.{Map, arcs}
use Rattle.theory.specs.Runs.{Inputs}
use Rattle.reader.specs.Promise.{PlanAnswer, plan_header}

-- The lists lent to the reader are long enough for a map (document 02, paper 5).
pub record LongEnough (M : Map) (starts heads costs holds : List ℕ) : Type 0 where
  pub starts_fit : M.nodes + 1 ≤ length starts
  pub heads_fit : arcs M ≤ length heads
  pub costs_fit : arcs M ≤ length costs
  pub holds_fit : M.nodes ≤ length holds

-- The reader accepts, gives back the same n, m, C, source and K, and fills the same lists; words past these are untouched (document 02,
-- paper 5).
pub record ReadBack (I : Inputs) (K : ℕ) (starts heads costs holds starts' heads' costs' holds' : List ℕ) (answer : PlanAnswer) : Type 0 where
  pub accepted : answer ≡ Ok (plan_header I.map.nodes (arcs I.map) I.ceiling I.source K)
  pub starts_same : starts' ≡ words_after (Ok tt) I.map.starts starts
  pub heads_same : heads' ≡ words_after (Ok tt) I.map.heads heads
  pub costs_same : costs' ≡ words_after (Ok tt) I.map.costs costs
  pub holds_same : holds' ≡ words_after (Ok tt) I.map.holds holds
