-- What a run over a map needs of the lists, and what holds of them between two removals (document 01, "The search").
use Rattle.std.specs.Prelude.{ℕ, ◌+◌, ◌≤◌, ◌≡◌, List, length}
use Rattle.theory.specs.Maps.{Map, map_of, Sound}
use Rattle.theory.specs.Network.{network}
use Rattle.theory.specs.Heap.{Heap, heap_from, heap}
use Rattle.theory.specs.Invariants.{Resting}
use Rattle.state.specs.declared.Layout.{Layout}
use Rattle.state.specs.declared.State.{State}
use Rattle.state.specs.Stands.{Setting, Lists, Stands}
use Rattle.placing.specs.Placing.{lists}
use Rattle.search.specs.Starts.{Starts}

-- The lists are as long as a run over the map wants them; what they hold does not matter (document 01, "The search").
pub record Runs {layout : Layout} {sizes : List ℕ} (X : Setting layout sizes) (M : Map) (source : ℕ) (words distances parents roster : List ℕ) (top : ℕ) : Type 0 where
  pub sound : Sound M source
  pub network_is : X.network ≡ network M source
  pub starts : Starts X words distances parents top source
  pub roster_long : layout.nodes ≤ length roster

-- Some setting is so (document 01, "The search").
pub record SomeRuns (layout : Layout) (sizes words distances parents roster starts heads costs holds : List ℕ) (top source : ℕ) : Type 0 where
  pub setting : Setting layout sizes
  pub runs : Runs setting (map_of layout.nodes starts heads costs holds) source words distances parents roster top

-- The words stand for a heap between two removals, from which the removals left lead to the last heap of the run (document 01,
-- "The tallies").
pub record Steps {layout : Layout} {sizes : List ℕ} (X : Setting layout sizes) (M : Map) (source : ℕ) (before : List ℕ) (h : Heap) (l : Lists) (s : State) : Type 0 where
  pub sound : Sound M source
  pub network_is : X.network ≡ network M source
  pub stands : Stands layout X.shape before h l s
  pub resting : Resting X.network X.shape X.ceiling X.segment_looks s.front h
  pub long : layout.nodes ≤ length before
  pub left : ℕ
  pub enough : left + length h.search.roster ≡ X.network.nodes
  pub leads : heap_from X.network X.shape left h ≡ heap X.network X.shape

-- Some heap is so (document 01, "The tallies").
pub record SomeSteps (layout : Layout) (sizes words distances parents roster starts heads costs holds : List ℕ) (s : State) (source : ℕ) : Type 0 where
  pub setting : Setting layout sizes
  pub before : List ℕ
  pub heap : Heap
  pub steps : Steps setting (map_of layout.nodes starts heads costs holds) source before heap (lists words distances parents roster) s
