-- A removal of the words, over every heap that they stand for.
use Rattle.std.specs.Prelude.{ℕ, ◌≤◌, List, length}
use Rattle.theory.specs.Heap.{Heap, heap_remove}
use Rattle.theory.specs.Invariants.{Labelled, Least, Fits, seg, Resting}
use Rattle.state.specs.declared.Layout.{Layout}
use Rattle.state.specs.declared.State.{State}
use Rattle.state.specs.Stands.{Setting, Lists, Stands}
use Rattle.placing.specs.Placing.{lists}
use Rattle.removal.specs.declared.Removed.{Removed}

-- The words stand for a heap between two removals, with a node labelled (document 01, "The tallies").
pub record Rests {layout : Layout} {sizes : List ℕ} (X : Setting layout sizes) (before : List ℕ) (h : Heap) (l : Lists) (s : State) : Type 0 where
  pub stands : Stands layout X.shape before h l s
  pub resting : Resting X.network X.shape X.ceiling X.segment_looks s.front h
  pub long : layout.nodes ≤ length before
  pub node : ℕ
  pub labelled : Labelled h.search node

-- Some heap is so (document 01, "The tallies").
pub record SomeRests (layout : Layout) (sizes words distances roster : List ℕ) (s : State) : Type 0 where
  pub parents : List ℕ
  pub setting : Setting layout sizes
  pub before : List ℕ
  pub heap : Heap
  pub rests : Rests setting before heap (lists words distances parents roster) s

-- Node v, of the smallest key, is removed from a bucket, and the words stand for the step (document 01, "The tallies").
pub record Removal {layout : Layout} {sizes : List ℕ} (X : Setting layout sizes) (before : List ℕ) (h : Heap) (l' : Lists) (s' : State) (v : ℕ) : Type 0 where
  pub bucket : ℕ
  pub fit : Fits X.shape h.bounds bucket s'.front
  pub least : Least h.search v s'.front
  pub stands : Stands layout X.shape before (heap_remove X.shape bucket (seg X.shape h.bounds bucket s'.front) s'.front v h) l' s'

-- What a removal does to every heap that the words stand for (document 01, "The tallies").
abbrev pub Removes : (layout : Layout) → (sizes words words' distances roster roster' : List ℕ) → (s : State) → Removed → Type 0
Removes layout sizes words words' distances roster roster' s r =
    (X : Setting layout sizes) (before parents : List ℕ) (h : Heap) → Rests X before h (lists words distances parents roster) s
    → Removal X before h (lists words' distances parents roster') r.state r.node.0
