-- The removals of a run (document 01, "The tallies").
use Rattle.std.specs.Prelude.{ℕ, ◌≡◌, List}
use Rattle.theory.specs.Network.{Network, network}
use Rattle.theory.specs.Shape.{Shape}
use Rattle.theory.specs.Heap.{Heap, picked, pick, heap_remove, heap_scan, heap_start}
use Rattle.theory.specs.Runs.{Inputs, shape_of}
use Rattle.theory.specs.declared.Levels.{Levels}

-- The heaps of a run between two removals: the first, and each after one more removal and the arcs of the node removed (document 01,
-- "The tallies").
pub data Between (N : Network) (sh : Shape) : Heap → Type 0 where
  first : Between N sh (heap_start N sh)
  next : {h : Heap} {j k d v : ℕ} → Between N sh h → pick sh h N.nodes ≡ picked j k d v → Between N sh (heap_scan N sh j k d v h)

-- The run removes node v with key d from segment k of bucket j of the heap h (document 01, "The tallies").
pub record RunRemoval (L : Levels) (I : Inputs) (h : Heap) (j k d v : ℕ) : Type 0 where
  pub between : Between (network I.map I.source) (shape_of L I.map.nodes I.ceiling) h
  pub picks : pick (shape_of L I.map.nodes I.ceiling) h I.map.nodes ≡ picked j k d v

-- The bounds that the removal leaves (document 01, "One-level heap" and "Two-level heap").
abbrev pub bounds_left : Levels → Inputs → Heap → (j k d v : ℕ) → List ℕ
bounds_left L I h j k d v = (heap_remove (shape_of L I.map.nodes I.ceiling) j k d v h).bounds
