-- What a run is given, the two kinds of heap with all that depends on the kind, and the steps of a run (document 01, "What the planner
-- holds and leaves out", "One-level heap", "Two-level heap" and "The tallies": the steps are fed the run's inputs and nothing that the
-- program has written).
use Rattle.theory.specs.declared.Levels.{Levels}
use Rattle.theory.specs.declared.Levels.TheVariants.{One, Two}
use Rattle.std.specs.Prelude.{ℕ, ◌+◌, ◌*◌, ◌≤◌, List}
use Rattle.theory.specs.Maps.{Map, Valid, map_of}
use Rattle.theory.specs.Network.{network}
use Rattle.theory.specs.Shape.{Shape, one_level_buckets, two_level_buckets, one_level, two_level}
use Rattle.theory.specs.Heap.{Heap, heap}

-- ---- what a run is given

-- The inputs of a run: all that it is given beside K and the lists that it fills (document 01, "What the planner holds and leaves out").
pub record Inputs : Type 0 where
  pub map : Map
  pub ceiling : ℕ
  pub source : ℕ

-- The inputs from the numbers and lists of a call (document 01, "What the planner holds and leaves out").
abbrev pub inputs : (n C source : ℕ) → (starts heads costs holds : List ℕ) → Inputs
inputs n C source starts heads costs holds = record { map = map_of n starts heads costs holds; ceiling = C; source = source }

-- Inputs that no run refuses by numbers 1 to 8 and 20 (document 01, "What a call returns"; document 02, paper 2).
abbrev pub ValidInputs : Inputs → Type 0
ValidInputs I = Valid I.map I.ceiling I.source

-- ---- the kind of heap

-- K is at least 2, which is all that the theorems ask of it (document 01, "Two-level heap").
abbrev pub Segmented : Levels → Type 0
Segmented One = Unit {0}
Segmented (Two K) = 2 ≤ K

-- K is one of document 01's (document 01, "What the planner holds and leaves out").
abbrev pub Allowed : Levels → Type 0
Allowed One = Unit {0}
Allowed (Two K) = (2 ≤ K) × (K ≤ 64)

-- B (document 01, "One-level heap" and "Two-level heap").
abbrev pub heap_buckets : Levels → (C : ℕ) → ℕ
heap_buckets One C = one_level_buckets C
heap_buckets (Two K) C = two_level_buckets C K

-- The segments of a bucket below the last (document 01, "One-level heap" and "Two-level heap").
abbrev pub segment_count : Levels → ℕ
segment_count One = 1
segment_count (Two K) = K

-- The most looks of a removal (document 01, "The tallies").
abbrev pub removal_looks : Levels → (C : ℕ) → ℕ
removal_looks One C = one_level_buckets C
removal_looks (Two K) C = two_level_buckets C K + K

-- The work words beside four for each node (document 01, "What the planner holds and leaves out").
abbrev pub fixed_words : Levels → ℕ
fixed_words One = 64
fixed_words (Two K) = 384

-- The words of work that a run needs (document 01, "What the planner holds and leaves out").
abbrev pub work_words : Levels → (n : ℕ) → ℕ
work_words L n = 4 * n + fixed_words L

-- The shape of the heap (document 01, "One-level heap" and "Two-level heap").
abbrev pub shape_of : Levels → (n C : ℕ) → Shape
shape_of One n C = one_level n C
shape_of (Two K) n C = two_level n C K

-- ---- the steps

-- The steps of a run over its inputs (document 01, "The tallies").
unfoldable pub steps_of : Levels → Inputs → Heap
steps_of L I = heap (network I.map I.source) (shape_of L I.map.nodes I.ceiling)
