-- A run on the words that it fills of each lent list.
use Rattle.std.specs.Prelude.{ℕ, ◌+◌, ◌≤◌, ◌≡◌, List, length, take, replicate, Ok}
use Rattle.model.specs.declared.Counts.{Counts}
use Rattle.model.specs.Answers.{words_after}
use Rattle.theory.specs.Maps.{Map, map_of}
use Rattle.theory.specs.Heap.{Heap}
use Rattle.state.specs.declared.Layout.{Layout}
use Rattle.state.specs.declared.Tally.{Tally}
use Rattle.state.specs.declared.State.{State}
use Rattle.state.specs.Tallies.{counts_of}
use Rattle.state.specs.Stands.{Setting}
use Rattle.search.specs.Running.{Runs}
use Rattle.sizes.specs.Sizes.{sizes_of}
use Rattle.theory.specs.Runs.{Inputs, heap_buckets, segment_count, work_words}
use Rattle.theory.specs.declared.Levels.{Levels}
use Rattle.checks.specs.Checks.{Ready}
use Rattle.runs.specs.Promise.{Lent, lengths_of}

-- Inputs and lists that have passed the checks of a run, and numbers of its heap: B buckets of K segments, their sizes, and the work
-- words needed (document 01, "What a call returns", "One-level heap" and "Two-level heap").
pub record Built (L : Levels) (I : Inputs) (B K : ℕ) (sizes : List ℕ) (needed : ℕ) (l : Lent) : Type 0 where
  pub ready : Ready L I (lengths_of l)
  pub buckets_are : B ≡ heap_buckets L I.ceiling
  pub segments_are : K ≡ segment_count L
  pub sizes_are : sizes ≡ sizes_of L
  pub needed_are : needed ≡ work_words L I.map.nodes

-- They are so of some kind of heap (document 01, "One-level heap" and "Two-level heap").
pub record SomeBuilt (I : Inputs) (B K : ℕ) (sizes : List ℕ) (needed : ℕ) (l : Lent) : Type 0 where
  pub levels : Levels
  pub built : Built levels I B K sizes needed l

-- The lent lists hold the words that a run fills, of which `needed` are work words (document 01, "What the planner holds and
-- leaves out").
pub record RunsOn {layout : Layout} {sizes : List ℕ} (X : Setting layout sizes) (M : Map) (source top needed : ℕ) (l : Lent) : Type 0 where
  pub runs : Runs X M source (take needed l.work) (take layout.nodes l.distances) (take layout.nodes l.parents) l.roster top
  pub distances_fit : layout.nodes ≤ length l.distances
  pub parents_fit : layout.nodes ≤ length l.parents
  pub work_fit : needed ≤ length l.work

-- Some setting is so (document 01, "What the planner holds and leaves out").
pub record SomeRunsOn (layout : Layout) (sizes starts heads costs holds : List ℕ) (source top needed : ℕ) (l : Lent) : Type 0 where
  pub setting : Setting layout sizes
  pub runs_on : RunsOn setting (map_of layout.nodes starts heads costs holds) source top needed l

-- The lists hold what the steps h leave, the scan order included, and the numbers are those of h (document 01, "The tallies").
pub record Ended (h : Heap) (needed : ℕ) (l l' : Lent) (s : State) : Type 0 where
  pub distances : l'.distances ≡ words_after (Ok tt) h.search.distances l.distances
  pub parents : l'.parents ≡ words_after (Ok tt) h.search.parents l.parents
  pub roster : l'.roster ≡ words_after (Ok tt) h.search.roster l.roster
  pub work : l'.work ≡ words_after (Ok tt) (replicate needed 0) l.work
  pub reached : s.reached ≡ length h.search.roster
  pub tally : s.tally ≡ counts_of h

-- The counts of a run, from its tallies (document 01, "The tallies": placements are insertions, decreases and shifts; document 02,
-- paper 3).
abbrev pub counts_told : Tally → Counts
counts_told t = record { decreases = t.decreases; placements = t.insertions + t.decreases + t.shifts; looks = t.looks; reads = t.reads }
