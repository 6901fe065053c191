-- The setting of a run, and what its words stand for.
use Rattle.std.specs.Prelude.{ℕ, ◌+◌, ◌-◌, ◌*◌, ◌≤◌, ◌<◌, ◌≡◌, List, length, get_or, Ok}
use Rattle.model.specs.Answers.{words_after}
use Rattle.theory.specs.Network.{Network, Admissible}
use Rattle.theory.specs.Shape.{Shape}
use Rattle.theory.specs.Heap.{Heap, bound}
use Rattle.theory.specs.Lawful.{Lawful}
use Rattle.bounds.specs.Words.{bounds_of, Agrees}
use Rattle.buckets.specs.Words
use Rattle.frontier.specs.Frontier.{Frontier}
use Rattle.state.specs.declared.Layout.{Layout}
use Rattle.state.specs.declared.State.{State}
use Rattle.state.specs.Places.{place_of, with_word}
use Rattle.state.specs.Slots.{slot_word}
use Rattle.state.specs.Tallies.{counts_of}

-- A network and a shape that the numbers of a run stand for (document 01, "What the planner holds and leaves out").
pub record Setting (layout : Layout) (sizes : List ℕ) : Type 0 where
  pub network : Network
  pub shape : Shape
  pub ceiling : ℕ
  pub segment_looks : ℕ
  pub few_looks : segment_looks ≤ 64
  pub arcs : ℕ
  pub admissible : Admissible network ceiling arcs
  pub lawful : Lawful shape ceiling segment_looks
  pub room : network.nodes * ceiling ≤ shape.top
  pub agrees : Agrees shape layout.buckets layout.segments sizes
  pub nodes : network.nodes ≡ layout.nodes
  pub slots : layout.slots ≡ (layout.buckets - 1) * layout.segments + 1

-- The lists that a run works on (document 01, "What the planner holds and leaves out").
pub record Lists : Type 0 where
  pub words : List ℕ
  pub distances : List ℕ
  pub parents : List ℕ
  pub roster : List ℕ

-- The lists and numbers stand for the heap h; `before` is what the roster held at the run's start (document 01, "The tallies").
pub record Stands (layout : Layout) (shape : Shape) (before : List ℕ) (h : Heap) (l : Lists) (s : State) : Type 0 where
  pub frontier : Frontier layout.nodes layout.slots layout.segments l.words
  pub places : (v : ℕ) → v < layout.nodes → get_or (Words.places layout.nodes l.words) v 0 ≡ place_of (slot_word layout.segments) shape s.front h v
  pub bounds : (i : ℕ) → 1 ≤ i → i ≤ layout.buckets → bound (bounds_of layout.nodes l.words) i ≡ bound h.bounds i
  pub distances : l.distances ≡ h.search.distances
  pub parents : l.parents ≡ h.search.parents
  pub roster : l.roster ≡ words_after (Ok tt) h.search.roster before
  pub current : s.current ≡ with_word layout.nodes l.words 1
  pub reached : s.reached ≡ length h.search.roster
  pub tally : s.tally ≡ counts_of h
