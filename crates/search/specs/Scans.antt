-- What the scan of a node needs of the words (document 01, "The search").
use Rattle.std.specs.Prelude.{ℕ, ◌+◌, ◌-◌, ◌≤◌, ◌<◌, length, get_or}
use mathlib.Core.List.{List, Memᴰ}
use Rattle.theory.specs.Network.{Link, links_from, arc_links}
use Rattle.theory.specs.Heap.{Heap}
use Rattle.theory.specs.Invariants.{Relaxing}
use Rattle.state.specs.declared.Layout.{Layout}
use Rattle.state.specs.declared.State.{State}
use Rattle.state.specs.Stands.{Setting, Lists, Stands}
use Rattle.placing.specs.Placing.{lists}

-- The links of the arcs first, first + 1, .., last - 1, each of which costs `hold` besides itself (document 01, "The search": arcs are taken
-- in number order; document 02, paper 2).
abbrev pub links_between : (heads costs : List ℕ) → (hold first last : ℕ) → List Link
links_between heads costs hold first last = links_from (arc_links heads (λ a. get_or costs a 0 + hold)) first (last - first)

-- The words stand for a heap in the scan of u, with the arcs from `first` up to but not including `last` left to take
-- (document 01, "The search").
pub record Scans {layout : Layout} {sizes : List ℕ} (X : Setting layout sizes) (before : List ℕ) (u : ℕ) (h : Heap) (l : Lists) (s : State) (heads costs : List ℕ) (hold first last : ℕ) : Type 0 where
  pub stands : Stands layout X.shape before h l s
  pub relaxing : Relaxing X.network X.shape X.ceiling X.segment_looks u s.front (links_between heads costs hold first last) h
  pub members : (k : Link) → Memᴰ k (links_between heads costs hold first last) → Memᴰ k (X.network.out u)
  pub rising : first ≤ last
  pub heads_long : last ≤ length heads
  pub costs_long : last ≤ length costs
  pub few : last ≤ 65536
  pub sums_low : (a : ℕ) → first ≤ a → a < last → get_or costs a 0 + hold ≤ 1048575

-- Some heap is so (document 01, "The search").
pub record SomeScans (layout : Layout) (sizes words distances parents : List ℕ) (s : State) (heads costs : List ℕ) (hold first last : ℕ) : Type 0 where
  pub setting : Setting layout sizes
  pub before : List ℕ
  pub roster : List ℕ
  pub tail : ℕ
  pub heap : Heap
  pub scans : Scans setting before tail heap (lists words distances parents roster) s heads costs hold first last
