-- The bounds that a removal sets anew.
use Rattle.std.specs.Prelude.{ℕ, ◌-◌, ◌≤◌, List, length}
use Rattle.theory.specs.Heap.{bound}
use Rattle.bounds.specs.Words.{bounds_of, segment_end, rebound_words}
use Rattle.buckets.specs.Words.{heads}
use Rattle.state.specs.declared.Layout.{Layout}
use Rattle.placing.specs.Placing.{Formed}

-- The bounds below bucket j can be set anew for the smallest key x, of its segment k (document 01, "Two-level heap").
pub record Renews (layout : Layout) (sizes words : List ℕ) (j k x : ℕ) : Type 0 where
  pub formed : Formed layout sizes
  pub long : heads layout.nodes ≤ length words
  pub low : 1 ≤ j
  pub high : j ≤ layout.buckets
  pub segment : k ≤ layout.segments
  pub positive : 1 ≤ x
  pub end : x ≤ segment_end layout.buckets layout.segments sizes j (bound (bounds_of layout.nodes words) j) k

-- The words with the bounds below bucket j as a removal of key x from its segment k leaves them (document 01, "Two-level heap").
abbrev pub renewed : (layout : Layout) → (sizes words : List ℕ) → (j k x : ℕ) → List ℕ
renewed layout sizes words j k x =
    rebound_words layout.nodes sizes (segment_end layout.buckets layout.segments sizes j (bound (bounds_of layout.nodes words) j) k) (x - 1) 1 j words
