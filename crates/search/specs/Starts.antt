-- What the start of a run needs of the lists (document 01, "The search").
use Rattle.std.specs.Prelude.{ℕ, ◌≡◌, List, length}
use Rattle.buckets.specs.Words.{WordsFit}
use Rattle.state.specs.declared.Layout.{Layout}
use Rattle.state.specs.Stands.{Setting}

-- The lists are as long as a run wants them; what they hold does not matter (document 01, "The search").
pub record Starts {layout : Layout} {sizes : List ℕ} (X : Setting layout sizes) (words distances parents : List ℕ) (top source : ℕ) : Type 0 where
  pub source_is : X.network.source ≡ source
  pub top_is : X.shape.top ≡ top
  pub fits : WordsFit layout.nodes layout.slots layout.segments (length words)
  pub distances_long : length distances ≡ layout.nodes
  pub parents_long : length parents ≡ layout.nodes

-- Some setting is so (document 01, "The search").
pub record SomeStarts (layout : Layout) (sizes words distances parents : List ℕ) (top source : ℕ) : Type 0 where
  pub setting : Setting layout sizes
  pub starts : Starts setting words distances parents top source
