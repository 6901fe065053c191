-- The lowest bucket and segment that are not empty, as the words tell them, and the looks that find them.
use Rattle.std.specs.Prelude.{ℕ, ◌+◌, ◌-◌, ◌*◌, ◌≤◌, ◌<◌, ◌≡◌, List, get_or}
use Rattle.bounds.specs.Words.{segment_looks}
use Rattle.buckets.specs.Words.{places, Held}
use Rattle.buckets.specs.Answer.{InSlot, InBucket, SomeNode}
use Rattle.frontier.specs.Frontier.{Frontier}
use Rattle.state.specs.declared.Layout.{Layout}
use Rattle.state.specs.Slots.{slot_of, SlotFits}

-- Some node stands in a list (document 01, "One-level heap").
pub record Holds (layout : Layout) (words : List ℕ) : Type 0 where
  pub frontier : Frontier layout.nodes layout.slots layout.segments words
  pub slots : layout.slots ≡ (layout.buckets - 1) * layout.segments + 1
  pub two : 2 ≤ layout.buckets
  pub few : layout.buckets ≤ 22
  pub node : ℕ
  pub below : node < layout.nodes
  pub held : Held (get_or (places layout.nodes words) node 0)

-- Bucket j is the lowest that is not empty (document 01, "One-level heap").
pub record LowestBucket (layout : Layout) (words : List ℕ) (j : ℕ) : Type 0 where
  pub low : 1 ≤ j
  pub high : j ≤ layout.buckets
  pub some : SomeNode (InBucket layout.nodes j words)
  pub lower : (b w : ℕ) → 1 ≤ b → b < j → InBucket layout.nodes b words w → ⊥

-- A bucket is not empty (document 01, "One-level heap").
pub record InBucketSome (layout : Layout) (words : List ℕ) (bucket : ℕ) : Type 0 where
  pub frontier : Frontier layout.nodes layout.slots layout.segments words
  pub slots : layout.slots ≡ (layout.buckets - 1) * layout.segments + 1
  pub low : 1 ≤ bucket
  pub high : bucket ≤ layout.buckets
  pub few : layout.buckets ≤ 22
  pub some : SomeNode (InBucket layout.nodes bucket words)

-- Segment k is the lowest of the bucket that is not empty (document 01, "Two-level heap").
pub record LowestSegment (layout : Layout) (words : List ℕ) (bucket k : ℕ) : Type 0 where
  pub slot : SlotFits layout.buckets layout.segments bucket k
  pub some : SomeNode (InSlot layout.nodes layout.segments (slot_of layout.segments bucket k) words)
  pub earlier : (m w : ℕ) → 1 ≤ m → m < k → InSlot layout.nodes layout.segments (slot_of layout.segments bucket m) words w → ⊥

-- The looks of a removal from segment k of bucket j, where a bucket has K segments (document 01, "The tallies").
abbrev pub looks_of : (K j k : ℕ) → ℕ
looks_of K j k = j + segment_looks K k
