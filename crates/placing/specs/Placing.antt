-- What placements need of the words, and what they leave.
use Rattle.std.specs.Prelude.{ℕ, ◌+◌, ◌-◌, ◌*◌, ◌≤◌, ◌<◌, ◌≡◌, ◌≢◌, false, length, get_or}
use mathlib.Core.List.{List, ◌∷◌, Memᴰ}
use Rattle.theory.specs.Network.{Link}
use Rattle.theory.specs.Heap.{Heap}
use Rattle.theory.specs.Invariants.{HeapInv, Labelling, Relaxing}
use Rattle.bounds.specs.Words.{bounds_of, segmented, segment_end, Sized}
use Rattle.buckets.specs.Words.{places, place_bucket}
use Rattle.frontier.specs.Frontier.{Frontier, Placed}
use Rattle.state.specs.declared.Layout.{Layout}
use Rattle.state.specs.declared.State.{State}
use Rattle.state.specs.Places.{is_word}
use Rattle.state.specs.Slots.{slot_word, bucket_word, key_word, SlotFits, Enters}
use Rattle.state.specs.Stands.{Setting, Lists, Stands}

-- A layout whose numbers are those of a heap with these sizes (document 01, "Two-level heap").
pub record Formed (layout : Layout) (sizes : List ℕ) : Type 0 where
  pub sized : Sized layout.buckets sizes
  pub slots : layout.slots ≡ (layout.buckets - 1) * layout.segments + 1

-- Node v is unlabelled in the words, and the place of its key, in the bucket found, is one that there is (document 01, "One-level heap").
pub record Entering (layout : Layout) (sizes words : List ℕ) (front v key bucket : ℕ) : Type 0 where
  pub formed : Formed layout sizes
  pub frontier : Frontier layout.nodes layout.slots layout.segments words
  pub node : v < layout.nodes
  pub unlabelled : get_or (places layout.nodes words) v 0 ≡ 0
  pub enters : Enters layout.buckets layout.segments sizes (bounds_of layout.nodes words) front key bucket

-- Its place word is that of its key; 1 is counted where it is the current one (document 01, "One-level heap").
pub record Entered (layout : Layout) (sizes words words' : List ℕ) (front v key bucket r : ℕ) : Type 0 where
  pub placed : Placed layout.nodes layout.slots layout.segments words words' v (key_word layout.buckets layout.segments sizes (bounds_of layout.nodes words) front key bucket)
  pub counted : r ≡ is_word 1 (key_word layout.buckets layout.segments sizes (bounds_of layout.nodes words) front key bucket)

-- A node stands in a segment of a bucket with this bound, as its place word says, and a key is below the segment's upper end (document 01,
-- "Two-level heap").
pub record Standing (layout : Layout) (sizes : List ℕ) (u place key : ℕ) : Type 0 where
  pub formed : Formed layout sizes
  pub few : layout.slots < 512
  pub bucket : ℕ
  pub segment : ℕ
  pub fits : SlotFits layout.buckets layout.segments bucket segment
  pub whole : segmented layout.buckets layout.segments bucket ≡ false → segment ≡ 1
  pub word : place ≡ slot_word layout.segments bucket segment
  pub below : key < segment_end layout.buckets layout.segments sizes bucket u segment

-- The key's own place word is still the node's: it is not the current one, and belongs in the same segment of the same bucket (document 01,
-- "Two-level heap").
pub record Stays (layout : Layout) (sizes : List ℕ) (front place key u found : ℕ) : Type 0 where
  pub later : key ≢ front
  pub bucket : found ≡ place_bucket place
  pub word : bucket_word layout.buckets layout.segments sizes found u key ≡ place

-- The lists of a run from their parts (document 01, "What the planner holds and leaves out").
abbrev pub lists : (words distances parents roster : List ℕ) → Lists
lists words distances parents roster = record { words = words; distances = distances; parents = parents; roster = roster }

-- A link from its parts (document 000, section 1).
abbrev pub link : (arc head cost : ℕ) → Link
link arc head cost = record { arc = arc; head = head; cost = cost }

-- The words stand for a heap in which v's key falls to x (document 01, "The search").
pub record Labels {layout : Layout} {sizes : List ℕ} (X : Setting layout sizes) (before : List ℕ) (h : Heap) (l : Lists) (s : State) (v x : ℕ) : Type 0 where
  pub stands : Stands layout X.shape before h l s
  pub inv : HeapInv X.network X.shape s.front h
  pub labelling : Labelling X.network X.shape h v x
  pub late : s.front ≤ x
  pub parents_long : length l.parents ≡ layout.nodes
  pub insertions_few : s.tally.insertions < 4294967295
  pub decreases_few : s.tally.decreases < 4294967295
  pub reads_few : s.tally.reads ≤ 4294967040

-- Some heap is so (document 01, "The search").
pub record SomeLabels (layout : Layout) (sizes words distances parents : List ℕ) (s : State) (v x : ℕ) : Type 0 where
  pub setting : Setting layout sizes
  pub before : List ℕ
  pub roster : List ℕ
  pub heap : Heap
  pub labels : Labels setting before heap (lists words distances parents roster) s v x

-- The words stand for a heap in the scan of u, with link l next and ls after it (document 01, "The search").
pub record Relaxes {layout : Layout} {sizes : List ℕ} (X : Setting layout sizes) (before : List ℕ) (u : ℕ) (l : Link) (ls : List Link) (h : Heap) (lists : Lists) (s : State) : Type 0 where
  pub stands : Stands layout X.shape before h lists s
  pub relaxing : Relaxing X.network X.shape X.ceiling X.segment_looks u s.front (l ∷ ls) h
  pub member : Memᴰ l (X.network.out u)

-- Some heap is so (document 01, "The search").
pub record SomeRelaxes (layout : Layout) (sizes words distances parents : List ℕ) (s : State) (l : Link) : Type 0 where
  pub setting : Setting layout sizes
  pub before : List ℕ
  pub roster : List ℕ
  pub tail : ℕ
  pub left : List Link
  pub heap : Heap
  pub relaxes : Relaxes setting before tail l left heap (lists words distances parents roster) s
