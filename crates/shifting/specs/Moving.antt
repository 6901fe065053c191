-- The nodes of the segment that is used, and where they go.
use Rattle.std.specs.Prelude.{ℕ, ◌+◌, ◌*◌, ◌≤◌, ◌<◌, ◌≡◌, ◌≢◌, cond, List, ltb, length, get_or}
use Rattle.theory.specs.Sums.{sum_below}
use Rattle.theory.specs.Heap.{bound, bucket_from, reads_from}
use Rattle.bounds.specs.Words.{bounds_of}
use Rattle.buckets.specs.Words.{places, place_word, slot_bucket}
use Rattle.frontier.specs.Frontier.{Frontier}
use Rattle.state.specs.declared.Layout.{Layout}
use Rattle.state.specs.declared.State.{State}
use Rattle.state.specs.Places.{is_word, with_word}
use Rattle.state.specs.Tallies.{after_shifts}
use Rattle.state.specs.Slots.{key_word, Enters}
use Rattle.placing.specs.Placing.{Formed, Entering, Entered}

-- Shifts, and what is read for them, are counted from a bucket above 1 (document 01, "One-level heap": if j = 1 the node is scanned, and none
-- is shifted; document 02, paper 3).
abbrev pub shifts_of : (bucket moved : ℕ) → ℕ
shifts_of bucket moved = cond (ltb 1 bucket) moved 0

-- The bucket of node v by its key, searched for from the bucket it leaves (document 01, "One-level heap").
abbrev pub moved_bucket : (layout : Layout) → (words distances : List ℕ) → (bucket v : ℕ) → ℕ
moved_bucket layout words distances bucket v = bucket_from (bounds_of layout.nodes words) (get_or distances v 0) bucket

-- The bounds that this search reads, by the bounds u (document 02, paper 3).
abbrev pub node_reads : (u distances : List ℕ) → (bucket v : ℕ) → ℕ
node_reads u distances bucket v = reads_from u (get_or distances v 0) bucket

-- The word that node v is given: that of its key in the bucket found (document 01, "One-level heap").
abbrev pub moved_word_lem : (layout : Layout) → (sizes words distances : List ℕ) → (front bucket v : ℕ) → ℕ
moved_word_lem layout sizes words distances front bucket v =
    key_word layout.buckets layout.segments sizes (bounds_of layout.nodes words) front (get_or distances v 0) (moved_bucket layout words distances bucket v)

-- Node v has left its slot, and its key can be placed (document 01, "One-level heap").
pub record Settles (layout : Layout) (sizes words distances : List ℕ) (s : State) (bucket v : ℕ) : Type 0 where
  pub entering : Entering layout sizes words s.front v (get_or distances v 0) (moved_bucket layout words distances bucket v)
  pub within : bucket ≤ layout.buckets
  pub equal : bucket ≤ 1 → get_or distances v 0 ≡ s.front
  pub long : layout.nodes ≤ length distances
  pub current_few : s.current ≤ 4096
  pub shifts_few : s.tally.shifts < 4294967295
  pub reads_few : 1 < bucket → s.tally.reads + node_reads (bounds_of layout.nodes words) distances bucket v < 4294967296

-- Node v is placed by its key, and the move is counted (document 01, "One-level heap" and "The tallies").
pub record Settled (layout : Layout) (sizes words words' distances : List ℕ) (s s' : State) (bucket v : ℕ) : Type 0 where
  pub counted : ℕ
  pub entered : Entered layout sizes words words' s.front v (get_or distances v 0) (moved_bucket layout words distances bucket v) counted
  pub front : s'.front ≡ s.front
  pub current : s'.current ≡ s.current + counted
  pub reached : s'.reached ≡ s.reached
  pub tally : s'.tally ≡ after_shifts (shifts_of bucket 1) (shifts_of bucket (node_reads (bounds_of layout.nodes words) distances bucket v)) s.tally

-- The nodes that have the word of a slot (document 01, "Two-level heap").
abbrev pub in_slot : (layout : Layout) → (words : List ℕ) → (slot : ℕ) → ℕ
in_slot layout words slot = with_word layout.nodes words (place_word layout.segments slot)

-- The bounds that are read when these nodes are shifted from a bucket, by the bounds u (document 02, paper 3).
abbrev pub reads_in : (layout : Layout) → (words u distances : List ℕ) → (bucket slot : ℕ) → ℕ
reads_in layout words u distances bucket slot =
    sum_below layout.nodes (λ v. is_word (place_word layout.segments slot) (get_or (places layout.nodes words) v 0) * node_reads u distances bucket v)

-- Every node of a slot can be moved out of it (document 01, "Two-level heap").
pub record Distributes (layout : Layout) (sizes words distances : List ℕ) (s : State) (bucket slot : ℕ) : Type 0 where
  pub formed : Formed layout sizes
  pub frontier : Frontier layout.nodes layout.slots layout.segments words
  pub below : slot < layout.slots
  pub within : bucket ≡ slot_bucket layout.segments slot
  pub high : bucket ≤ layout.buckets
  pub long : layout.nodes ≤ length distances
  pub enters : (w : ℕ) → w < layout.nodes → get_or (places layout.nodes words) w 0 ≡ place_word layout.segments slot
      → Enters layout.buckets layout.segments sizes (bounds_of layout.nodes words) s.front (get_or distances w 0) (moved_bucket layout words distances bucket w)
  pub equal : bucket ≤ 1 → (w : ℕ) → w < layout.nodes → get_or (places layout.nodes words) w 0 ≡ place_word layout.segments slot → get_or distances w 0 ≡ s.front
  pub apart : (w : ℕ) → w < layout.nodes → get_or (places layout.nodes words) w 0 ≡ place_word layout.segments slot
      → moved_word_lem layout sizes words distances s.front bucket w ≢ place_word layout.segments slot
  pub current : s.current ≡ with_word layout.nodes words 1
  pub shifts_few : s.tally.shifts + layout.nodes < 4294967295
  pub reads_few : s.tally.reads + shifts_of bucket (reads_in layout words (bounds_of layout.nodes words) distances bucket slot) < 4294967296

-- Every node of the slot has moved, and no other (document 01, "Two-level heap").
pub record Distributed (layout : Layout) (sizes words words' distances : List ℕ) (s s' : State) (bucket slot : ℕ) : Type 0 where
  pub frontier : Frontier layout.nodes layout.slots layout.segments words'
  pub moved : (w : ℕ) → w < layout.nodes → get_or (places layout.nodes words) w 0 ≡ place_word layout.segments slot
      → get_or (places layout.nodes words') w 0 ≡ moved_word_lem layout sizes words distances s.front bucket w
  pub kept : (w : ℕ) → w < layout.nodes → get_or (places layout.nodes words) w 0 ≢ place_word layout.segments slot
      → get_or (places layout.nodes words') w 0 ≡ get_or (places layout.nodes words) w 0
  pub bounds : (i : ℕ) → i < 24 → bound (bounds_of layout.nodes words') i ≡ bound (bounds_of layout.nodes words) i
  pub same_length : length words' ≡ length words
  pub front : s'.front ≡ s.front
  pub current : s'.current ≡ with_word layout.nodes words' 1
  pub reached : s'.reached ≡ s.reached
  pub tally : s'.tally
      ≡ after_shifts (shifts_of bucket (in_slot layout words slot)) (shifts_of bucket (reads_in layout words (bounds_of layout.nodes words) distances bucket slot)) s.tally
