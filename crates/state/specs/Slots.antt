-- How the segments of all buckets are numbered, and the place word of each (document 01, "Two-level heap").
use Rattle.std.specs.Prelude.{ℕ, ◌+◌, ◌-◌, ◌*◌, ◌≤◌, ◌≡◌, ◌≢◌, cond, List, eqb}
use Rattle.buckets.specs.Words.{place_word}
use Rattle.bounds.specs.Words.{segment_number}
use Rattle.theory.specs.Heap.{bound}

-- Segment k of bucket b, where a bucket has K segments (document 01, "Two-level heap").
abbrev pub slot_of : (K b k : ℕ) → ℕ
slot_of K b k = (b - 1) * K + (k - 1)

-- The place word of a node in segment k of bucket b (document 01, "Two-level heap").
abbrev pub slot_word : (K b k : ℕ) → ℕ
slot_word K b k = place_word K (slot_of K b k)

-- The place word of a node of key x in bucket b whose bound is u (document 01, "Two-level heap").
abbrev pub bucket_word : (B K : ℕ) → (sizes : List ℕ) → (b u x : ℕ) → ℕ
bucket_word B K sizes b u x = slot_word K b (segment_number B K sizes b u x)

-- The place word of a node that is placed with key x in bucket b, which is the one that its search has found, by the bounds u, when `front`
-- was scanned last (document 01, "One-level heap").
abbrev pub key_word : (B K : ℕ) → (sizes u : List ℕ) → (front x b : ℕ) → ℕ
key_word B K sizes u front x b = cond (eqb x front) 1 (bucket_word B K sizes b (bound u b) x)

-- Segment k of bucket b is one of those that B buckets of K segments have, the last bucket having one (document 01, "Two-level
-- heap").
pub record SlotFits (B K b k : ℕ) : Type 0 where
  pub first : 1 ≤ b
  pub last : b ≤ B
  pub low : 1 ≤ k
  pub high : k ≤ K
  pub whole : b ≡ B → k ≡ 1

-- A key x can be placed in bucket b: it is the current one, or the segment where it belongs is one of those that there are (document 01,
-- "One-level heap").
pub record Enters (B K : ℕ) (sizes u : List ℕ) (front x b : ℕ) : Type 0 where
  pub fits : x ≢ front → SlotFits B K b (segment_number B K sizes b (bound u b) x)
  pub under : x ≢ front → x ≤ bound u b
