-- The place word of each node: what the steps keep of a node, its mark and bucket (document 01, "The tallies"), as one word.
use Rattle.std.specs.Prelude.{ℕ, cond, List, eqb, get_or}
use Rattle.theory.specs.Sums.{sum_below}
use Rattle.theory.specs.Search.{Mark, unlabelled, labelled, scanned, mark}
use Rattle.theory.specs.Shape.{Shape}
use Rattle.theory.specs.Heap.{Heap, bucket_of, key_of, segment_of}
use Rattle.buckets.specs.Words.{places}

-- The word of a node in segment k of bucket b, where `slot` numbers the segments of all buckets: 0 for unlabelled, 1 for labelled at
-- the key that was scanned last, 2 for scanned (document 01, "Two-level heap").
abbrev pub word_of : (slot : ℕ → ℕ → ℕ) → (front : ℕ) → Mark → (b k key : ℕ) → ℕ
word_of slot front unlabelled b k key = 0
word_of slot front labelled b k key = cond (eqb key front) 1 (slot b k)
word_of slot front scanned b k key = 2

-- The place word of node v in a heap whose last scanned key is `front` (document 01, "The search").
unfoldable pub place_of : (slot : ℕ → ℕ → ℕ) → Shape → (front : ℕ) → Heap → ℕ → ℕ
place_of slot sh front h v =
    word_of slot front (mark h.search v) (bucket_of h v) (segment_of sh h v) (key_of h v)

-- 1 if a place word is the one that is counted, else 0 (document 01, "The search").
abbrev pub is_word : (counted word : ℕ) → ℕ
is_word counted word = cond (eqb word counted) 1 0

-- How many of n nodes have this place word (document 01, "The search").
abbrev pub with_word : (n : ℕ) → (words : List ℕ) → (word : ℕ) → ℕ
with_word n words word = sum_below n (λ v. is_word word (get_or (places n words) v 0))
