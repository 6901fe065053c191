-- The work words of n nodes in slots, of which `segments` make a bucket. The words: n next words, n before words, n place words, n + 32
-- that are the caller's, a head word for each slot, and where a bucket has several segments a count word for each bucket.
-- Assumes nothing.
pub mod Laws
use Rattle.std.specs.Prelude.{◌≡◌, ◌⊎◌, cond, List, ℕ, zero, suc, ◌+◌, ◌*◌, ◌-◌, ◌/◌, ◌%◌, ◌≤◌, ◌<◌, ltb, length, get_or, set, take, drop}

-- ---- place words

-- the bucket of a slot, counted from 1
abbrev pub slot_bucket : ℕ → ℕ → ℕ
slot_bucket segments slot = slot / segments + 1

-- the place word of a node that a slot holds
abbrev pub place_word : ℕ → ℕ → ℕ
place_word segments slot = slot_bucket segments slot * 512 + (slot + 1)

-- the bucket that a place word names
abbrev pub place_bucket : ℕ → ℕ
place_bucket place = place / 512

-- the slot that a place word names
abbrev pub place_slot : ℕ → ℕ
place_slot place = place % 512 - 1

-- a place word that says that a slot holds the node
abbrev pub Held : ℕ → Type 0
Held place = 512 ≤ place

-- a place word that says that no slot holds the node: which one is the caller's
abbrev pub Free : ℕ → Type 0
Free place = place < 512

-- a place word that is the one of some slot
abbrev pub Named : ℕ → ℕ → ℕ → Type 0
Named slots segments place = (place_slot place < slots) × (place ≡ place_word segments (place_slot place))

-- ---- next and head words

-- the node that a next or head word points to, or v where it points to none
abbrev pub node_or : ℕ → ℕ → ℕ
node_or zero v = v
node_or (suc u) v = u

-- ---- the layout

-- the place words of the nodes
abbrev pub places : ℕ → List ℕ → List ℕ
places n words = take n (drop (2 * n) words)

-- the index of the first head word
abbrev pub heads : ℕ → ℕ
heads n = 4 * n + 32

-- how many buckets there are: the bucket of the last slot
abbrev pub bucket_count : ℕ → ℕ → ℕ
bucket_count slots segments = slot_bucket segments (slots - 1)

-- how many count words there are: one for each bucket, and none where a bucket is one slot
pub count_words : ℕ → ℕ → ℕ
count_words slots segments = cond (ltb 1 segments) (bucket_count slots segments) 0

-- the index of a bucket's count word
abbrev pub count_at : ℕ → ℕ → ℕ → ℕ
count_at n slots bucket = heads n + slots + (bucket - 1)

-- the words with a bucket's count word set, where there are count words
pub recount : ℕ → ℕ → ℕ → ℕ → ℕ → List ℕ → List ℕ
recount n slots segments bucket count words =
    cond (ltb 1 segments) (set words (count_at n slots bucket) count) words

-- how many words are the lists' from the first head word on
abbrev pub owned : ℕ → ℕ → ℕ
owned slots segments = slots + count_words slots segments

-- the index of a word of the lists, where `own` of them stand from the first head word on
abbrev pub Ours : ℕ → ℕ → ℕ → Type 0
Ours n own j = (j < 3 * n) ⊎ ((heads n ≤ j) × (j < heads n + own))

-- the index of any other word
abbrev pub Other : ℕ → ℕ → ℕ → Type 0
Other n own j = ((3 * n ≤ j) × (j < heads n)) ⊎ (heads n + own ≤ j)

-- every word that is not the lists' is as it was
pub record WordsKept (n own : ℕ) (words words' : List ℕ) : Type 0 where
  pub same_length : length words' ≡ length words
  pub same : (j : ℕ) → Other n own j → get_or words' j 0 ≡ get_or words j 0

-- the sizes that the lists are made for: each index fits a word, and each slot's number the low 9 bits of a place word
pub record WordsFit (n slots segments size : ℕ) : Type 0 where
  pub long : heads n + owned slots segments ≤ size
  pub small : heads n + slots < 4294967296
  pub some : 0 < slots
  pub few : slots < 512
  pub whole : 0 < segments
