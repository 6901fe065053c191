-- A set of nodes below n, as bits in two regions of a list w of words of d bits: the nodes that share the smallest distance, of which the one of
-- smallest number is scanned first (document 01, "The search"). Bit v % d of word bits + v / d says that v is in the set; bit i % d of word
-- summary + i / d says that word bits + i is not 0. Callers keep `BitSet` and `In` shut: their facts can be named only here and in the
-- modules below. `Change` and `Find` have what the code's proofs cite, `Laws` what a caller's proofs do. Assumes nothing.
mod Places
pub mod Change
pub mod Find
pub mod Laws
use Rattle.std.specs.Prelude.{◌≡◌, ◌⊎◌, ◌≢◌, List, ℕ, zero, suc, ◌+◌, ◌*◌, ◌/◌, ◌%◌, ◌^◌, ◌≤◌, ◌<◌, length, get_or}
use Rattle.bits.specs.Word.{bit, word_count}

-- ---- the set

-- how many words hold the bits of n nodes (for document 01, "The search")
abbrev pub bit_words : ℕ → ℕ → ℕ
bit_words d n = word_count d n

-- how many words hold the summary, a bit for each word of the bits (for document 01, "The search")
abbrev pub summary_words : ℕ → ℕ → ℕ
summary_words d n = word_count d (word_count d n)

-- bit u of the region that starts at a (for document 01, "The search")
abbrev at : ℕ → ℕ → List ℕ → ℕ → ℕ
at d a w u = bit (get_or w (a + u / d) 0) (u % d)

-- node v is in the set (for document 01, "The search")
pub record In (d n bits : ℕ) (w : List ℕ) (v : ℕ) : Type 0 where
  pub below : v < n
  marked : at d bits w v ≡ 1

-- some node is in the set (for document 01, "The search")
pub record Inhabited (d n bits : ℕ) (w : List ℕ) : Type 0 where
  pub node : ℕ
  pub member : In d n bits w node

-- the sum of f at 0 to k - 1 (for document 01, "The search")
abbrev sum : (ℕ → ℕ) → ℕ → ℕ
sum f zero = 0
sum f (suc k) = sum f k + f k

-- how many nodes are in the set (for document 01, "The search")
pub size : ℕ → ℕ → ℕ → List ℕ → ℕ
size d n bits w = sum (at d bits w) n

-- a list of l words has room for the two regions, which do not meet; the summary is four words at most (for document 01, "The search")
pub record Room (d n bits summary l : ℕ) : Type 0 where
  pub wide : 0 < d
  pub few : summary_words d n ≤ 4
  pub bits_in : bits + bit_words d n ≤ l
  pub summary_in : summary + summary_words d n ≤ l
  pub apart : (bits + bit_words d n ≤ summary) ⊎ (summary + summary_words d n ≤ bits)

-- the two regions agree: no bit stands past node n, and the summary tells of the words that are not 0, and of no other (for document 01, "The search")
record Agree (d n bits summary : ℕ) (w : List ℕ) : Type 0 where
  low : (i : ℕ) → i < bit_words d n → get_or w (bits + i) 0 < 2 ^ d
  summary_low : (j : ℕ) → j < summary_words d n → get_or w (summary + j) 0 < 2 ^ d
  over : (u : ℕ) → n ≤ u → u < bit_words d n * d → at d bits w u ≡ 0
  told : (i : ℕ) → i < bit_words d n → get_or w (bits + i) 0 ≢ 0 → at d summary w i ≡ 1
  only : (i : ℕ) → i < summary_words d n * d → at d summary w i ≡ 1 → (i < bit_words d n) × (get_or w (bits + i) 0 ≢ 0)

-- the words are a set: they have room for it, and its two regions agree (for document 01, "The search")
pub record BitSet (d n bits summary : ℕ) (w : List ℕ) : Type 0 where
  pub room : Room d n bits summary (length w)
  agree : Agree d n bits summary w

-- ---- two lists of words

-- j is the index of no word of the two regions (for document 01, "The search")
abbrev pub Outside : ℕ → ℕ → ℕ → ℕ → ℕ → Type 0
Outside d n bits summary j = ((j < bits) ⊎ (bits + bit_words d n ≤ j)) × ((j < summary) ⊎ (summary + summary_words d n ≤ j))

-- w' is as long as w and has its words outside the two regions (for document 01, "The search")
pub record Kept (d n bits summary : ℕ) (w w' : List ℕ) : Type 0 where
  pub same_length : length w' ≡ length w
  pub outside : (j : ℕ) → Outside d n bits summary j → get_or w' j 0 ≡ get_or w j 0

-- w' is as long as w and has its words inside the two regions (for document 01, "The search")
pub record Alike (d n bits summary : ℕ) (w w' : List ℕ) : Type 0 where
  pub same_length : length w' ≡ length w
  pub bits_same : (i : ℕ) → i < bit_words d n → get_or w' (bits + i) 0 ≡ get_or w (bits + i) 0
  pub summary_same : (j : ℕ) → j < summary_words d n → get_or w' (summary + j) 0 ≡ get_or w (summary + j) 0

-- ---- what the functions promise

-- w' is a set again, whose members but for v are those of w, and its words outside the two regions are those of w (for document 01, "The search")
pub record Changed (d n bits summary : ℕ) (w w' : List ℕ) (v : ℕ) : Type 0 where
  pub valid : BitSet d n bits summary w'
  pub stays : (u : ℕ) → u ≢ v → In d n bits w u → In d n bits w' u
  pub was : (u : ℕ) → u ≢ v → In d n bits w' u → In d n bits w u
  pub kept : Kept d n bits summary w w'

-- v has come into the set, and nothing else has changed (for document 01, "The search")
pub record Inserted (d n bits summary : ℕ) (w w' : List ℕ) (v : ℕ) : Type 0 where
  pub changed : Changed d n bits summary w w' v
  pub here : In d n bits w' v

-- v has left the set, and nothing else has changed (for document 01, "The search")
pub record Removed (d n bits summary : ℕ) (w w' : List ℕ) (v : ℕ) : Type 0 where
  pub changed : Changed d n bits summary w w' v
  pub gone : In d n bits w' v → ⊥

-- v is the smallest member (document 01, "The search": of smallest number among equals)
pub record Smallest (d n bits : ℕ) (w : List ℕ) (v : ℕ) : Type 0 where
  pub member : In d n bits w v
  pub least : (u : ℕ) → In d n bits w u → v ≤ u

-- v was the smallest member, and has left the set (document 01, "The search": of smallest number among equals)
pub record Taken (d n bits summary : ℕ) (w w' : List ℕ) (v : ℕ) : Type 0 where
  pub smallest : Smallest d n bits w v
  pub removed : Removed d n bits summary w w' v
