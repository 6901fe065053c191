-- Slots of nodes as linked lists in the work words. A caller sees `Linked`, of which only this module and those below it can name more
-- than `fits`, the place words (`places`, of `Words`) and `Moved`. Below: `Laws` has what a caller's proofs cite, and `Chain`, `Stores`,
-- `Put`, `Take`, `Count` and `Walk` what the code's do. Assumes nothing.
mod Chain
mod Stores
pub mod Put
pub mod Take
pub mod Count
pub mod Walk
pub mod Laws
use Rattle.std.specs.Prelude.{◌≡◌, ◌⊎◌, List, [], ◌∷◌, ℕ, suc, ◌+◌, ◌*◌, ◌≤◌, ◌<◌, length, get_or, set}
use Rattle.buckets.specs.Lists.{ListedIn, Once}
use Rattle.buckets.specs.Tally.{tally}
use Rattle.buckets.specs.Words.{place_word, place_bucket, Held, Named, places, heads, count_words, count_at, owned, WordsKept, WordsFit}

-- the index of a word that points to a node: a node's next word, or a slot's head word
abbrev Points : ℕ → ℕ → ℕ → Type 0
Points n slots j = (j < n) ⊎ ((heads n ≤ j) × (j < heads n + slots))

-- from the word at j the words spell the nodes of a list, and each node's before word is the index of the word that points to it
abbrev Spells : ℕ → List ℕ → ℕ → List ℕ → Type 0
Spells n words j [] = get_or words j 0 ≡ 0
Spells n words j (x ∷ l) =
    (get_or words j 0 ≡ suc x) × (x < n) × (get_or words (n + x) 0 ≡ j) × Spells n words x l

-- a slot is a chain of just the nodes that have its place word
record Slot (n segments : ℕ) (words : List ℕ) (slot : ℕ) : Type 0 where
  nodes : List ℕ
  chain : Spells n words (heads n + slot) nodes
  once : Once nodes
  held : (x : ℕ) → ListedIn x nodes → get_or words (2 * n + x) 0 ≡ place_word segments slot
  all : (x : ℕ) → x < n → get_or words (2 * n + x) 0 ≡ place_word segments slot → ListedIn x nodes

-- each slot is in order, and each node that is held is held by one of the slots
pub record Chains (n slots segments : ℕ) (words : List ℕ) : Type 0 where
  slot : (s : ℕ) → s < slots → Slot n segments words s
  named : (x : ℕ) → x < n → Held (get_or words (2 * n + x) 0) → Named slots segments (get_or words (2 * n + x) 0)

-- each count word is how many of the place words l name its bucket
abbrev Counted : ℕ → ℕ → ℕ → List ℕ → List ℕ → Type 0
Counted n slots segments words l =
    (bucket : ℕ) → 0 < bucket → bucket ≤ count_words slots segments
    → get_or words (count_at n slots bucket) 0 ≡ tally place_bucket bucket l

-- the words hold n nodes in slots: the lists and the counts are in order
pub record Linked (n slots segments : ℕ) (words : List ℕ) : Type 0 where
  pub fits : WordsFit n slots segments (length words)
  chains : Chains n slots segments words
  counted : Counted n slots segments words (places n words)

-- the lists are in order again with x for v's place word; every other place word, and every word from the counts on, is as it was
pub record Relinked (n slots segments : ℕ) (words words' : List ℕ) (v x : ℕ) : Type 0 where
  chains : Chains n slots segments words'
  place : places n words' ≡ set (places n words) v x
  kept : WordsKept n slots words words'

-- the words are in order again with x for v's place word; every other place word, and every word that is the caller's, is as it was
pub record Moved (n slots segments : ℕ) (words words' : List ℕ) (v x : ℕ) : Type 0 where
  pub linked : Linked n slots segments words'
  pub place : places n words' ≡ set (places n words) v x
  pub kept : WordsKept n (owned slots segments) words words'
