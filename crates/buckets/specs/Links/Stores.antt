-- Several stores, one after the other. Assumes nothing.
use Rattle.std.specs.Prelude.{◌≡◌, refl, ◌≢◌, List, [], ◌∷◌, ℕ, ◌+◌, ◌*◌, ◌<◌, length, get_or, set}
use Rattle.std.proofs.Common.{◌∙◌, arith, length-set, get_or-set_same, get_or-set_other}
use Rattle.buckets.specs.Words.{Other, WordsFit}
use Rattle.buckets.specs.Words.Laws.{places_moved}
use Rattle.buckets.specs.Links.{Chains, Relinked}

-- the words after a list of stores, each an index and a value
abbrev pub store : List ℕ → List (ℕ × ℕ) → List ℕ
store words [] = words
store words (a ∷ ss) = store (set words a.0 a.1) ss

-- P holds of the index of each store
abbrev pub Each : (ℕ → Type 0) → List (ℕ × ℕ) → Type 0
Each P [] = Unit {0}
Each P (a ∷ ss) = P a.0 × Each P ss

pub store_length : (words : List ℕ) (ss : List (ℕ × ℕ)) → length (store words ss) ≡ length words
store_length words [] = refl
store_length words (a ∷ ss) = store_length (set words a.0 a.1) ss ∙ length-set words a.0 a.1

pub read_other : (words : List ℕ) (ss : List (ℕ × ℕ)) (j : ℕ) → Each (λ i. j ≢ i) ss → get_or (store words ss) j 0 ≡ get_or words j 0
read_other words [] j c = refl
read_other words (a ∷ ss) j c =
    read_other (set words a.0 a.1) ss j c.1 ∙ get_or-set_other words a.0 j a.1 0 c.0

pub read_here : (words : List ℕ) (i x : ℕ) (ss : List (ℕ × ℕ)) → i < length words → Each (λ j. i ≢ j) ss
    → get_or (store (set words i x) ss) i 0 ≡ x
read_here words i x ss h c = read_other (set words i x) ss i c ∙ get_or-set_same words i x 0 h

-- ---- the lists are in order again

pub relinked_stores : {n slots segments : ℕ} {words : List ℕ} → WordsFit n slots segments (length words) → (ss : List (ℕ × ℕ)) (v x : ℕ) → v < n
    → get_or (store words ss) (2 * n + v) 0 ≡ x
    → ((u : ℕ) → u < n → u ≢ v → get_or (store words ss) (2 * n + u) 0 ≡ get_or words (2 * n + u) 0)
    → ((j : ℕ) → Other n slots j → get_or (store words ss) j 0 ≡ get_or words j 0)
    → Chains n slots segments (store words ss) → Relinked n slots segments words (store words ss) v x
relinked_stores {n} {slots} {segments} {words} F ss v x hv here places other C =
    record {
      chains = C;
      place = places_moved n words (store words ss) (omega (arith, F.long)) (store_length words ss) v x hv here places;
      kept = record { same_length = store_length words ss; same = other };
    }
