-- What `first`, `take_first`, `least` and `is_empty` say of a slot and of a bucket. Assumes nothing.
use Rattle.std.specs.Prelude.{◌≡◌, ◌⊎◌, Bool, true, false, List, ℕ, ◌≤◌, ◌<◌, get_or, Option, Some, None}
use Rattle.buckets.specs.Words.{place_word, place_bucket, places}
use Rattle.buckets.specs.Links.{Moved}
use Rattle.model.specs.declared.Node.{Node}

-- node u is in a slot
abbrev pub InSlot : ℕ → ℕ → ℕ → List ℕ → ℕ → Type 0
InSlot n segments slot words u = (u < n) × (get_or (places n words) u 0 ≡ place_word segments slot)

-- node u is in a bucket
abbrev pub InBucket : ℕ → ℕ → List ℕ → ℕ → Type 0
InBucket n bucket words u = (u < n) × (place_bucket (get_or (places n words) u 0) ≡ bucket)

-- P holds of some node
pub record SomeNode (P : ℕ → Type 0) : Type 0 where
  pub node : ℕ
  pub holds : P node

-- P holds of no node
abbrev pub NoNode : (ℕ → Type 0) → Type 0
NoNode P = (u : ℕ) → P u → ⊥

-- what was found is a node of the slot, and nothing only if there is none
abbrev pub FirstIn : ℕ → ℕ → ℕ → List ℕ → Option Node → Type 0
FirstIn n segments slot words (Some v) = InSlot n segments slot words v.0
FirstIn n segments slot words None = NoNode (InSlot n segments slot words)

-- what was found is a node of the slot, which has left it, and nothing only if there is none
abbrev pub FirstTaken : ℕ → ℕ → ℕ → ℕ → List ℕ → List ℕ → Option Node → Type 0
FirstTaken n slots segments slot words words' (Some v) = InSlot n segments slot words v.0 × Moved n slots segments words words' v.0 0
FirstTaken n slots segments slot words words' None = NoNode (InSlot n segments slot words) × (words' ≡ words)

-- the test says whether a bucket has no node
abbrev pub EmptyBucket : ℕ → ℕ → List ℕ → Bool → Type 0
EmptyBucket n bucket words true = NoNode (InBucket n bucket words)
EmptyBucket n bucket words false = SomeNode (InBucket n bucket words)

-- v goes before u: by its key, and of equal keys by its number
abbrev pub Before : List ℕ → ℕ → ℕ → Type 0
Before keys v u = (get_or keys v 0 < get_or keys u 0) ⊎ ((get_or keys v 0 ≡ get_or keys u 0) × (v ≤ u))

-- of u and v, r is the one that goes before
pub record Earlier (keys : List ℕ) (u v r : ℕ) : Type 0 where
  pub one : (r ≡ u) ⊎ (r ≡ v)
  pub left : Before keys r u
  pub right : Before keys r v

-- r is the node of a slot that goes before each
pub record LeastIn (n segments slot : ℕ) (words keys : List ℕ) (r : ℕ) : Type 0 where
  pub in_slot : InSlot n segments slot words r
  pub before : (u : ℕ) → InSlot n segments slot words u → Before keys r u
