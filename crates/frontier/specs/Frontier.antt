-- The labelled nodes in lent words, of which those at the current key are bits and the others stand in the lists of their slots.
-- Callers see `Frontier`, of which they use `linked`, and the place words; `Laws` below has what proofs cite.
pub mod Laws
use Rattle.std.specs.Prelude.{ℕ, ◌+◌, ◌*◌, ◌≤◌, ◌<◌, ◌≡◌, List, length, get_or, set, drop, Option, Some, None}
use Rattle.bits.specs.Sets.{BitSet, In}
use Rattle.buckets.specs.Words.{places}
use Rattle.buckets.specs.Links.{Linked}
use Rattle.buckets.specs.Answer.{InSlot, NoNode}
use Rattle.model.specs.declared.Node.{Node}

-- The lists and the bits are in order, and the bits are the nodes with place word 1: the labelled nodes at the key that was scanned
-- last (document 01, "The search": of smallest number among equals).
pub record Frontier (n slots segments : ℕ) (w : List ℕ) : Type 0 where
  pub some : 1 ≤ n
  pub few : n ≤ 4096
  pub linked : Linked n slots segments w
  bits : BitSet 32 n (3 * n) (4 * n + 24) w
  current : (v : ℕ) → v < n → get_or (places n w) v 0 ≡ 1 → In 32 n (3 * n) w v
  only : (v : ℕ) → In 32 n (3 * n) w v → get_or (places n w) v 0 ≡ 1

-- The place word of v is now x, and every other place word and all bounds are as they were (document 01, "The search").
pub record Placed (n slots segments : ℕ) (w w' : List ℕ) (v x : ℕ) : Type 0 where
  pub frontier : Frontier n slots segments w'
  pub place : places n w' ≡ set (places n w) v x
  pub same_length : length w' ≡ length w
  pub bounds : (i : ℕ) → i < 24 → get_or (drop (4 * n) w') i 0 ≡ get_or (drop (4 * n) w) i 0

-- Some node stands at the current key (document 01, "The search").
pub record Current (n : ℕ) (w : List ℕ) : Type 0 where
  pub node : ℕ
  pub below : node < n
  pub place : get_or (places n w) node 0 ≡ 1

-- v was the node of smallest number at the current key, and is scanned (document 01, "The search").
pub record FirstCurrent (n slots segments : ℕ) (w w' : List ℕ) (v : ℕ) : Type 0 where
  pub below : v < n
  pub was : get_or (places n w) v 0 ≡ 1
  pub least : (u : ℕ) → u < n → get_or (places n w) u 0 ≡ 1 → v ≤ u
  pub placed : Placed n slots segments w w' v 2

-- What was found is a node of the slot, which is unlabelled in the words then, and nothing only if there is none (document 01, "Two-level
-- heap").
abbrev pub FirstLeft : (n slots segments slot : ℕ) → (w w' : List ℕ) → Option Node → Type 0
FirstLeft n slots segments slot w w' (Some v) = InSlot n segments slot w v.0 × Placed n slots segments w w' v.0 0
FirstLeft n slots segments slot w w' None = NoNode (InSlot n segments slot w) × (w' ≡ w)
