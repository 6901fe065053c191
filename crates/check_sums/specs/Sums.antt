-- Number 8, which looks at an arc's cost together with a node's hold (document 02, paper 2).
use Rattle.model.specs.declared.Kind.TheVariants.{Cost}
use Rattle.std.specs.Prelude.{ℕ, ◌+◌, ◌≤◌, Bool, List, ltb, length, get_or}
use Rattle.model.specs.Answers.{Check}
use Rattle.theory.specs.Maps.{map_of, Sound}
use Rattle.check_lists.specs.Lists.{least_fault, NoneAbove}

-- 8 at arc a: its cost and the hold that is paid with it are together above C (document 02, paper 2).
abbrev pub sum_fails : (C : ℕ) → (paidAt : ℕ → ℕ) → (costs holds : List ℕ) → (a : ℕ) → Bool
sum_fails C paidAt costs holds a = ltb C (get_or costs a 0 + get_or holds (paidAt a) 0)

-- 8: the least such arc. `paidAt` gives the node whose hold is paid with an arc (document 02, paper 2).
unfoldable pub sums_check : (C : ℕ) → (paidAt : ℕ → ℕ) → (costs holds : List ℕ) → Check
sums_check C paidAt costs holds = least_fault Cost (sum_fails C paidAt costs holds) 0 (length costs)

-- What the numbers before 8 have shown: the lists are those of a map in order, whatever its heads and the source, and no hold is above C
-- (document 01, "What a call returns"; document 02, paper 2).
pub record Summable (n C : ℕ) (starts costs holds : List ℕ) : Type 0 where
  pub heads : List ℕ
  pub source : ℕ
  pub sound : Sound (map_of n starts heads costs holds) source
  pub holds_most : NoneAbove C holds

-- The greatest word of a list, 0 of an empty one: no word is above it, and it is above no limit that all words keep to (document 02,
-- paper 2: no sum is above C where no cost is above what the greatest hold leaves of it).
pub record Greatest (words : List ℕ) (most : ℕ) : Type 0 where
  pub none_above : NoneAbove most words
  pub least : (limit : ℕ) → NoneAbove limit words → most ≤ limit
