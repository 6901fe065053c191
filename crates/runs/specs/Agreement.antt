-- What two accepted runs of the same inputs have in common (document 02, paper 6).
use Rattle.std.specs.Prelude.{ℕ, ◌≡◌, List, take}
use Rattle.model.specs.Answers.{Numbers}
use Rattle.runs.specs.Promise.{Lent}

-- Two lists have the same first words after their runs, so many of them, whatever they held before; lists that were equal before are equal
-- word for word (document 02, paper 6).
pub record FilledAlike (count : ℕ) (words words' others others' : List ℕ) : Type 0 where
  pub filled : take count words' ≡ take count others'
  pub equal : words ≡ others → words' ≡ others'

-- Two runs over n nodes: distances, parents, roster, r and decreases (document 02, paper 6: "the two heaps give equal rosters"; document 01,
-- "Planning file", tells the others once for both heaps).
pub record RunsAgree (n : ℕ) (a b : Numbers) (l l' k k' : Lent) : Type 0 where
  pub reached : a.reached ≡ b.reached
  pub decreases : a.counts.decreases ≡ b.counts.decreases
  pub distances : FilledAlike n l.distances l'.distances k.distances k'.distances
  pub parents : FilledAlike n l.parents l'.parents k.parents k'.parents
  pub roster : FilledAlike a.reached l.roster l'.roster k.roster k'.roster
