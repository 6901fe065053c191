-- How many nodes have a place word of one kind. Assumes nothing.
pub mod Laws
use Rattle.std.specs.Prelude.{Bool, true, false, List, [], ◌∷◌, ℕ, ◌+◌, eqb}

-- 1 for true
abbrev digit : Bool → ℕ
digit true = 1
digit false = 0

-- how many elements x of a list have `kind x` equal to k
pub tally : (ℕ → ℕ) → ℕ → List ℕ → ℕ
tally kind k [] = 0
tally kind k (x ∷ l) = digit (eqb (kind x) k) + tally kind k l

-- the kind that tells every two place words apart: its tally at a slot's place word is how many nodes the slot holds
abbrev pub itself : ℕ → ℕ
itself x = x
