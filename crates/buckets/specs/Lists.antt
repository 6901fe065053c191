-- Lists of nodes, by membership. Assumes nothing.
pub mod Without
use Rattle.std.specs.Prelude.{◌≡◌, ◌⊎◌, List, [], ◌∷◌, ℕ}

-- a node stands in a list
abbrev pub ListedIn : ℕ → List ℕ → Type 0
ListedIn x [] = ⊥
ListedIn x (y ∷ l) = (x ≡ y) ⊎ ListedIn x l

-- no node stands twice
abbrev pub Once : List ℕ → Type 0
Once [] = Unit {0}
Once (y ∷ l) = (ListedIn y l → ⊥) × Once l
