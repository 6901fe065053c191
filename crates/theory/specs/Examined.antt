-- The order in which a search examines arcs, and the parent as the first arc that gives the final distance (document 01, "The
-- search": a label changes only where a sum is strictly below it).
use Rattle.std.specs.Prelude.{ℕ, ◌+◌, ◌<◌, ◌≡◌}
use mathlib.Core.List.{List, [], ◌∷◌, ◌++◌, map, Memᴰ}
use Rattle.theory.specs.Network.{Link, Network}
use Rattle.theory.specs.Search.{Search, distance, parent}

-- A link as it is examined, with its tail (document 01, "The search").
pub record Examined : Type 0 where
  pub tail : ℕ
  pub link : Link

-- The links of node v, as its scan examines them (document 01, "The search").
abbrev pub examined_of : ℕ → List Link → List Examined
examined_of v ls = map (λ l. record { tail = v; link = l }) ls

-- All that is examined when the nodes are scanned in this order (document 01, "The search").
unfoldable pub examined : Network → List ℕ → List Examined
examined N [] = []
examined N (v ∷ vs) = examined_of v (N.out v) ++ examined N vs

-- The sum that an examined link offers its head: distance plus cost (document 01, "The search").
abbrev pub offer : Search → Examined → ℕ
offer s x = distance s x.tail + x.link.cost

-- The parent of node v is the first of the links `seen` that gives its distance: those before it that lead to v offer more
-- (document 01, "The search").
pub record FirstOf (s : Search) (seen : List Examined) (v : ℕ) : Type 0 where
  pub earlier : List Examined
  pub first : Examined
  pub later : List Examined
  pub split : seen ≡ earlier ++ (first ∷ later)
  pub leads : first.link.head ≡ v
  pub names : parent s v ≡ first.link.arc
  pub gives : offer s first ≡ distance s v
  pub dearer : (x : Examined) → Memᴰ x earlier → x.link.head ≡ v → distance s v < offer s x
