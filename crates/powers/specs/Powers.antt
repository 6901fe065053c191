-- The powers of the number of segments K, as the two-level heap uses them (document 01, "Two-level heap (000, section 3)").
-- Assumes nothing.
use Rattle.std.specs.Prelude.{cond, ◌&&◌, ◌||◌, List, [], ◌∷◌, ℕ, zero, suc, ◌-◌, ◌^◌, leb, ltb, eqb, replicate}

-- entry i of the row of K: K^i if i = 0 or K^(i-1) < 1,048,576, else 0 (document 01, "Two-level heap (000, section 3)")
unfoldable pub power : ℕ → ℕ → ℕ
power K i = cond (eqb i 0 || ltb (K ^ (i - 1)) 1048576) (K ^ i) 0

-- the entries of K from i on, as many as are asked for: what a row is made of (document 01, "Two-level heap (000, section 3)")
abbrev pub entries : ℕ → ℕ → ℕ → List ℕ
entries K i zero = []
entries K i (suc count) = power K i ∷ entries K (suc i) count

-- the row of K: entries 0 to 20 for K = 2 to 64, and 21 zeros for every other K (document 01, "Two-level heap (000, section 3)")
unfoldable pub power_row : ℕ → List ℕ
power_row K = cond (leb 2 K && leb K 64) (entries K 0 21) (replicate 21 0)
