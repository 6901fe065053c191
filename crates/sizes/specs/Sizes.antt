-- The sizes of the buckets of both heaps, 22 words each, from place 0, which is 1 (document 01, "One-level heap" and "Two-level heap").
use Rattle.std.specs.Prelude.{ℕ, ◌-◌, ◌^◌, cond, List, [], ◌∷◌, ◌++◌, leb}
use Rattle.theory.specs.Sums.{list_below}
use Rattle.powers.specs.Powers.{power_row}
use Rattle.theory.specs.declared.Levels.{Levels}
use Rattle.theory.specs.declared.Levels.TheVariants.{One, Two}

-- Bucket 1 has size 1, bucket i size 2^(i - 2) (document 01, "One-level heap").
unfoldable pub one_level_sizes : List ℕ
one_level_sizes = list_below 22 (λ i. cond (leb i 1) 1 (2 ^ (i - 2)))

-- Bucket i has size K^i, as far as the table of powers goes (document 01, "Two-level heap").
unfoldable pub two_level_sizes : (K : ℕ) → List ℕ
two_level_sizes K = power_row K ++ (0 ∷ [])

-- The sizes of the buckets of either heap (document 01, "One-level heap" and "Two-level heap").
abbrev pub sizes_of : Levels → List ℕ
sizes_of One = one_level_sizes
sizes_of (Two K) = two_level_sizes K
