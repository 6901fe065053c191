-- One word of d bits, for every width d: a number below 2 ^ d. Its laws stand in `Laws`. Nodes of equal distance are kept as such bits,
-- since the one of smallest number is scanned first (document 01, "The search"). Assumes nothing.
pub mod Laws
use Rattle.std.specs.Prelude.{◌≡◌, ◌≢◌, ℕ, ◌+◌, ◌-◌, ◌*◌, ◌/◌, ◌%◌, ◌^◌, ◌<◌}

-- bit k of the word x (for document 01, "The search")
unfoldable pub bit : ℕ → ℕ → ℕ
bit x k = x / 2 ^ k % 2

-- what the code's `1 << k` is in a word of d bits (for document 01, "The search")
abbrev pub one_bit : ℕ → ℕ → ℕ
one_bit d k = 1 * 2 ^ k % 2 ^ d

-- how many words of d bits n bits take (for document 01, "The search")
abbrev pub word_count : ℕ → ℕ → ℕ
word_count d n = (n + (d - 1)) / d

-- x' is a word of d bits whose bit k is c and whose other bits are those of x (for document 01, "The search")
pub record Turned (d k x c x' : ℕ) : Type 0 where
  pub here : bit x' k ≡ c
  pub others : (j : ℕ) → j ≢ k → bit x' j ≡ bit x j
  pub fits : x' < 2 ^ d
