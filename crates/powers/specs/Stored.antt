-- How the table of powers is stored (document 02, paper 4): the rows of K = 2 to 64 one after the other, each without the zeros behind it, and
-- where each begins. `non_zero` and `rows_stand` are tests, which antt computes of the two constants of the code. Assumes nothing.
use Rattle.std.specs.Prelude.{Bool, true, false, ◌&&◌, List, [], ◌∷◌, ◌++◌, ℕ, zero, suc, ◌+◌, ◌-◌, leb, ltb, eqb, length, get_or, replicate, take, drop}
use Rattle.powers.specs.Powers.{power_row}

-- no number of the table is 0 (document 02, paper 4)
abbrev pub non_zero : (table : List ℕ) → Bool
non_zero [] = true
non_zero (x ∷ table) = ltb 0 x && non_zero table

-- the numbers of a row and the zeros behind them, 21 together (document 02, paper 4)
abbrev pub padded : (words : List ℕ) → List ℕ
padded words = words ++ replicate (21 - length words) 0

-- where the row of K begins, and where it ends: there the next one begins (document 02, paper 4)
abbrev pub row_start : (starts : List ℕ) → (K : ℕ) → ℕ
row_start starts K = get_or starts (K - 2) 0

abbrev pub row_end : (starts : List ℕ) → (K : ℕ) → ℕ
row_end starts K = get_or starts (K - 2 + 1) 0

-- two lists are equal, entry by entry
abbrev pub equal_lists : List ℕ → List ℕ → Bool
equal_lists [] [] = true
equal_lists [] (y ∷ ys) = false
equal_lists (x ∷ xs) [] = false
equal_lists (x ∷ xs) (y ∷ ys) = eqb x y && equal_lists xs ys

-- the row of K is the part of the table from `first` to `last`: it begins no later than it ends, ends inside the table, has at most 21 numbers,
-- and with its zeros is `power_row K` (document 02, paper 4)
abbrev pub part_stands : (table : List ℕ) → (first last K : ℕ) → Bool
part_stands table first last K =
    leb first last
    && (leb last (length table) && (leb (last - first) 21 && equal_lists (padded (take (last - first) (drop first table))) (power_row K)))

-- the row of each of K, K + 1, .., as many as are asked for, stands where `starts` says (document 02, paper 4)
abbrev pub rows_stand : (table starts : List ℕ) → (K count : ℕ) → Bool
rows_stand table starts K zero = true
rows_stand table starts K (suc count) = part_stands table (row_start starts K) (row_end starts K) K && rows_stand table starts (suc K) count
