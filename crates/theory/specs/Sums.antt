-- What is listed or added up over the numbers below n: document 01 speaks of every node, and of sums over the run ("The tallies").
use Rattle.std.specs.Prelude.{ℕ, zero, suc, ◌+◌, List, [], ◌∷◌, ◌++◌}

-- The sum f(0) + .. + f(n - 1), for what a removal counts over all nodes (document 01, "The tallies").
abbrev pub sum_below : ℕ → (ℕ → ℕ) → ℕ
sum_below zero f = 0
sum_below (suc n) f = sum_below n f + f n

-- The list f(0), .., f(n - 1), for what is kept for each node (document 01, "The tallies").
abbrev pub list_below : {A : Type 0} → ℕ → (ℕ → A) → List A
list_below zero f = []
list_below (suc n) f = list_below n f ++ (f n ∷ [])
