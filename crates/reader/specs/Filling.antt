-- The second pass: what it is given, and what it leaves (document 01, "Planning file").
use Rattle.std.specs.Prelude.{ℕ, Bool, ◌+◌, ◌-◌, ◌≤◌, ◌≡◌, List, ◌++◌, length, take, drop, replicate, Ok}
use Rattle.plan_lines.specs.Told.{node_holds}
use Rattle.plan_checks.specs.Checking.{arcs_check}

-- What the checks have shown of the lines of m arcs, from a place of the bytes on, and of the lists that they fill (document 01, "What a
-- call returns").
pub record Fillable (n m : ℕ) (bytes : List ℕ) (at : ℕ) (starts heads costs : List ℕ) : Type 0 where
  pub ceiling : ℕ
  pub passed : arcs_check n ceiling m 0 0 (drop at bytes) ≡ Ok tt
  pub within : at ≤ length bytes
  pub starts_fit : n + 1 ≤ length starts
  pub heads_fit : m ≤ length heads
  pub costs_fit : m ≤ length costs

-- What the checks have shown of the lines of n holds, where they are told, and of the list that they fill (document 02, paper 2).
pub record HoldsFillable (n : ℕ) (held : Bool) (bytes : List ℕ) (at : ℕ) (holds : List ℕ) : Type 0 where
  pub count : length (node_holds held n (drop at bytes)) ≡ n
  pub within : at ≤ length bytes
  pub holds_fit : n ≤ length holds

-- The words from one place up to but not including another are set (document 01, "Planning file").
abbrev pub between : (words : List ℕ) → (from to word : ℕ) → List ℕ
between words from to word = take from words ++ (replicate (to - from) word ++ drop to words)
