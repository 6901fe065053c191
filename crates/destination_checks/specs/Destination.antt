-- The order in which a run to a destination makes its checks, and what they show (document 02, paper 7). The destination is paper 7's charger.
use Rattle.std.specs.Prelude.{ℕ, ◌+◌, ◌≤◌, ◌<◌, ◌≡◌, List, [], ◌∷◌, ◌++◌, length, get_or}
use Rattle.model.specs.Answers.{Check}
use Rattle.theory.specs.Maps.{arcs, head_of}
use Rattle.theory.specs.Runs.{Inputs, Allowed, work_words}
use Rattle.theory.specs.declared.Levels.{Levels}
use Rattle.check_lists.specs.Lists.{NoneAbove}
use Rattle.check_sums.specs.Sums.{sums_check}
use Rattle.checks.specs.Checks.{LentList, map_lists, Lengths, lengths_for, run_lists, call_checks}
use Rattle.reversal.specs.Reversed.{ValidTo}

-- ---- 8

-- 8 of a run to a destination: an arc's cost together with its head's hold, arcs into the destination included (document 02, paper 7).
abbrev pub head_sums_check : Inputs → Check
head_sums_check I = sums_check I.ceiling (head_of I.map) I.map.costs I.map.holds

-- What the numbers before 8 have shown of the lists that it reads: a cost for each arc, a hold for each head, and no hold above C (document
-- 01, "What a call returns"; document 02, papers 2 and 7).
pub record SummableTo (C : ℕ) (heads costs holds : List ℕ) : Type 0 where
  pub paired : length costs ≡ length heads
  pub held : (a : ℕ) → a < length heads → get_or heads a 0 < length holds
  pub holds_most : NoneAbove C holds

-- ---- 10

-- How long the lists lent to a run to a destination are: places 0 to 3 as of a run, then 4 starts, 5 heads, 6 costs and 7 old arc numbers of
-- the reversed map (document 02, paper 7).
pub record LengthsTo : Type 0 where
  pub run : Lengths
  pub starts : ℕ
  pub heads : ℕ
  pub costs : ℕ
  pub arcs : ℕ

-- The lists lent for the reversed map (document 02, paper 7).
abbrev pub reversed_lists : (n m starts heads costs arcs : ℕ) → List LentList
reversed_lists n m starts heads costs arcs = map_lists n m starts heads costs ++ (record { words = arcs; needed = m } ∷ [])

-- The lists lent to it, each with the words that it needs, in the order of their places (document 02, paper 7).
abbrev pub lists_to : Levels → (n m : ℕ) → LengthsTo → List LentList
lists_to L n m lengths =
    run_lists n lengths.run (work_words L n) ++ reversed_lists n m lengths.starts lengths.heads lengths.costs lengths.arcs

-- ---- all

-- A run to a destination: 1 to 6, 20, 7 and 8, then 9 for two levels, then 10 (document 02, paper 7).
unfoldable pub checks_to : Levels → Inputs → LengthsTo → List Check
checks_to L I lengths = call_checks L I (head_sums_check I) (lists_to L I.map.nodes (length I.map.heads) lengths)

-- What these checks show: inputs and lists on which a run to a destination can be made (document 02, paper 7).
pub record ReadyTo (L : Levels) (I : Inputs) (lengths : LengthsTo) : Type 0 where
  pub valid : ValidTo I.map I.ceiling I.source
  pub allowed : Allowed L
  pub distances_fit : I.map.nodes ≤ lengths.run.distances
  pub parents_fit : I.map.nodes ≤ lengths.run.parents
  pub roster_fit : I.map.nodes ≤ lengths.run.roster
  pub work_fit : work_words L I.map.nodes ≤ lengths.run.work
  pub starts_fit : I.map.nodes + 1 ≤ lengths.starts
  pub heads_fit : arcs I.map ≤ lengths.heads
  pub costs_fit : arcs I.map ≤ lengths.costs
  pub arcs_fit : arcs I.map ≤ lengths.arcs

-- Lengths from their parts (document 02, paper 7).
abbrev pub lengths_to_for : (distances parents roster work starts heads costs arcs : ℕ) → LengthsTo
lengths_to_for distances parents roster work starts heads costs arcs = record {
  run = lengths_for distances parents roster work;
  starts = starts;
  heads = heads;
  costs = costs;
  arcs = arcs;
}
