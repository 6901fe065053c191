-- The order in which each entry point makes the checks of what a call is given (document 01, "What a call returns"; document 02, paper 2).
use Rattle.std.specs.Prelude.{ℕ, suc, ◌+◌, ◌≤◌, List, [], ◌∷◌, ◌++◌, length, Ok, Err}
use Rattle.model.specs.Answers.{Check}
use Rattle.check_numbers.specs.Numbers.{nodes_check, ceiling_check, source_check, arc_count_check, start_count_check, segments_check, lent_check}
use Rattle.check_lists.specs.Lists.{starts_check, heads_check, holds_check}
use Rattle.check_sums.specs.Sums.{sums_check}
use Rattle.theory.specs.Maps.{tail_of}
use Rattle.theory.specs.Runs.{Inputs, ValidInputs, Allowed, work_words}
use Rattle.theory.specs.declared.Levels.{Levels}
use Rattle.theory.specs.declared.Levels.TheVariants.{One, Two}

-- ---- what the order is made of

-- Checks made in order: the first fault decides (document 01, "What a call returns").
unfoldable pub first_fault : List Check → Check
first_fault [] = Ok tt
first_fault (Ok tt ∷ checks) = first_fault checks
first_fault (Err fault ∷ checks) = Err fault

-- A lent list, by its words and the words that it needs (document 01, "What a call returns").
pub record LentList : Type 0 where
  pub words : ℕ
  pub needed : ℕ

-- 10: the lent lists in the order of their places, the first at `place` (document 01, "What a call returns").
unfoldable pub lent_checks : (place : ℕ) → List LentList → List Check
lent_checks place [] = []
lent_checks place (list ∷ lists) = lent_check place list.words list.needed ∷ lent_checks (suc place) lists

-- The lists lent to every reader, which fills them: 0 starts, 1 heads, 2 costs (document 01, "What a call returns"; document 02,
-- paper 1).
abbrev pub map_lists : (n m starts heads costs : ℕ) → List LentList
map_lists n m starts heads costs =
    record { words = starts; needed = n + 1 } ∷ record { words = heads; needed = m } ∷ record { words = costs; needed = m } ∷ []

-- The lists lent to the reader of planning files: these, then 3 holds (document 02, paper 2).
abbrev pub file_lists : (n m starts heads costs holds : ℕ) → List LentList
file_lists n m starts heads costs holds = map_lists n m starts heads costs ++ (record { words = holds; needed = n } ∷ [])

-- ---- the order of each entry point's checks

-- 1 to 5, which look at no word of a list (document 01, "What a call returns").
unfoldable pub size_checks : (n C source starts heads costs : ℕ) → List Check
size_checks n C source starts heads costs =
    nodes_check n ∷ ceiling_check C ∷ source_check n source ∷ arc_count_check heads costs ∷ start_count_check n starts ∷ []

-- 1 to 6, 20 and 7: the checks of a map's lists, its ceiling and source (document 01, "What a call returns"; document 02, paper 2).
unfoldable pub lists_checks : Inputs → List Check
lists_checks I =
    size_checks I.map.nodes I.ceiling I.source (length I.map.starts) (length I.map.heads) (length I.map.costs)
    ++ (starts_check I.map.nodes (length I.map.heads) I.map.starts
    ∷ holds_check I.map.nodes I.ceiling I.map.holds
    ∷ heads_check I.map.nodes I.map.heads
    ∷ [])

-- 8 of a run: an arc's cost together with its tail's hold, the source's arcs included (document 02, paper 2).
abbrev pub tail_sums_check : Inputs → Check
tail_sums_check I = sums_check I.ceiling (tail_of I.map.nodes I.map.starts) I.map.costs I.map.holds

-- 1 to 6, 20 and 7, then 8 as `sums`, which is an arc's cost with its tail's hold, or with its head's where a run finds costs to a node
-- (document 02, papers 2 and 7).
abbrev pub summed_checks : Inputs → (sums : Check) → List Check
summed_checks I sums = lists_checks I ++ (sums ∷ [])

-- 1 to 6, 20, 7 and 8, the checks of a map that every run makes first (document 01, "What a call returns"; document 02, paper 2).
unfoldable pub map_checks : Inputs → List Check
map_checks I = summed_checks I (tail_sums_check I)

-- How long the lists lent to a run are: their places are 0 distances, 1 parents, 2 roster, 3 work (document 01, "What a call
-- returns").
pub record Lengths : Type 0 where
  pub distances : ℕ
  pub parents : ℕ
  pub roster : ℕ
  pub work : ℕ

-- The lists lent to a run, whose work needs so many words (document 01, "What a call returns").
abbrev pub run_lists : (n : ℕ) → Lengths → (needed : ℕ) → List LentList
run_lists n lengths needed =
    record { words = lengths.distances; needed = n }
    ∷ record { words = lengths.parents; needed = n }
    ∷ record { words = lengths.roster; needed = n }
    ∷ record { words = lengths.work; needed = needed }
    ∷ []

-- 9, which a one-level run does not make (document 01, "What a call returns").
abbrev pub levels_checks : Levels → List Check
levels_checks One = []
levels_checks (Two K) = segments_check K ∷ []

-- The order of every call that runs: 1 to 6, 20, 7 and 8, then 9 for two levels, then 10 for the lent lists (document 01, "What a call
-- returns"; document 02, papers 2 and 7).
abbrev pub call_checks : Levels → Inputs → (sums : Check) → List LentList → List Check
call_checks L I sums lists = summed_checks I sums ++ (levels_checks L ++ lent_checks 0 lists)

-- A run: 1 to 6, 20, 7 and 8, then 9 for two levels, then 10 (document 01, "What a call returns"; document 02, paper 2).
unfoldable pub run_checks : Levels → Inputs → Lengths → List Check
run_checks L I lengths = call_checks L I (tail_sums_check I) (run_lists I.map.nodes lengths (work_words L I.map.nodes))

-- What these checks show: inputs and lists on which a run can be made (document 01, "What a call returns").
pub record Ready (L : Levels) (I : Inputs) (lengths : Lengths) : Type 0 where
  pub valid : ValidInputs I
  pub allowed : Allowed L
  pub distances_fit : I.map.nodes ≤ lengths.distances
  pub parents_fit : I.map.nodes ≤ lengths.parents
  pub roster_fit : I.map.nodes ≤ lengths.roster
  pub work_fit : work_words L I.map.nodes ≤ lengths.work

-- Lengths from their parts (document 01, "What a call returns").
abbrev pub lengths_for : (distances parents roster work : ℕ) → Lengths
lengths_for distances parents roster work = record { distances = distances; parents = parents; roster = roster; work = work }
