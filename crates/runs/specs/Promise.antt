-- What the entry points promise for every input (document 01, "What the planner holds and leaves out" and "What a call returns").
use Rattle.std.specs.Prelude.{ℕ, ◌≡◌, List, length, replicate, Ok, Err}
use Rattle.model.specs.Answers.{Check, RunAnswer, Numbers, numbers_of, accepted_numbers, refused_numbers, words_after}
use Rattle.model.specs.declared.Counts.{Counts}
use Rattle.theory.specs.Maps.{Map}
use Rattle.theory.specs.Heap.{Heap, placements}
use Rattle.theory.specs.Demands.{Demanded}
use Rattle.theory.specs.Runs.{Inputs, heap_buckets, removal_looks, work_words, steps_of}
use Rattle.theory.specs.declared.Levels.{Levels}
use Rattle.theory.specs.declared.Levels.TheVariants.{One, Two}
use Rattle.checks.specs.Checks.{first_fault, run_checks, Lengths}

-- The counts given back of the steps h (document 01, "The tallies"; document 02, paper 3).
abbrev pub counts_given : Heap → Counts
counts_given h = record { decreases = h.search.decreases; placements = placements h; looks = h.looks; reads = h.reads }

-- The numbers given back: those of the steps h with B buckets, or the first fault's (document 01, "What a call returns" and "The
-- tallies").
abbrev pub run_numbers : Check → (B : ℕ) → (h : Heap) → Numbers
run_numbers (Ok tt) B h = accepted_numbers (length h.search.roster) B (counts_given h)
run_numbers (Err fault) B h = refused_numbers fault

-- Demands 2 and 3, of an accepted run with B buckets and at most L looks to a removal (document 01, "The tallies").
abbrev pub RunDemanded : Check → (M : Map) → (source B L : ℕ) → (h : Heap) → Type 0
RunDemanded (Ok tt) M source B L h = Demanded M source B L h
RunDemanded (Err fault) M source B L h = Unit {0}

-- The four lent lists (document 01, "What the planner holds and leaves out").
pub record Lent : Type 0 where
  pub distances : List ℕ
  pub parents : List ℕ
  pub roster : List ℕ
  pub work : List ℕ

-- The four lent lists from their parts (document 01, "What the planner holds and leaves out").
abbrev pub lent : (distances parents roster work : List ℕ) → Lent
lent distances parents roster work = record { distances = distances; parents = parents; roster = roster; work = work }

-- How long they are (document 01, "What a call returns").
abbrev pub lengths_of : Lent → Lengths
lengths_of l = record { distances = length l.distances; parents = length l.parents; roster = length l.roster; work = length l.work }

-- A run whose checks in order come to `check`: the answer, what each lent list holds afterwards, and the demands (document 01,
-- "What a call returns" and "The tallies"). The first r words of the roster are the nodes in the order scanned (document 02, paper 6).
pub record Ran (L : Levels) (I : Inputs) (check : Check) (r : RunAnswer) (l l' : Lent) : Type 0 where
  pub numbers : numbers_of r ≡ run_numbers check (heap_buckets L I.ceiling) (steps_of L I)
  pub distances : l'.distances ≡ words_after check (steps_of L I).search.distances l.distances
  pub parents : l'.parents ≡ words_after check (steps_of L I).search.parents l.parents
  pub roster : l'.roster ≡ words_after check (steps_of L I).search.roster l.roster
  pub work : l'.work ≡ words_after check (replicate (work_words L I.map.nodes) 0) l.work
  pub demanded : RunDemanded check I.map I.source (heap_buckets L I.ceiling) (removal_looks L I.ceiling) (steps_of L I)

-- A run for every input: its checks in order (document 01, "What a call returns").
abbrev pub Promised : Levels → Inputs → RunAnswer → (l l' : Lent) → Type 0
Promised L I r l l' = Ran L I (first_fault (run_checks L I (lengths_of l))) r l l'

-- The one-level run for every input: checks 1 to 6, 20, 7, 8 and 10 in order (document 01, "What a call returns"; document 02,
-- paper 2).
abbrev pub OneLevelPromised : Inputs → RunAnswer → (l l' : Lent) → Type 0
OneLevelPromised = Promised One

-- The two-level run for every input: checks 1 to 6, 20, 7 to 10 in order (document 01, "What a call returns"; document 02, paper 2).
abbrev pub TwoLevelPromised : (K : ℕ) → Inputs → RunAnswer → (l l' : Lent) → Type 0
TwoLevelPromised K = Promised (Two K)
