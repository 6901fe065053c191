-- What the runs to a destination promise for every input (document 02, paper 7). The destination is paper 7's charger.
use Rattle.std.specs.Prelude.{ℕ, ◌≡◌, List, length, replicate, Ok, Err}
use Rattle.model.specs.Answers.{Check, RunAnswer, numbers_of, words_after}
use Rattle.theory.specs.Maps.{Map}
use Rattle.theory.specs.Heap.{Heap}
use Rattle.theory.specs.Runs.{Inputs, heap_buckets, removal_looks, work_words}
use Rattle.theory.specs.declared.Levels.{Levels}
use Rattle.theory.specs.declared.Levels.TheVariants.{One, Two}
use Rattle.checks.specs.Checks.{first_fault}
use Rattle.runs.specs.Promise.{Lent, lent, lengths_of, run_numbers}
use Rattle.reversal.specs.Reversed.{reversed, old_numbers, old_parents, steps_to}
use Rattle.reversal.specs.Demands.{DemandedTo}
use Rattle.destination_checks.specs.Destination.{LengthsTo, checks_to}

-- The eight lent lists: those of a run, then the working lists, which are the starts, heads and costs of the reversed map and the old numbers
-- of its arcs (document 02, paper 7).
pub record LentTo : Type 0 where
  pub run : Lent
  pub starts : List ℕ
  pub heads : List ℕ
  pub costs : List ℕ
  pub arcs : List ℕ

-- The eight lent lists from their parts (document 02, paper 7).
abbrev pub lent_to : (distances parents roster work starts heads costs arcs : List ℕ) → LentTo
lent_to distances parents roster work starts heads costs arcs =
    record { run = lent distances parents roster work; starts = starts; heads = heads; costs = costs; arcs = arcs }

-- How long they are (document 02, paper 7).
abbrev pub lengths_to : LentTo → LengthsTo
lengths_to l =
    record { run = lengths_of l.run; starts = length l.starts; heads = length l.heads; costs = length l.costs; arcs = length l.arcs }

-- Demands 2 and 3 in the map as it was, of an accepted run with B buckets and at most L looks to a removal (document 02, paper 7).
abbrev pub RunDemandedTo : Check → (M : Map) → (destination B L : ℕ) → (h : Heap) → Type 0
RunDemandedTo (Ok tt) M destination B L h = DemandedTo M destination B L h
RunDemandedTo (Err fault) M destination B L h = Unit {0}

-- A run to a destination, which is the source of the inputs, whose checks in order come to `check`: the answer, what each lent list holds
-- afterwards, and the demands. Distances, roster, work and numbers are those of the run of the reversed map, parents the same with old arc
-- numbers; the working lists hold the reversed map (document 02, paper 7).
pub record RanTo (L : Levels) (I : Inputs) (check : Check) (r : RunAnswer) (l l' : LentTo) : Type 0 where
  pub numbers : numbers_of r ≡ run_numbers check (heap_buckets L I.ceiling) (steps_to L I)
  pub distances : l'.run.distances ≡ words_after check (steps_to L I).search.distances l.run.distances
  pub parents : l'.run.parents ≡ words_after check (old_parents I.map (steps_to L I).search.parents) l.run.parents
  pub roster : l'.run.roster ≡ words_after check (steps_to L I).search.roster l.run.roster
  pub work : l'.run.work ≡ words_after check (replicate (work_words L I.map.nodes) 0) l.run.work
  pub starts : l'.starts ≡ words_after check (reversed I.map).starts l.starts
  pub heads : l'.heads ≡ words_after check (reversed I.map).heads l.heads
  pub costs : l'.costs ≡ words_after check (reversed I.map).costs l.costs
  pub arcs : l'.arcs ≡ words_after check (old_numbers I.map) l.arcs
  pub demanded : RunDemandedTo check I.map I.source (heap_buckets L I.ceiling) (removal_looks L I.ceiling) (steps_to L I)

-- A run to a destination for every input: its checks in order (document 02, paper 7).
abbrev pub PromisedTo : Levels → Inputs → RunAnswer → (l l' : LentTo) → Type 0
PromisedTo L I r l l' = RanTo L I (first_fault (checks_to L I (lengths_to l))) r l l'

-- The one-level run to a destination: checks 1 to 6, 20, 7, 8 and 10 in order (document 02, paper 7).
abbrev pub OneLevelPromisedTo : Inputs → RunAnswer → (l l' : LentTo) → Type 0
OneLevelPromisedTo = PromisedTo One

-- The two-level run to a destination: checks 1 to 6, 20, 7 to 10 in order (document 02, paper 7).
abbrev pub TwoLevelPromisedTo : (K : ℕ) → Inputs → RunAnswer → (l l' : LentTo) → Type 0
TwoLevelPromisedTo K = PromisedTo (Two K)
