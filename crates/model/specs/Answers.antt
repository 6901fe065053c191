-- Document 01's numbers for each case of an answer (document 01, "What a call returns").
use Rattle.std.specs.Prelude.{ℕ, Bool, true, false, List, ◌++◌, length, drop, Result, Ok, Err}
use Rattle.model.specs.declared.Counts.{Counts}
use Rattle.model.specs.declared.Fault.{Fault}
use Rattle.model.specs.declared.Kind.{Kind}
use Rattle.model.specs.declared.Kind.TheVariants.{NodeCount, Ceiling, Source, ArcCount, StartCount, Starts, Head, Cost, SegmentCount, LentList, PlanLine, Tail, InputSize, Destination, NoParent, Parents, RouteRoom, RoadForm, RoadOrder, Hold}
use Rattle.model.specs.declared.Run.{Run}

-- The number of each kind of refusal (document 01, "What a call returns"; document 02, paper 1: 18 and 19; paper 2: 20).
abbrev pub number_of : Kind → ℕ
number_of NodeCount = 1
number_of Ceiling = 2
number_of Source = 3
number_of ArcCount = 4
number_of StartCount = 5
number_of Starts = 6
number_of Head = 7
number_of Cost = 8
number_of SegmentCount = 9
number_of LentList = 10
number_of PlanLine = 11
number_of Tail = 12
number_of InputSize = 13
number_of Destination = 14
number_of NoParent = 15
number_of Parents = 16
number_of RouteRoom = 17
number_of RoadForm = 18
number_of RoadOrder = 19
number_of Hold = 20

-- What one check finds, or several in order: nothing, or the first fault, of a kind and at a place (document 01, "What a call
-- returns").
abbrev pub Check : Type 0
Check = Result (Unit {0}) Fault

-- A fault of its parts (document 01, "What a call returns").
abbrev pub fault_of : Kind → (place : ℕ) → Fault
fault_of kind place = record { kind = kind; place = place }

-- What a run answers: r, B and the counts, or the first fault (document 01, "What the planner holds and leaves out" and "What a call
-- returns").
abbrev pub RunAnswer : Type 0
RunAnswer = Result Run Fault

-- What a run returns (document 01, "What the planner holds and leaves out" and "What a call returns"): number and place, then r,
-- B, and the counts.
pub record Numbers : Type 0 where
  pub returned : ℕ
  pub place : ℕ
  pub reached : ℕ
  pub buckets : ℕ
  pub counts : Counts

-- An accepted run returns 0 with place 0 (document 01, "What a call returns").
abbrev pub accepted_numbers : (reached buckets : ℕ) → Counts → Numbers
accepted_numbers reached buckets counts = record { returned = 0; place = 0; reached = reached; buckets = buckets; counts = counts }

-- No count (document 01, "What a call returns": all other numbers of a refusal are 0).
abbrev pub no_counts : Counts
no_counts = record { decreases = 0; placements = 0; looks = 0; reads = 0 }

-- All other numbers of a refusal are 0 (document 01, "What a call returns").
abbrev pub refused_numbers : Fault → Numbers
refused_numbers fault = record { returned = number_of fault.kind; place = fault.place; reached = 0; buckets = 0; counts = no_counts }

-- The numbers of each case of a run's answer (document 01, "What a call returns").
abbrev pub numbers_of : RunAnswer → Numbers
numbers_of (Ok run) = accepted_numbers run.reached run.buckets run.counts
numbers_of (Err fault) = refused_numbers fault

-- Every check has passed (document 01, "What a call returns").
abbrev pub all_passed : Check → Bool
all_passed (Ok tt) = true
all_passed (Err fault) = false

-- A lent list afterwards: its first words are filled and the words past these untouched; a refusal changes none (document 01, "What the
-- planner holds and leaves out" and "What a call returns").
abbrev pub words_after : Check → (filled words : List ℕ) → List ℕ
words_after (Ok tt) filled words = filled ++ drop (length filled) words
words_after (Err fault) filled words = words
