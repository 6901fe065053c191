-- What a call from C finds in the lent array of numbers, beside what the entry point behind it promises (document 01, "What a call
-- returns").
use Rattle.std.specs.Prelude.{ℕ, ◌+◌, ◌*◌, ◌≡◌, List}
use Rattle.model.specs.Answers.{RunAnswer, numbers_of}
use Rattle.theory.specs.Runs.{Inputs}
use Rattle.runs.specs.Promise.{Lent, OneLevelPromised, TwoLevelPromised}
use Rattle.destination.specs.Promise.{LentTo, OneLevelPromisedTo, TwoLevelPromisedTo}
use Rattle.route.specs.Routes.{RouteAnswer, route_numbers_of, RoutePromised}
use Rattle.reader.specs.Promise.{PlanAnswer, plan_numbers_of, PlanPromised}
use Rattle.dimacs.specs.Promise.{DimacsAnswer, dimacs_numbers_of, DimacsPromised}
use Rattle.writer.specs.Promise.{WriteAnswer, write_numbers_of, WritePromised}
use Rattle.answer_words.specs.Words.{run_words, route_words, read_words, dimacs_words, write_words}

-- The version of the archive, MAJOR × 1000 + MINOR: ROOSTERNOW_VERSION of its header.
abbrev pub archive_version : ℕ
archive_version = 2 * 1000 + 0

-- A run, of either kind of heap and to a destination too: its promise, and the numbers of its answer (document 01, "What a call returns"; document
-- 02, papers 3 and 7).
pub record RunHanded (Promise : RunAnswer → Type 0) (numbers' : List ℕ) : Type 0 where
  pub answer : RunAnswer
  pub promised : Promise answer
  pub numbers : numbers' ≡ run_words (numbers_of answer)

-- The one-level run (document 01, "One-level heap").
abbrev pub OneLevelHanded : Inputs → (l l' : Lent) → (numbers' : List ℕ) → Type 0
OneLevelHanded I l l' = RunHanded (λ r. OneLevelPromised I r l l')

-- The two-level run (document 01, "Two-level heap").
abbrev pub TwoLevelHanded : (K : ℕ) → Inputs → (l l' : Lent) → (numbers' : List ℕ) → Type 0
TwoLevelHanded K I l l' = RunHanded (λ r. TwoLevelPromised K I r l l')

-- The one-level run to a destination (document 02, paper 7).
abbrev pub OneLevelToHanded : Inputs → (l l' : LentTo) → (numbers' : List ℕ) → Type 0
OneLevelToHanded I l l' = RunHanded (λ r. OneLevelPromisedTo I r l l')

-- The two-level run to a destination (document 02, paper 7).
abbrev pub TwoLevelToHanded : (K : ℕ) → Inputs → (l l' : LentTo) → (numbers' : List ℕ) → Type 0
TwoLevelToHanded K I l l' = RunHanded (λ r. TwoLevelPromisedTo K I r l l')

-- A route: its promise, and the numbers of its answer (document 01, "Routes" and "What a call returns").
pub record RouteHanded (n source : ℕ) (starts heads parents : List ℕ) (destination : ℕ) (words words' numbers' : List ℕ) : Type 0 where
  pub answer : RouteAnswer
  pub promised : RoutePromised n source starts heads parents destination answer words words'
  pub numbers : numbers' ≡ route_words (route_numbers_of answer)

-- The reader: its promise, and the numbers of its answer (document 01, "Planning file" and "What a call returns"; document 02, paper 2).
pub record ReadHanded (bytes starts heads costs holds starts' heads' costs' holds' numbers' : List ℕ) : Type 0 where
  pub answer : PlanAnswer
  pub promised : PlanPromised bytes starts heads costs holds starts' heads' costs' holds' answer
  pub numbers : numbers' ≡ read_words (plan_numbers_of answer)

-- The reader of road files: its promise, and the numbers of its answer (document 02, paper 1).
pub record DimacsHanded (bytes : List ℕ) (C : ℕ) (starts heads costs starts' heads' costs' numbers' : List ℕ) : Type 0 where
  pub answer : DimacsAnswer
  pub promised : DimacsPromised bytes C starts heads costs starts' heads' costs' answer
  pub numbers : numbers' ≡ dimacs_words (dimacs_numbers_of answer)

-- The writer: its promise, and the numbers of its answer (document 02, paper 5).
pub record WriteHanded (I : Inputs) (K : ℕ) (bytes bytes' numbers' : List ℕ) : Type 0 where
  pub answer : WriteAnswer
  pub promised : WritePromised I K bytes bytes' answer
  pub numbers : numbers' ≡ write_words (write_numbers_of answer)
