-- What the writer promises for every input (document 02, paper 5).
use Rattle.std.specs.Prelude.{ℕ, ◌≡◌, List, [], ◌∷◌, ◌++◌, length, Result, Ok, Err}
use Rattle.model.specs.declared.Fault.{Fault}
use Rattle.model.specs.Answers.{Check, number_of, words_after}
use Rattle.theory.specs.Runs.{Inputs, ValidInputs, Allowed}
use Rattle.theory.specs.declared.Levels.TheVariants.{Two}
use Rattle.check_numbers.specs.Numbers.{lent_check}
use Rattle.checks.specs.Checks.{first_fault, lent_checks, map_checks, levels_checks}
use Rattle.plan_text.specs.Files.{plan_file}

-- What the writer answers: the length of the file, or the first fault (document 02, paper 5).
abbrev pub WriteAnswer : Type 0
WriteAnswer = Result ℕ Fault

-- What the writer returns: number and place, then the length of the file (document 02, paper 5).
pub record WriteNumbers : Type 0 where
  pub returned : ℕ
  pub place : ℕ
  pub length : ℕ

-- A file that is written returns 0 with place 0 (document 01, "What a call returns").
abbrev pub written_numbers : (length : ℕ) → WriteNumbers
written_numbers length = record { returned = 0; place = 0; length = length }

-- All other numbers of a refusal are 0 (document 01, "What a call returns").
abbrev pub unwritten_numbers : Fault → WriteNumbers
unwritten_numbers fault = record { returned = number_of fault.kind; place = fault.place; length = 0 }

-- The numbers of each case of the writer's answer (document 01, "What a call returns").
abbrev pub write_numbers_of : WriteAnswer → WriteNumbers
write_numbers_of (Ok length) = written_numbers length
write_numbers_of (Err fault) = unwritten_numbers fault

-- The answer: the length of the text, or the first fault (document 02, paper 5).
abbrev pub write_answer : Check → (text : List ℕ) → WriteAnswer
write_answer (Ok tt) text = Ok (length text)
write_answer (Err fault) text = Err fault

-- The writer's checks: a run's numbers without its lists, 9 included, then 10 with place 0 for a buffer of fewer bytes than the file has
-- (document 02, paper 5).
unfoldable pub write_checks : Inputs → (K room : ℕ) → List Check
write_checks I K room = map_checks I ++ (levels_checks (Two K) ++ lent_checks 0 (record { words = room; needed = length (plan_file I K) } ∷ []))

-- What the numbers before 10 have shown (document 02, paper 5).
pub record Writable (I : Inputs) (K : ℕ) : Type 0 where
  pub valid : ValidInputs I
  pub allowed : Allowed (Two K)

-- The writer of a text whose checks in order come to `check`: its answer, and what the buffer holds afterwards (document 02, paper 5).
pub record WriteAnswered (check : Check) (text bytes bytes' : List ℕ) (answer : WriteAnswer) : Type 0 where
  pub answered : answer ≡ write_answer check text
  pub bytes_after : bytes' ≡ words_after check text bytes

-- The writer of a text once all numbers before 10 have passed (document 02, paper 5).
abbrev pub TextAnswered : (text bytes bytes' : List ℕ) → WriteAnswer → Type 0
TextAnswered text bytes bytes' answer = WriteAnswered (lent_check 0 (length bytes) (length text)) text bytes bytes' answer

-- The writer on every map, C, source and K (document 02, paper 5).
abbrev pub WritePromised : Inputs → (K : ℕ) → (bytes bytes' : List ℕ) → WriteAnswer → Type 0
WritePromised I K bytes bytes' answer = WriteAnswered (first_fault (write_checks I K (length bytes))) (plan_file I K) bytes bytes' answer
