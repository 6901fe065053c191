-- What the reader of road files promises for every input (document 02, paper 1).
use Rattle.std.specs.Prelude.{ℕ, ◌≡◌, List, length, Result, Ok, Err}
use Rattle.model.specs.Answers.{Check, number_of, words_after}
use Rattle.model.specs.declared.Fault.{Fault}
use Rattle.dimacs_checks.specs.Checking.{road_check}
use Rattle.dimacs.specs.declared.RoadSize.{RoadSize}
use Rattle.dimacs.specs.Roads.{Road, road, road_starts, road_heads, road_costs}

-- What the reader answers: n and m, or the first fault (document 02, paper 1).
abbrev pub DimacsAnswer : Type 0
DimacsAnswer = Result RoadSize Fault

-- The answer on a file that tells this road and whose checks in order come to `check`: the numbers of the `p` line, or the first fault
-- (document 02, paper 1).
abbrev pub dimacs_answer : Check → Road → DimacsAnswer
dimacs_answer (Ok tt) told = Ok (record { nodes = told.nodes; arcs = told.count })
dimacs_answer (Err fault) told = Err fault

-- What the reader returns: number and place, then n and m (document 02, paper 1).
pub record DimacsNumbers : Type 0 where
  pub returned : ℕ
  pub place : ℕ
  pub nodes : ℕ
  pub arcs : ℕ

-- A file that is read returns 0 with place 0 (document 01, "What a call returns").
abbrev pub read_dimacs_numbers : (nodes arcs : ℕ) → DimacsNumbers
read_dimacs_numbers nodes arcs = record { returned = 0; place = 0; nodes = nodes; arcs = arcs }

-- All other numbers of a refusal are 0 (document 01, "What a call returns").
abbrev pub unread_dimacs_numbers : Fault → DimacsNumbers
unread_dimacs_numbers fault = record { returned = number_of fault.kind; place = fault.place; nodes = 0; arcs = 0 }

-- The numbers of each case of the answer (document 01, "What a call returns").
abbrev pub dimacs_numbers_of : DimacsAnswer → DimacsNumbers
dimacs_numbers_of (Ok size) = read_dimacs_numbers size.nodes size.arcs
dimacs_numbers_of (Err fault) = unread_dimacs_numbers fault

-- The reader on a file whose checks in order come to `check`: its answer, and what each lent list holds afterwards (document 02, paper 1).
pub record DimacsAnswered (check : Check) (bytes starts heads costs starts' heads' costs' : List ℕ) (answer : DimacsAnswer) : Type 0 where
  pub answered : answer ≡ dimacs_answer check (road bytes)
  pub starts_after : starts' ≡ words_after check (road_starts bytes) starts
  pub heads_after : heads' ≡ words_after check (road_heads bytes) heads
  pub costs_after : costs' ≡ words_after check (road_costs bytes) costs

-- The reader on every file and ceiling C (document 02, paper 1).
abbrev pub DimacsPromised : (bytes : List ℕ) → (C : ℕ) → (starts heads costs starts' heads' costs' : List ℕ) → DimacsAnswer → Type 0
DimacsPromised bytes C starts heads costs starts' heads' costs' answer =
    DimacsAnswered (road_check bytes C (length starts) (length heads) (length costs)) bytes starts heads costs starts' heads' costs' answer
