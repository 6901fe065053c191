-- What the reader promises for every input (document 01, "Planning file" and "What a call returns").
use Rattle.std.specs.Prelude.{ℕ, ◌≡◌, List, length, Option, Result, Ok, Err}
use Rattle.model.specs.declared.Fault.{Fault}
use Rattle.model.specs.Answers.{Check, number_of, words_after}
use Rattle.reader.specs.declared.PlanHeader.{PlanHeader}
use Rattle.plan_lines.specs.declared.HeaderLine.{HeaderLine}
use Rattle.plan_checks.specs.Checking.{header_line_check, plan_check}
use Rattle.reader.specs.Plans.{Header, header_numbers, Plan, plan_under, plan_of, plan_starts, plan_heads, plan_costs, plan_holds}

-- What the reader answers: line 1's five numbers, or the first fault (document 01, "Planning file" and "What a call returns").
abbrev pub PlanAnswer : Type 0
PlanAnswer = Result PlanHeader Fault

-- Line 1's five numbers: n, m, C, the source and K (document 01, "Planning file").
abbrev pub plan_header : (n m C source K : ℕ) → PlanHeader
plan_header n m C source K = record { nodes = n; arcs = m; ceiling = C; source = record { 0 = source }; segments = K }

-- The answer on a file that tells this header and whose checks in order come to `check` (document 01, "What a call returns").
abbrev pub plan_answer : Check → Header → PlanAnswer
plan_answer (Ok tt) header = Ok (plan_header header.nodes header.count header.ceiling header.source header.segments)
plan_answer (Err fault) header = Err fault

-- What the reader returns: number and place, then line 1's five numbers (document 01, "Planning file" and "What a call returns").
pub record PlanNumbers : Type 0 where
  pub returned : ℕ
  pub place : ℕ
  pub nodes : ℕ
  pub arcs : ℕ
  pub ceiling : ℕ
  pub source : ℕ
  pub segments : ℕ

-- A file that is read returns 0 with place 0 (document 01, "What a call returns").
abbrev pub read_numbers : (nodes arcs ceiling source segments : ℕ) → PlanNumbers
read_numbers nodes arcs ceiling source segments = record {
  returned = 0;
  place = 0;
  nodes = nodes;
  arcs = arcs;
  ceiling = ceiling;
  source = source;
  segments = segments;
}

-- All other numbers of a refusal are 0 (document 01, "What a call returns").
abbrev pub unread_numbers : Fault → PlanNumbers
unread_numbers fault = record { returned = number_of fault.kind; place = fault.place; nodes = 0; arcs = 0; ceiling = 0; source = 0; segments = 0 }

-- The numbers of each case of the reader's answer (document 01, "What a call returns").
abbrev pub plan_numbers_of : PlanAnswer → PlanNumbers
plan_numbers_of (Ok header) = read_numbers header.nodes header.arcs header.ceiling header.source.0 header.segments
plan_numbers_of (Err fault) = unread_numbers fault

-- The reader on a file that tells `plan` and whose checks in order come to `check`: its answer, and what each lent list holds afterwards
-- (document 01, "Planning file" and "What a call returns"; document 02, paper 2).
pub record PlanAnswered (check : Check) (plan : Plan) (starts heads costs holds starts' heads' costs' holds' : List ℕ) (answer : PlanAnswer) : Type 0
  where
    pub answered : answer ≡ plan_answer check plan.header
    pub starts_after : starts' ≡ words_after check (plan_starts plan) starts
    pub heads_after : heads' ≡ words_after check (plan_heads plan) heads
    pub costs_after : costs' ≡ words_after check (plan_costs plan) costs
    pub holds_after : holds' ≡ words_after check (plan_holds plan) holds

-- The reader on a file whose line 1 is this one, or ill-formed (document 01, "Planning file" and "What a call returns"; document 02,
-- paper 2).
abbrev pub HeaderAnswered : Option HeaderLine → (bytes starts heads costs holds starts' heads' costs' holds' : List ℕ) → PlanAnswer → Type 0
HeaderAnswered line bytes starts heads costs holds starts' heads' costs' holds' answer =
    PlanAnswered (header_line_check line bytes (length starts) (length heads) (length costs) (length holds)) (plan_under (header_numbers line) bytes)
    starts heads costs holds starts' heads' costs' holds' answer

-- The reader on every file (document 01, "Planning file" and "What a call returns").
abbrev pub PlanPromised : (bytes starts heads costs holds starts' heads' costs' holds' : List ℕ) → PlanAnswer → Type 0
PlanPromised bytes starts heads costs holds starts' heads' costs' holds' answer =
    PlanAnswered (plan_check bytes (length starts) (length heads) (length costs) (length holds)) (plan_of bytes)
    starts heads costs holds starts' heads' costs' holds' answer
