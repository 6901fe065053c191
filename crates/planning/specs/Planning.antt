-- What `plan` prints for every input, and what it leaves in the lists that it lends (document 01, "Planning file" and "What a call
-- returns").
use Rattle.std.specs.Prelude.{ℕ, ◌+◌, ◌≤◌, cond, ◌≡◌, List, ltb, length, take, replicate, Result, Ok, Err}
use Rattle.model.specs.declared.Fault.{Fault}
use Rattle.model.specs.declared.Kind.TheVariants.{InputSize}
use Rattle.model.specs.Answers.{Check, fault_of, numbers_of, words_after}
use Rattle.theory.specs.Heap.{placements}
use Rattle.theory.specs.Runs.{Inputs, inputs, heap_buckets, work_words, steps_of}
use Rattle.theory.specs.declared.Levels.{Levels}
use Rattle.theory.specs.declared.Levels.TheVariants.{One, Two}
use Rattle.checks.specs.Checks.{first_fault, run_checks, Lengths, lengths_for}
use Rattle.runs.specs.Promise.{Lent, lent, run_numbers}
use Rattle.fields.specs.Writing.{Writes}
use Rattle.plan_checks.specs.Checking.{plan_check}
use Rattle.reader.specs.declared.PlanHeader.{PlanHeader}
use Rattle.reader.specs.Plans.{Plan, plan_of, plan_starts, plan_heads, plan_costs, plan_holds, plan_run}
use Rattle.report.specs.Report.{refused_text, accepted_text}
use Rattle.planning.specs.declared.BothRuns.{BothRuns}

-- ---- the text

-- The most bytes that `plan` takes (document 01, "Planning file").
abbrev pub most_bytes : ℕ
most_bytes = 65536

-- 13 before any line is read, then the reader's checks with the words that `plan` lends (document 01, "What a call returns" and
-- "Planning file"; document 02, paper 2).
unfoldable pub planning_check : (bytes : List ℕ) → Check
planning_check bytes = cond (ltb most_bytes (length bytes)) (Err (fault_of InputSize 0)) (plan_check bytes 513 2048 2048 512)

-- The answer's text for m arcs and K, of the steps of both heaps over what the runs are given. Decreases, distances and parents are equal
-- for both, and the one-level heap's are told (document 01, "Planning file"; document 02, paper 3).
abbrev pub heaps_text : (m K : ℕ) → Inputs → List ℕ
heaps_text m K I =
    let first = steps_of One I in
    let second = steps_of (Two K) I in
    accepted_text I.map.nodes m (length first.search.roster) first.search.decreases
    (heap_buckets One I.ceiling) (placements first) first.looks first.reads
    (heap_buckets (Two K) I.ceiling) (placements second) second.looks second.reads
    first.search.distances first.search.parents

-- The text for a file that tells `plan` and whose checks come to `check` (document 01, "Planning file").
abbrev pub plan_answer_text : Check → Plan → List ℕ
plan_answer_text (Ok tt) plan = heaps_text plan.header.count plan.header.segments (plan_run plan)
plan_answer_text (Err fault) plan = refused_text fault

-- What `plan` prints (document 01, "Planning file").
unfoldable pub plan_text_lem : (bytes : List ℕ) → List ℕ
plan_text_lem bytes = plan_answer_text (planning_check bytes) (plan_of bytes)

-- ---- the lists

-- The lists that `plan` lends (document 01, "Planning file"; document 02, paper 2).
pub record PlanLists : Type 0 where
  pub starts : List ℕ
  pub heads : List ℕ
  pub costs : List ℕ
  pub holds : List ℕ
  pub distances : List ℕ
  pub parents : List ℕ
  pub roster : List ℕ
  pub work : List ℕ

-- The lists from their parts (document 01, "Planning file").
abbrev pub plan_lists : (starts heads costs holds distances parents roster work : List ℕ) → PlanLists
plan_lists starts heads costs holds distances parents roster work = record {
  starts = starts;
  heads = heads;
  costs = costs;
  holds = holds;
  distances = distances;
  parents = parents;
  roster = roster;
  work = work;
}

-- Those of them that are lent to a run (document 01, "What the planner holds and leaves out").
abbrev pub lent_of : PlanLists → Lent
lent_of l = lent l.distances l.parents l.roster l.work

-- What a run of this kind of heap leaves in the lists, whose checks come to `check`. Distances, parents and roster are equal for all kinds, and
-- the one-level heap's are named (document 01, "What the planner holds and leaves out"; document 02, paper 6).
pub record RunLeft (check : Check) (L : Levels) (I : Inputs) (l l' : Lent) : Type 0 where
  pub distances_after : l'.distances ≡ words_after check (steps_of One I).search.distances l.distances
  pub parents_after : l'.parents ≡ words_after check (steps_of One I).search.parents l.parents
  pub roster_after : l'.roster ≡ words_after check (steps_of One I).search.roster l.roster
  pub work_after : l'.work ≡ words_after check (replicate (work_words L I.map.nodes) 0) l.work

-- The lists afterwards, of a file that tells `plan` and whose checks come to `check`: its map, and what its last run leaves, which is one of this
-- kind of heap (document 01, "Planning file").
pub record ListsLeft (check : Check) (plan : Plan) (L : Levels) (l l' : PlanLists) : Type 0 where
  pub starts_after : l'.starts ≡ words_after check (plan_starts plan) l.starts
  pub heads_after : l'.heads ≡ words_after check (plan_heads plan) l.heads
  pub costs_after : l'.costs ≡ words_after check (plan_costs plan) l.costs
  pub holds_after : l'.holds ≡ words_after check (plan_holds plan) l.holds
  pub run_after : RunLeft check L (plan_run plan) (lent_of l) (lent_of l')

-- The text is written, and the lists hold the map and what the runs leave; the two-level run is made behind the one-level run (document 01,
-- "Planning file").
pub record Answered (check : Check) (plan : Plan) (l l' : PlanLists) (output output' : List ℕ) (bytes : ℕ) : Type 0 where
  pub text : Writes 0 (plan_answer_text check plan) output output' bytes
  pub lists : ListsLeft check plan (Two plan.header.segments) l l'

-- From bytes to bytes, for every input (document 01, "Planning file" and "What a call returns").
abbrev pub PlanningPromised : (bytes : List ℕ) → (l l' : PlanLists) → (output output' : List ℕ) → (written : ℕ) → Type 0
PlanningPromised bytes l l' output output' written =
    Answered (planning_check bytes) (plan_of bytes) l l' output output' written

-- ---- what the code goes by

-- The words that `plan` and `routes` lend of each list (document 01, "Planning file": 512 words for any list by node).
pub record WordsLent (l : PlanLists) : Type 0 where
  pub starts_words : length l.starts ≡ 513
  pub heads_words : length l.heads ≡ 2048
  pub costs_words : length l.costs ≡ 2048
  pub holds_words : length l.holds ≡ 512
  pub distances_words : length l.distances ≡ 512
  pub parents_words : length l.parents ≡ 512
  pub roster_words : length l.roster ≡ 512
  pub work_words : length l.work ≡ 2432

-- `plan` lends besides the bytes of its output, which are enough for every answer (document 01, "Planning file").
pub record PlanLends (l : PlanLists) (output : List ℕ) : Type 0 where
  pub lists : WordsLent l
  pub output_bytes : length output ≡ 33280

-- The text of what two runs have given back, or the first refusal. Runs of a map that has been read refuse nothing (document 01, "Planning
-- file"; document 02, paper 3).
unfoldable pub runs_text : (nodes arcs : ℕ) → Result BothRuns Fault → (distances parents : List ℕ) → List ℕ
runs_text nodes arcs (Ok both) distances parents =
    accepted_text nodes arcs both.one.reached both.one.counts.decreases
    both.one.buckets both.one.counts.placements both.one.counts.looks both.one.counts.reads
    both.two.buckets both.two.counts.placements both.two.counts.looks both.two.counts.reads distances parents
runs_text nodes arcs (Err fault) distances parents = refused_text fault

-- What the runs of the map at the front of the lists are given, which line 1 tells: n nodes, m arcs, C and the source (document 01,
-- "Planning file").
abbrev pub map_inputs : PlanHeader → PlanLists → Inputs
map_inputs header l =
    inputs header.nodes header.ceiling header.source.0
    (take (header.nodes + 1) l.starts) (take header.arcs l.heads) (take header.arcs l.costs) (take header.nodes l.holds)

-- How long the lists are that the runs fill (document 01, "What a call returns").
abbrev pub plan_lengths : PlanLists → Lengths
plan_lengths l = lengths_for (length l.distances) (length l.parents) (length l.roster) (length l.work)

-- A map that has been read into the lists, which the run of this kind of heap accepts (document 01, "Planning file").
pub record MapRunnable (L : Levels) (header : PlanHeader) (l : PlanLists) : Type 0 where
  pub starts_fit : header.nodes + 1 ≤ length l.starts
  pub heads_fit : header.arcs ≤ length l.heads
  pub costs_fit : header.arcs ≤ length l.costs
  pub holds_fit : header.nodes ≤ length l.holds
  pub nodes_fit : header.nodes ≤ 512
  pub accepted : first_fault (run_checks L (map_inputs header l) (plan_lengths l)) ≡ Ok tt

-- One that both runs accept (document 01, "Planning file").
pub record BothRunnable (header : PlanHeader) (l : PlanLists) : Type 0 where
  pub one_level : MapRunnable One header l
  pub two_level : MapRunnable (Two header.segments) header l

-- Both runs with K are made, and have given back these numbers (document 01, "What a call returns").
pub record BothReturned (K : ℕ) (I : Inputs) (l l' : PlanLists) (answer : Result BothRuns Fault) : Type 0 where
  pub both : BothRuns
  pub accepted : answer ≡ Ok both
  pub first_numbers : numbers_of (Ok both.one) ≡ run_numbers (Ok tt) (heap_buckets One I.ceiling) (steps_of One I)
  pub second_numbers : numbers_of (Ok both.two) ≡ run_numbers (Ok tt) (heap_buckets (Two K) I.ceiling) (steps_of (Two K) I)
  pub left : RunLeft (Ok tt) (Two K) I (lent_of l) (lent_of l')

-- Both runs of m arcs with K are made and told (document 01, "Planning file").
pub record BothRun (m K : ℕ) (I : Inputs) (l l' : PlanLists) (output output' : List ℕ) (written : ℕ) : Type 0 where
  pub text : Writes 0 (heaps_text m K I) output output' written
  pub left : RunLeft (Ok tt) (Two K) I (lent_of l) (lent_of l')
