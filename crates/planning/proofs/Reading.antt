-- What `plan` and `routes` go by when the reader has answered: the most bytes, and the words of the lists that they lend. Assumes nothing.
use Prim.Native.Nat.{ℕ, ◌≤◌, ◌<◌}
use native.Mathlib.Omega.{arith}
use mathlib.Core.Path.{◌≡◌, refl, sym, ◌∙◌, subst}
use mathlib.Core.List.{List}
use lib.ListN.{length}
use borrow.Author.Tests.{lt-ltb, le-ltb}
use Rattle.std.specs.Prelude.{Ok, Err}
use Rattle.model.specs.Answers.{fault_of}
use Rattle.model.specs.declared.Kind.TheVariants.{InputSize}
use Rattle.model.specs.declared.Fault.{Fault}
use Rattle.reader.specs.declared.PlanHeader.{PlanHeader}
use Rattle.theory.specs.Runs.{Inputs, Allowed, fixed_words}
use Rattle.theory.specs.declared.Levels.{Levels}
use Rattle.checks.specs.Checks.{first_fault, run_checks}
use Rattle.plan_checks.specs.Checking.{plan_check}
use Rattle.reader.specs.Plans.{Plan, plan_of, plan_run}
use Rattle.reader.specs.Promise.{PlanAnswer, PlanPromised}
use Rattle.reader.proofs.Runnable.{Runnable, read_runnable, runs_pass}
use Rattle.reader.proofs.Told.{refused, refused_told, passed, read_told, nodes_told, starts_front, heads_front, costs_front, holds_front, inputs_told}
use Rattle.planning.specs.Planning.{planning_check, PlanLists, plan_lists, lent_of, RunLeft, ListsLeft, plan_lengths, WordsLent, map_inputs, MapRunnable}

-- The lists with a map in them.
abbrev pub map_in : PlanLists → (starts heads costs holds : List ℕ) → PlanLists
map_in l starts heads costs holds = plan_lists starts heads costs holds l.distances l.parents l.roster l.work

pub long_check : (bytes : List ℕ) → 65536 < length bytes → planning_check bytes ≡ Err (fault_of InputSize 0)
unfolding planning_check
long_check bytes long = rw (lt-ltb 65536 (length bytes) long) refl

-- A refusal leaves every list as it was.
pub refused_left : {fault : Fault} {plan : Plan} {L : Levels} {l : PlanLists} → ListsLeft (Err fault) plan L l l
refused_left = record {
  starts_after = refl;
  heads_after = refl;
  costs_after = refl;
  holds_after = refl;
  run_after = record { distances_after = refl; parents_after = refl; roster_after = refl; work_after = refl };
}

module _ (bytes : List ℕ) (short : length bytes ≤ 65536) {l : PlanLists} (lent : WordsLent l) {starts' heads' costs' holds' : List ℕ} {answer : PlanAnswer}
    (P : PlanPromised bytes l.starts l.heads l.costs l.holds starts' heads' costs' holds' answer) where
  check_lent : planning_check bytes ≡ plan_check bytes (length l.starts) (length l.heads) (length l.costs) (length l.holds)
  unfolding planning_check
  check_lent = rw (le-ltb 65536 (length bytes) short, lent.starts_words, lent.heads_words, lent.costs_words, lent.holds_words) refl

  module _ {fault : Fault} (a : answer ≡ Err fault) where
    pub refused_check : planning_check bytes ≡ Err fault
    refused_check = check_lent ∙ refused P a

    pub untouched : map_in l starts' heads' costs' holds' ≡ l
    untouched = let told = refused_told P a in rw (told.starts_after, told.heads_after, told.costs_after, told.holds_after) refl

  module _ {header : PlanHeader} (a : answer ≡ Ok header) where
    pub passed_check : planning_check bytes ≡ Ok tt
    passed_check = check_lent ∙ passed P a

    pub runnable : Runnable (plan_of bytes) (length l.starts) (length l.heads) (length l.costs) (length l.holds)
    runnable = read_runnable bytes _ _ _ _ (passed P a)

    -- What the runs are given is what the file tells.
    pub inputs_read : map_inputs header (map_in l starts' heads' costs' holds') ≡ plan_run (plan_of bytes)
    inputs_read = inputs_told P a runnable

    few : (plan_of bytes).header.nodes ≤ 512
    few = omega (arith, runnable.starts_fit, lent.starts_words)

    -- The run of every kind of heap that is allowed is accepted.
    pub map_read : (L : Levels) → Allowed L → fixed_words L ≤ 384 → MapRunnable L header (map_in l starts' heads' costs' holds')
    map_read L allowed words = record {
      starts_fit = (starts_front P a runnable).1;
      heads_fit = (heads_front P a runnable).1;
      costs_fit = (costs_front P a runnable).1;
      holds_fit = (holds_front P a runnable).1;
      nodes_fit = omega (arith, few, nodes_told P a);
      accepted =
          subst (λ (I : Inputs). first_fault (run_checks L I (plan_lengths l)) ≡ Ok tt) (sym inputs_read)
          (runs_pass runnable L allowed (plan_lengths l) (omega (arith, few, lent.distances_words)) (omega (arith, few, lent.parents_words))
          (omega (arith, few, lent.roster_words)) (omega (arith, few, lent.work_words, words)));
    }

    -- The map of the file, and behind it what its last run leaves.
    pub read_left : (L : Levels) {distances' parents' roster' work' : List ℕ} → let l' = plan_lists starts' heads' costs' holds' distances' parents' roster' work' in
        RunLeft (Ok tt) L (plan_run (plan_of bytes)) (lent_of l) (lent_of l') → ListsLeft (Ok tt) (plan_of bytes) L l l'
    read_left L left =
        let told = read_told P a in
        record {
          starts_after = told.starts_after;
          heads_after = told.heads_after;
          costs_after = told.costs_after;
          holds_after = told.holds_after;
          run_after = left;
        }
