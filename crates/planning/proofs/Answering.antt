-- From what the reader and the runs give to the whole answer. Assumes nothing.
use Prim.Native.Nat.{ℕ, ◌≤◌, ◌<◌}
use native.Mathlib.Omega.{arith}
use mathlib.Core.Path.{◌≡◌, sym, subst}
use mathlib.Core.List.{List}
use lib.ListN.{length}
use Rattle.model.specs.Answers.{Check, fault_of}
use Rattle.model.specs.declared.Kind.TheVariants.{InputSize}
use Rattle.std.specs.Prelude.{Ok, Err}
use Rattle.model.specs.declared.Fault.{Fault}
use Rattle.reader.specs.declared.PlanHeader.{PlanHeader}
use Rattle.theory.specs.Runs.{Allowed}
use Rattle.theory.specs.declared.Levels.TheVariants.{One, Two}
use Rattle.fields.specs.Writing.{Writes}
use Rattle.fields.proofs.Written.{writes_inside}
use Rattle.reader.specs.Plans.{Plan}
use Rattle.reader.specs.Promise.{PlanAnswer, PlanPromised}
use Rattle.reader.proofs.Told.{count_told, segments_told}
use Rattle.reader.proofs.Runnable.{file_allowed}
use Rattle.report.specs.Report.{refused_text}
use Rattle.planning.specs.Planning.{planning_check, PlanLists, plan_lists, Answered, PlanningPromised, WordsLent, map_inputs, BothRunnable, BothRun}
use Rattle.planning.proofs.Reading.{map_in, long_check, refused_left, refused_check, untouched, passed_check, runnable, inputs_read, map_read, read_left}

refused_answered : (bytes : List ℕ) {l : PlanLists} {fault : Fault} {output output' : List ℕ} {written : ℕ} → planning_check bytes ≡ Err fault
    → Writes 0 (refused_text fault) output output' written → PlanningPromised bytes l l output output' written
refused_answered bytes e W = rw e (record { text = W; lists = refused_left })

pub too_long : (bytes : List ℕ) (l : PlanLists) {output output' : List ℕ} {written : ℕ} → 65536 < length bytes
    → Writes 0 (refused_text (fault_of InputSize 0)) output output' written → PlanningPromised bytes l l output output' written
too_long bytes l long W = refused_answered bytes (long_check bytes long) W

module _ (bytes : List ℕ) (short : length bytes ≤ 65536) {l : PlanLists} (lent : WordsLent l) {starts' heads' costs' holds' : List ℕ} {answer : PlanAnswer}
    (P : PlanPromised bytes l.starts l.heads l.costs l.holds starts' heads' costs' holds' answer) where
  pub read_refused : {fault : Fault} {output output' : List ℕ} {written : ℕ} → answer ≡ Err fault → Writes 0 (refused_text fault) output output' written
      → PlanningPromised bytes l (map_in l starts' heads' costs' holds') output output' written
  read_refused {output = output} {output' = output'} {written = written} a W =
      subst (λ (l' : PlanLists). PlanningPromised bytes l l' output output' written) (sym (untouched bytes short lent P a))
      (refused_answered bytes (refused_check bytes short lent P a) W)

  module _ {header : PlanHeader} (a : answer ≡ Ok header) where
    pub both_read : BothRunnable header (map_in l starts' heads' costs' holds')
    both_read = record {
      one_level = map_read bytes short lent P a One tt (omega arith);
      two_level = map_read bytes short lent P a (Two header.segments) (subst (λ (k : ℕ). Allowed (Two k)) (sym (segments_told P a)) (file_allowed (runnable bytes short lent P a))) (omega arith);
    }

    pub map_answered : {distances' parents' roster' work' output output' : List ℕ} {written : ℕ} → let l' = plan_lists starts' heads' costs' holds' distances' parents' roster' work' in
        BothRun header.arcs header.segments (map_inputs header (map_in l starts' heads' costs' holds')) (map_in l starts' heads' costs' holds') l' output output' written
        → PlanningPromised bytes l l' output output' written
    map_answered B =
        let E = rw (inputs_read bytes short lent P a, count_told P a, segments_told P a) at B in
        rw (passed_check bytes short lent P a) (record { text = E.text; lists = read_left bytes short lent P a _ E.left })

-- What is written lies within the output.
pub answer_within : {check : Check} {plan : Plan} {l l' : PlanLists} {output output' : List ℕ} {written : ℕ}
    → Answered check plan l l' output output' written → written ≤ length output'
answer_within A = writes_inside A.text
