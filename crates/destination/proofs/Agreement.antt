-- What two accepted runs to a destination of the same inputs leave is the same, whichever heaps they use and whatever their lists held.
-- Assumes nothing.
use mathlib.Core.Path.{◌≡◌, sym, ◌∙◌, ap, subst}
use Rattle.model.specs.Answers.{Check, RunAnswer, Numbers, numbers_of}
use Rattle.std.specs.Prelude.{Ok}
use Rattle.theory.specs.Runs.{Inputs, heap_buckets}
use Rattle.theory.specs.declared.Levels.{Levels}
use Rattle.theory.proofs.Demands.{allowed_segmented}
use Rattle.checks.specs.Checks.{first_fault}
use Rattle.runs.specs.Agreement.{RunsAgree}
use Rattle.runs.proofs.Agreement.{returned_passed, LeftBy, steps_agree}
use Rattle.reversal.specs.Reversed.{old_parents, steps_to}
use Rattle.reversal.proofs.Demanded.{to_heaps_agree}
use Rattle.destination_checks.specs.Destination.{checks_to}
use Rattle.destination_checks.proofs.Ready.{passed_ready_to, fault_number_to}
use Rattle.destination.specs.Promise.{LentTo, lengths_to, RanTo, PromisedTo}

module _ {L : Levels} {I : Inputs} {r : RunAnswer} {l l' : LentTo} (promised : PromisedTo L I r l l') (accepted : (numbers_of r).returned ≡ 0) where
  -- 0 is returned only where all checks pass.
  pub accepted_passed_to : first_fault (checks_to L I (lengths_to l)) ≡ Ok tt
  accepted_passed_to =
      returned_passed _ (fault_number_to L I (lengths_to l)) _ _ (sym (ap (λ (n : Numbers). n.returned) promised.numbers) ∙ accepted)

  pub accepted_ran_to : RanTo L I (Ok tt) r l l'
  accepted_ran_to = subst (λ (k : Check). RanTo L I k r l l') accepted_passed_to promised

-- Whatever two accepted runs to a destination are made with, they agree.
pub runs_to_agree : {L L' : Levels} {I : Inputs} {r s : RunAnswer} {l l' k k' : LentTo} → PromisedTo L I r l l' → PromisedTo L' I s k k'
    → (numbers_of r).returned ≡ 0 → (numbers_of s).returned ≡ 0 → RunsAgree I.map.nodes (numbers_of r) (numbers_of s) l.run l'.run k.run k'.run
runs_to_agree {L} {L'} {I} P Q a b =
    let ready = passed_ready_to (accepted_passed_to P a) in
    let agree : (steps_to L I).search ≡ (steps_to L' I).search =
    to_heaps_agree ready.valid L L' (allowed_segmented L ready.allowed)
    (allowed_segmented L' (passed_ready_to (accepted_passed_to Q b)).allowed) in
    let first = accepted_ran_to P a in
    steps_agree (ran_left first) (ran_left (accepted_ran_to Q b)) agree first.demanded.cheapest.distances_length first.demanded.cheapest.parents_length
  where
    ran_left : {L : Levels} {I : Inputs} {r : RunAnswer} {l l' : LentTo} → RanTo L I (Ok tt) r l l'
        → LeftBy (old_parents I.map) (heap_buckets L I.ceiling) (steps_to L I) r l.run l'.run
    ran_left ran = record { numbers = ran.numbers; distances = ran.distances; parents = ran.parents; roster = ran.roster }
