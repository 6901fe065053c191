-- What the writer's answer tells of a map with holds of 0, and the text that stands in the output then. Assumes nothing.
use Prim.Native.Nat.{ℕ, zero, suc, ◌+◌, ◌≤◌}
use native.Mathlib.Nat.{zero-add}
use native.Mathlib.Omega.{arith}
use mathlib.Core.Path.{◌≡◌, refl, sym, ap, subst, ◌∙◌}
use mathlib.Core.List.{List, [], ◌∷◌}
use lib.ListN.{length, take, replicate}
use Rattle.std.specs.Prelude.{Ok, Err}
use Rattle.model.specs.Answers.{Check}
use Rattle.model.specs.declared.Fault.{Fault}
use Rattle.theory.specs.Runs.{Inputs, inputs}
use Rattle.check_numbers.specs.Numbers.{segments_check}
use Rattle.checks.specs.Checks.{first_fault, lent_checks, map_checks}
use Rattle.checks.proofs.Order.{passed_all, first_passed, pass_parts}
use Rattle.checks.proofs.Sizes.{passed_lent}
use Rattle.fields.specs.Writing.{written, Writes}
use Rattle.report.specs.Report.{refused_text}
use Rattle.plan_text.specs.Files.{plan_file}
use Rattle.writer.specs.Promise.{WriteAnswer, write_checks, WriteAnswered, WritePromised}
use Rattle.writer.proofs.Answered.{answer_passed, answer_refused, answer_size}
use Rattle.conversion.specs.Conversion.{text_or_refusal, front_inputs}

-- ---- the holds

-- The first words of a list of equal words.
take_replicate : (k count word : ℕ) → k ≤ count → take k (replicate count word) ≡ replicate k word
take_replicate zero count word l = refl
take_replicate (suc k) zero word l = absurd (omega arith)
take_replicate (suc k) (suc count) word l = ap (λ (words : List ℕ). word ∷ words) (take_replicate k count word (omega arith))

-- ---- the answer

module _ (I : Inputs) (K : ℕ) where
  accepted_fits : (room : ℕ) → first_fault (write_checks I K room) ≡ Ok tt → length (plan_file I K) ≤ room
  unfolding write_checks lent_checks
  accepted_fits room e =
      let p = pass_parts (map_checks I) _ e in
      let q = pass_parts (segments_check K ∷ []) _ p.1 in
      passed_lent 0 room (length (plan_file I K)) (first_passed (passed_all _ q.1))

  module _ {output output' : List ℕ} {answer : WriteAnswer} (P : WritePromised I K output output' answer) where
    abbrev check : Check
    check = first_fault (write_checks I K (length output))

    abbrev Told : Check → Type 0
    Told made = WriteAnswered made (plan_file I K) output output' answer

    -- What stands in the output once the answer is told.
    abbrev Printed : (after : List ℕ) → (size : ℕ) → Type 0
    Printed after size = Writes 0 (text_or_refusal check (plan_file I K)) output after size

    file_written : {size : ℕ} → answer ≡ Ok size → Printed output' size
    unfolding written
    file_written {size} a =
        let passed : check ≡ Ok tt = answer_passed check (plan_file I K) (sym a ∙ P.answered) in
        let told = subst Told passed P in
        let size_told_lem : size ≡ length (plan_file I K) = answer_size (plan_file I K) (sym a ∙ told.answered) in
        rw passed
        (record {
          told = told.bytes_after ∙ rw (zero-add (length (plan_file I K))) refl;
          behind = omega (arith, size_told_lem);
          fits = omega (arith, accepted_fits (length output) passed);
        })

    refusal_written : {fault : Fault} {after : List ℕ} {size : ℕ} → answer ≡ Err fault
        → Writes 0 (refused_text fault) output' after size → Printed after size
    refusal_written {fault} {after} {size} a W =
        let refused : check ≡ Err fault = answer_refused check (plan_file I K) (sym a ∙ P.answered) in
        let told = subst Told refused P in
        rw refused (subst (λ (before : List ℕ). Writes 0 (refused_text fault) before after size) told.bytes_after W)

-- ---- a map at the front of lists

module _ (n m C source : ℕ) (starts heads costs : List ℕ) (few : n ≤ 512) where
  front_is : inputs n C source (take (n + 1) starts) (take m heads) (take m costs) (take n (replicate 512 0))
      ≡ front_inputs n m C source starts heads costs
  front_is = rw (take_replicate n 512 0 few) refl

  module _ (K : ℕ) {output output' : List ℕ} {answer : WriteAnswer}
      (P : WritePromised (inputs n C source (take (n + 1) starts) (take m heads) (take m costs) (take n (replicate 512 0))) K output output' answer) where
    front_promised : WritePromised (front_inputs n m C source starts heads costs) K output output' answer
    front_promised = subst (λ (I : Inputs). WritePromised I K output output' answer) front_is P

    pub front_written : {size : ℕ} → answer ≡ Ok size
        → Writes 0
        (text_or_refusal (first_fault (write_checks (front_inputs n m C source starts heads costs) K (length output))) (plan_file (front_inputs n m C source starts heads costs) K))
        output output' size
    front_written a = file_written (front_inputs n m C source starts heads costs) K front_promised a

    pub front_refused : {fault : Fault} {after : List ℕ} {size : ℕ} → answer ≡ Err fault → Writes 0 (refused_text fault) output' after size
        → Writes 0
        (text_or_refusal (first_fault (write_checks (front_inputs n m C source starts heads costs) K (length output))) (plan_file (front_inputs n m C source starts heads costs) K))
        output after size
    front_refused a W = refusal_written (front_inputs n m C source starts heads costs) K front_promised a W
