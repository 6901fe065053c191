-- From what the reader and the writer give to the whole answer. Assumes nothing.
use Prim.Native.Nat.{ℕ, ◌≤◌, ◌<◌}
use native.Mathlib.Omega.{arith}
use mathlib.Core.Path.{◌≡◌, refl, sym, ap, subst, ◌∙◌}
use mathlib.Core.List.{List}
use lib.ListN.{length}
use Rattle.std.specs.Prelude.{Ok, Err}
use Rattle.model.specs.Answers.{Check, fault_of}
use Rattle.model.specs.declared.Kind.TheVariants.{InputSize}
use Rattle.model.specs.declared.Fault.{Fault}
use Rattle.checks.specs.Checks.{first_fault}
use Rattle.fields.specs.Writing.{Writes}
use Rattle.fields.proofs.Written.{writes_inside}
use Rattle.dimacs_checks.specs.Checking.{road_check}
use Rattle.dimacs.specs.declared.RoadSize.{RoadSize}
use Rattle.dimacs.specs.Roads.{road, road_inputs}
use Rattle.dimacs.specs.Promise.{DimacsAnswer, DimacsPromised}
use Rattle.dimacs.proofs.Runnable.{RoadFits}
use Rattle.report.specs.Report.{refused_text}
use Rattle.plan_text.specs.Files.{plan_file}
use Rattle.writer.specs.Promise.{write_checks}
use Rattle.conversion.specs.Conversion.{road_file_check, conversion_check, text_or_refusal, conversion_text, ConversionPromised, ConversionLends, front_inputs, FrontFits}
use Rattle.conversion.proofs.Reading.{long_check, short_check, file_fits, refused, refused_told, passed, read_told, nodes_told, starts_front, heads_front, costs_front, inputs_told, numbers_checks, room_enough}

-- ---- the text

module _ (bytes : List ℕ) (C source K : ℕ) where
  fault_text : {fault : Fault} → road_file_check bytes C ≡ Err fault → conversion_text bytes C source K ≡ refused_text fault
  unfolding conversion_text conversion_check first_fault
  fault_text e = rw e refl

  pub read_check : road_file_check bytes C ≡ Ok tt → conversion_check bytes C source K ≡ first_fault (numbers_checks bytes C source K)
  unfolding conversion_check first_fault
  read_check e = rw e refl

  file_text : road_file_check bytes C ≡ Ok tt
      → text_or_refusal (first_fault (write_checks (road_inputs bytes C source) K 40992)) (plan_file (road_inputs bytes C source) K) ≡ conversion_text bytes C source K
  unfolding conversion_text
  file_text e =
      ap (λ (check : Check). text_or_refusal check (plan_file (road_inputs bytes C source) K)) (room_enough bytes C source K e ∙ sym (read_check e))

-- ---- the answer

module _ (bytes : List ℕ) (C source K : ℕ) {starts heads costs output output' : List ℕ} {size : ℕ} where
  refused_answered : {fault : Fault} → road_file_check bytes C ≡ Err fault → Writes 0 (refused_text fault) output output' size
      → ConversionPromised bytes C source K starts heads costs starts heads costs output output' size
  refused_answered e W = record {
    text = subst (λ (text : List ℕ). Writes 0 text output output' size) (sym (fault_text bytes C source K e)) W;
    starts_after = rw e refl;
    heads_after = rw e refl;
    costs_after = rw e refl;
  }

  pub too_long : 65536 < length bytes → Writes 0 (refused_text (fault_of InputSize 0)) output output' size
      → ConversionPromised bytes C source K starts heads costs starts heads costs output output' size
  too_long long W = refused_answered (long_check bytes C long) W

module _ (bytes : List ℕ) (C : ℕ) (short : length bytes ≤ 65536) {starts heads costs output : List ℕ} (lent : ConversionLends starts heads costs output)
    {starts' heads' costs' : List ℕ} {answer : DimacsAnswer} (P : DimacsPromised bytes C starts heads costs starts' heads' costs' answer) where
  check_lent : road_file_check bytes C ≡ road_check bytes C (length starts) (length heads) (length costs)
  check_lent = short_check bytes C short ∙ rw (lent.starts_words, lent.heads_words, lent.costs_words) refl

  pub read_refused : (source K : ℕ) {fault : Fault} {output' : List ℕ} {size : ℕ} → answer ≡ Err fault
      → Writes 0 (refused_text fault) output output' size
      → ConversionPromised bytes C source K starts heads costs starts' heads' costs' output output' size
  read_refused source K a W =
      let told = refused_told P a in
      rw (told.starts_after, told.heads_after, told.costs_after) (refused_answered bytes C source K (check_lent ∙ refused P a) W)

  module _ {read : RoadSize} (a : answer ≡ Ok read) where
    passed_check : road_file_check bytes C ≡ Ok tt
    passed_check = check_lent ∙ passed P a

    fits : RoadFits (road bytes) 513 2048 2048
    fits = file_fits bytes C passed_check

    pub front_read : FrontFits read.nodes read.arcs starts' heads' costs' output
    front_read = record {
      starts_fit = (starts_front P a).1;
      heads_fit = (heads_front P a fits).1;
      costs_fit = (costs_front P a fits).1;
      nodes_fit = omega (arith, fits.starts_fit, nodes_told P a);
      output_fits = omega (arith, lent.output_bytes);
    }

    pub front_answered : (source K : ℕ) {output' : List ℕ} {size : ℕ} → let front = front_inputs read.nodes read.arcs C source starts' heads' costs' in
        Writes 0 (text_or_refusal (first_fault (write_checks front K (length output))) (plan_file front K)) output output' size
        → ConversionPromised bytes C source K starts heads costs starts' heads' costs' output output' size
    front_answered source K {output'} {size} W =
        let E = rw (inputs_told P a fits C source, lent.output_bytes) at W in
        let told = read_told P a in
        record {
          text = subst (λ (text : List ℕ). Writes 0 text output output' size) (file_text bytes C source K passed_check) E;
          starts_after = rw passed_check told.starts_after;
          heads_after = rw passed_check told.heads_after;
          costs_after = rw passed_check told.costs_after;
        }

-- What is written lies within the output.
pub answer_within : {bytes : List ℕ} {C source K : ℕ} {starts heads costs starts' heads' costs' output output' : List ℕ} {size : ℕ}
    → ConversionPromised bytes C source K starts heads costs starts' heads' costs' output output' size → size ≤ length output'
answer_within A = writes_inside A.text
