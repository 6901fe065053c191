-- What the writer answers once its checks are made. Assumes nothing.
use Prim.Native.Nat.{ℕ}
use native.Mathlib.Nat.{zero-add}
use mathlib.Core.Path.{◌≡◌, refl, sym, ap, subst, ◌∙◌}
use mathlib.Core.List.{List, [], ◌∷◌, ◌++◌, append_assoc}
use lib.ListN.{length}
use Rattle.model.specs.Answers.{Check}
use Rattle.std.specs.Prelude.{Ok, Err}
use Rattle.model.specs.declared.Fault.{Fault}
use Rattle.theory.specs.Runs.{Inputs}
use Rattle.theory.proofs.Cases.{differ}
use Rattle.check_numbers.specs.Numbers.{segments_check, lent_check}
use Rattle.checks.specs.Checks.{first_fault, lent_checks, map_checks}
use Rattle.checks.proofs.Order.{one, stopped, gone_on, pass_parts, passed_all, first_passed}
use Rattle.checks.proofs.Sizes.{passed_range}
use Rattle.checks.proofs.Valid.{passed_valid}
use Rattle.fields.specs.Writing.{written, Writes}
use Rattle.plan_text.specs.Files.{plan_file}
use Rattle.writer.specs.Promise.{WriteAnswer, write_answer, write_checks, Writable, WriteAnswered, TextAnswered, WritePromised}

-- ---- what an answer tells

pub answer_passed : (check : Check) (text : List ℕ) {size : ℕ} → Ok size ≡ write_answer check text → check ≡ Ok tt
answer_passed (Ok tt) text e = refl
answer_passed (Err fault) text e = differ (cc)

pub answer_refused : (check : Check) (text : List ℕ) {fault : Fault} → Err fault ≡ write_answer check text → check ≡ Err fault
answer_refused (Ok tt) text e = differ (cc)
answer_refused (Err fault) text e = let same : write_answer (Err fault) text ≡ Err fault = refl in cc

pub answer_size : (text : List ℕ) {size : ℕ} → Ok size ≡ write_answer (Ok tt) text → size ≡ length text
answer_size text e = let same : write_answer (Ok tt) text ≡ Ok (length text) = refl in cc

-- ---- the answer of the writer

pub refused_answered : {check : Check} {text bytes : List ℕ} {fault : Fault} → check ≡ Err fault
    → WriteAnswered check text bytes bytes (Err fault)
refused_answered e = rw e (record { answered = refl; bytes_after = refl })

pub text_answered : {text bytes bytes' : List ℕ} {next size : ℕ} → lent_check 0 (length bytes) (length text) ≡ Ok tt → size ≡ length text
    → Writes 0 text bytes bytes' next → TextAnswered text bytes bytes' (Ok size)
unfolding written
text_answered {text} passed same w =
    rw passed
    (record {
      answered = rw same refl;
      bytes_after = w.told ∙ rw (zero-add (length text)) refl;
    })

-- The same text, spelled in another way.
pub text_same : {text text' bytes bytes' : List ℕ} {answer : WriteAnswer} → text ≡ text' → TextAnswered text bytes bytes' answer
    → TextAnswered text' bytes bytes' answer
text_same {bytes = bytes} {bytes' = bytes'} {answer = answer} same t = subst (λ (text : List ℕ). TextAnswered text bytes bytes' answer) same t

-- ---- the checks before 10

module _ (I : Inputs) (K : ℕ) where
  -- what `write` has found once it knows of 9
  abbrev pub MapFound : Check → Type 0
  MapFound found = found ≡ first_fault (map_checks I ++ (segments_check K ∷ []))

  pub found_writable : {found : Check} → MapFound found → found ≡ Ok tt → Writable I K
  found_writable f passed =
      let p = pass_parts (map_checks I) (segments_check K ∷ []) (sym f ∙ passed) in
      record {
        valid = passed_valid I p.0;
        allowed = passed_range _ K 2 64 (first_passed (passed_all (segments_check K ∷ []) p.1));
      }

  -- 10 comes behind them
  pub map_refused : {found : Check} {bytes : List ℕ} {fault : Fault} → MapFound found → found ≡ Err fault
      → WritePromised I K bytes bytes (Err fault)
  unfolding write_checks
  map_refused {found} {bytes} f fault =
      refused_answered (sym (stopped (map_checks I ++ (segments_check K ∷ [])) _ f fault ∙ ap first_fault (append_assoc (map_checks I) (segments_check K ∷ []) _)) ∙ fault)

  pub map_answered : {found : Check} {bytes bytes' : List ℕ} {answer : WriteAnswer} → MapFound found → found ≡ Ok tt
      → TextAnswered (plan_file I K) bytes bytes' answer → WritePromised I K bytes bytes' answer
  unfolding write_checks lent_checks
  map_answered {found} {bytes} {bytes'} {answer} f passed t =
      let decides : lent_check 0 (length bytes) (length (plan_file I K)) ≡ first_fault (write_checks I K (length bytes)) =
      gone_on (map_checks I ++ (segments_check K ∷ [])) (sym f ∙ passed) (one refl) ∙ ap first_fault (append_assoc (map_checks I) (segments_check K ∷ []) _) in
      subst (λ (check : Check). WriteAnswered check (plan_file I K) bytes bytes' answer) decides t
