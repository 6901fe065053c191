-- What a call of the writer gives that is not refused: it is read back, it is the same bytes exactly for the same map, and how long it
-- can be. Assumes nothing.
use Prim.Native.Nat.{ℕ, ◌+◌, ◌*◌, ◌≤◌}
use native.Mathlib.Omega.{arith}
use mathlib.Core.Path.{◌≡◌, refl, sym, ap, subst, ◌∙◌}
use mathlib.Core.List.{List, [], ◌∷◌, ◌++◌, append_assoc}
use lib.ListN.{length, take, drop}
use lib.Seq.{take_at}
use Rattle.model.specs.Answers.{Check}
use Rattle.std.specs.Prelude.{Ok}
use Rattle.theory.specs.Maps.{arcs}
use Rattle.theory.specs.Runs.{Inputs}
use Rattle.check_numbers.specs.Numbers.{segments_check}
use Rattle.checks.specs.Checks.{first_fault, map_checks, lent_checks}
use Rattle.checks.proofs.Order.{none, more, all_passed_lem, pass_parts, parts_pass}
use Rattle.checks.proofs.Sizes.{range_passes, lent_passes}
use Rattle.checks.proofs.Valid.{valid_passed}
use Rattle.reader.specs.Promise.{PlanAnswer, PlanPromised}
use Rattle.plan_text.specs.Files.{plan_file, Agree}
use Rattle.plan_text.specs.ReadBack.{LongEnough, ReadBack}
use Rattle.plan_text.proofs.Files.{read_back, file_most}
use Rattle.plan_text.proofs.Agree.{files_agree, agree_files}
use Rattle.writer.specs.Promise.{write_checks, Writable, WriteAnswered, WritePromised}
use Rattle.writer.proofs.Answered.{answer_passed, answer_size, found_writable}

-- ---- a call that is not refused

-- What the numbers before 10 show of accepted inputs.
accepted_writable : (I : Inputs) (K room : ℕ) → first_fault (write_checks I K room) ≡ Ok tt → Writable I K
unfolding write_checks
accepted_writable I K room e =
    let before = map_checks I ++ (segments_check K ∷ []) in
    found_writable I K refl (pass_parts before _ (ap first_fault (append_assoc (map_checks I) (segments_check K ∷ []) _) ∙ e)).0

module _ (I : Inputs) (K : ℕ) (bytes bytes' : List ℕ) (size : ℕ) (w : WritePromised I K bytes bytes' (Ok size)) where
  accepted : first_fault (write_checks I K (length bytes)) ≡ Ok tt
  accepted = answer_passed (first_fault (write_checks I K (length bytes))) (plan_file I K) w.answered

  writable : Writable I K
  writable = accepted_writable I K (length bytes) accepted

  told : WriteAnswered (Ok tt) (plan_file I K) bytes bytes' (Ok size)
  told = subst (λ (check : Check). WriteAnswered check (plan_file I K) bytes bytes' (Ok size)) accepted w

  size_told_lem : size ≡ length (plan_file I K)
  size_told_lem = answer_size (plan_file I K) told.answered

  -- the bytes of the file are the first of the buffer
  pub written_file : take size bytes' ≡ plan_file I K
  written_file = ap (take size) told.bytes_after ∙ take_at (plan_file I K) (drop (length (plan_file I K)) bytes) size (sym size_told_lem)

  -- (a) Read again into lists that are long enough, the file gives the same numbers and lists (document 02, paper 5).
  pub written_read_back : {starts heads costs holds starts' heads' costs' holds' : List ℕ} {answer : PlanAnswer}
      → LongEnough I.map starts heads costs holds
      → PlanPromised (take size bytes') starts heads costs holds starts' heads' costs' holds' answer
      → ReadBack I K starts heads costs holds starts' heads' costs' holds' answer
  written_read_back {starts} {heads} {costs} {holds} {starts'} {heads'} {costs'} {holds'} {answer} long promised =
      read_back I K writable.valid writable.allowed.0 writable.allowed.1 long
      (subst (λ (text : List ℕ). PlanPromised text starts heads costs holds starts' heads' costs' holds' answer) written_file promised)

  -- (c) The file is no longer than this (document 02, paper 5).
  pub written_most : size ≤ 29 + 18 * arcs I.map + 8 * I.map.nodes
  written_most = omega (arith, size_told_lem, file_most I K writable.valid writable.allowed.0 writable.allowed.1)

-- (b) Two files are the same bytes exactly if n, the arcs in order, C, source, K and the holds agree (document 02, paper 5).
module _ (I I' : Inputs) (K K' : ℕ) (bytes bytes' other other' : List ℕ) (size size' : ℕ)
    (w : WritePromised I K bytes bytes' (Ok size)) (w' : WritePromised I' K' other other' (Ok size')) where
  pub same_bytes_agree : take size bytes' ≡ take size' other' → Agree I I' K K'
  same_bytes_agree e =
      let p = writable I K bytes bytes' size w in
      let p' = writable I' K' other other' size' w' in
      files_agree I K p.valid p.allowed.0 p.allowed.1 I' K' p'.valid p'.allowed.0 p'.allowed.1
      (sym (written_file I K bytes bytes' size w) ∙ e ∙ written_file I' K' other other' size' w')

  pub agree_same_bytes : Agree I I' K K' → take size bytes' ≡ take size' other'
  agree_same_bytes agree = written_file I K bytes bytes' size w ∙ agree_files agree ∙ sym (written_file I' K' other other' size' w')

-- (c) A buffer of that many bytes is never refused (document 02, paper 5).
pub roomy_accepted : (I : Inputs) (K room : ℕ) → Writable I K → 29 + 18 * arcs I.map + 8 * I.map.nodes ≤ room
    → first_fault (write_checks I K room) ≡ Ok tt
unfolding write_checks lent_checks
roomy_accepted I K room w enough =
    let fits = lent_passes 0 room (length (plan_file I K)) (omega (arith, file_most I K w.valid w.allowed.0 w.allowed.1)) in
    parts_pass (map_checks I) _ (valid_passed I w.valid) (all_passed_lem (more (range_passes _ K 2 64 w.allowed.0 w.allowed.1) (more fits none)))
