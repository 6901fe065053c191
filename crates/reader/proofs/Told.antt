-- What an answer of the reader tells. Assumes nothing.
use Prim.Native.Nat.{ℕ, ◌+◌, ◌≤◌}
use native.Mathlib.Omega.{arith}
use native.Mathlib.Numerals.{add-one}
use mathlib.Core.Path.{◌≡◌, refl, sym, ◌∙◌, ap, subst}
use mathlib.Core.List.{List}
use lib.ListN.{length, take, drop, length-append}
use lib.Seq.{take_at}
use Rattle.model.specs.Answers.{Check, words_after}
use Rattle.std.specs.Prelude.{Ok, Err}
use Rattle.model.specs.declared.Fault.{Fault}
use Rattle.theory.specs.Runs.{inputs}
use Rattle.theory.proofs.Cases.{differ}
use Rattle.reader.specs.declared.PlanHeader.{PlanHeader}
use Rattle.reader.specs.Plans.{Header, Plan, plan_starts, plan_heads, plan_costs, plan_holds, plan_run}
use Rattle.reader.specs.Promise.{PlanAnswer, plan_header, plan_answer, PlanAnswered}
use Rattle.reader.proofs.Runnable.{Runnable}

-- A refusal is the first fault of the checks.
fault_told : (check : Check) (header : Header) {fault : Fault} → plan_answer check header ≡ Err fault → check ≡ Err fault
fault_told (Ok tt) header e = differ (cc)
fault_told (Err fault) header e = let same : Err fault ≡ plan_answer (Err fault) header = refl in cc

pub passed_told : (check : Check) (header : Header) {told : PlanHeader} → plan_answer check header ≡ Ok told → check ≡ Ok tt
passed_told (Ok tt) header e = refl
passed_told (Err fault) header e = differ (cc)

-- What a list was filled with stands at its front.
pub front : (filled words : List ℕ) {words' : List ℕ} (k : ℕ) → words' ≡ words_after (Ok tt) filled words → length filled ≡ k → (take k words' ≡ filled) × (k ≤ length words')
front filled words k e l =
    let rest = drop (length filled) words in
    (ap (take k) e ∙ take_at filled rest k l, omega (arith, ap length e, length-append filled rest, l))

module _ {check : Check} {plan : Plan} {starts heads costs holds starts' heads' costs' holds' : List ℕ} {answer : PlanAnswer}
    (P : PlanAnswered check plan starts heads costs holds starts' heads' costs' holds' answer) where
  abbrev Told : Check → Type 0
  Told k = PlanAnswered k plan starts heads costs holds starts' heads' costs' holds' answer

  -- ---- a file that is refused

  module _ {fault : Fault} (a : answer ≡ Err fault) where
    pub refused : check ≡ Err fault
    refused = fault_told check plan.header (sym P.answered ∙ a)

    pub refused_told : Told (Err fault)
    refused_told = subst Told refused P

  -- ---- a file that is read

  module _ {header : PlanHeader} (a : answer ≡ Ok header) where
    pub passed : check ≡ Ok tt
    passed = passed_told check plan.header (sym P.answered ∙ a)

    pub read_told : Told (Ok tt)
    read_told = subst Told passed P

    same : header ≡ plan_header plan.header.nodes plan.header.count plan.header.ceiling plan.header.source plan.header.segments
    same = let e : Ok header ≡ plan_answer (Ok tt) plan.header = sym a ∙ read_told.answered in cc

    pub nodes_told : header.nodes ≡ plan.header.nodes
    nodes_told = ap (λ (k : PlanHeader). k.nodes) same

    pub count_told : header.arcs ≡ plan.header.count
    count_told = ap (λ (k : PlanHeader). k.arcs) same

    ceiling_told : header.ceiling ≡ plan.header.ceiling
    ceiling_told = ap (λ (k : PlanHeader). k.ceiling) same

    source_told : header.source.0 ≡ plan.header.source
    source_told = ap (λ (k : PlanHeader). k.source.0) same

    pub segments_told : header.segments ≡ plan.header.segments
    segments_told = ap (λ (k : PlanHeader). k.segments) same

    module _ (R : Runnable plan (length starts) (length heads) (length costs) (length holds)) where
      pub starts_front : (take (header.nodes + 1) starts' ≡ plan_starts plan) × (header.nodes + 1 ≤ length starts')
      starts_front =
          front (plan_starts plan) starts (header.nodes + 1) read_told.starts_after
          (R.valid.sound.starts_length ∙ sym (add-one plan.header.nodes) ∙ ap (λ (k : ℕ). k + 1) (sym nodes_told))

      pub heads_front : (take header.arcs heads' ≡ plan_heads plan) × (header.arcs ≤ length heads')
      heads_front = front (plan_heads plan) heads header.arcs read_told.heads_after (R.heads_count ∙ sym count_told)

      pub costs_front : (take header.arcs costs' ≡ plan_costs plan) × (header.arcs ≤ length costs')
      costs_front = front (plan_costs plan) costs header.arcs read_told.costs_after (R.costs_count ∙ sym count_told)

      pub holds_front : (take header.nodes holds' ≡ plan_holds plan) × (header.nodes ≤ length holds')
      holds_front = front (plan_holds plan) holds header.nodes read_told.holds_after (R.valid.sound.holds_length ∙ sym nodes_told)

      -- what a run is given is what the file tells
      pub inputs_told : inputs header.nodes header.ceiling header.source.0 (take (header.nodes + 1) starts') (take header.arcs heads') (take header.arcs costs') (take header.nodes holds') ≡ plan_run plan
      inputs_told = rw (starts_front.0, heads_front.0, costs_front.0, holds_front.0, nodes_told, ceiling_told, source_told) refl
