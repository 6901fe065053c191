-- The lines behind line 1 as a whole: what their parts come to, in order. Assumes nothing.
use mathlib.Core.Bool.{Bool, true, false}
use mathlib.Core.Path.{◌≡◌, refl, sym, ◌∙◌, ap}
use mathlib.Core.List.{List, [], ◌∷◌}
use Prim.Native.Nat.{ℕ, zero, suc, ◌+◌, ◌-◌, ◌≤◌, ◌<◌}
use native.Mathlib.Nat.{add-zero}
use native.Mathlib.Omega.{arith}
use lib.ListN.{length, get_or, drop, length-map, length-drop}
use lib.Seq.{drop-drop}
use Rattle.model.specs.Answers.{Check}
use Rattle.std.specs.Prelude.{Result, Ok, Err}
use Rattle.model.specs.declared.Fault.{Fault}
use Rattle.theory.proofs.Cases.{differ}
use Rattle.check_lists.specs.Lists.{NoneFalls}
use Rattle.checks.specs.Checks.{first_fault}
use Rattle.checks.proofs.Order.{Made}
use Rattle.grouping.specs.Arcs.{PlanArc, tail_key}
use Rattle.grouping.proofs.Order.{Rising, more}
use Rattle.plan_lines.specs.Told.{lines_taken, behind_lines, behind_arcs, lines_arcs, lines_holds, node_holds}
use Rattle.plan_lines.proofs.Reach.{taken_within}
use Rattle.plan_sums.specs.Sums.{arc_tails, arc_sums_check, SumLines}
use Rattle.plan_sums.proofs.Passed.{zeros_passed}
use Rattle.plan_checks.specs.Checking.{line_of, left_over_check, arcs_check, hold_lines_check, behind_checks, lines_checks, lines_end_of, ArcsPassed}
use Rattle.plan_checks.proofs.Shown.{arcs_shown}
use Rattle.plan_checks.proofs.Held.{holds_shown}

-- ---- what lines have come to

pub end_stopped : (check : Check) (behind : ℕ) {found : Result ℕ Fault} {fault : Fault} → found ≡ lines_end_of check behind → found ≡ Err fault
    → check ≡ Err fault
end_stopped (Ok tt) behind e f = differ (cc)
end_stopped (Err fault) behind e f = let same : lines_end_of (Err fault) behind ≡ Err _ = sym e ∙ f in cc

end_passed : (check : Check) (behind : ℕ) {found : Result ℕ Fault} {at : ℕ} → found ≡ lines_end_of check behind → found ≡ Ok at
    → (check ≡ Ok tt) × (at ≡ behind)
end_passed (Ok tt) behind {found} {at} e f = let same : at ≡ behind = cc in (refl, same)
end_passed (Err fault) behind e f = differ (cc)

-- Lines that have passed, and the place behind them.
pub record LinesEnd (check : Check) (width count : ℕ) (bytes : List ℕ) (at behind : ℕ) : Type 0 where
  pub passed : check ≡ Ok tt
  pub place : behind ≡ at + lines_taken width count (drop at bytes)
  pub within : behind ≤ length bytes

pub lines_end : (check : Check) (width count : ℕ) (bytes : List ℕ) (at : ℕ) {found : Result ℕ Fault} {behind : ℕ} → at ≤ length bytes
    → found ≡ lines_end_of check (at + lines_taken width count (drop at bytes)) → found ≡ Ok behind → LinesEnd check width count bytes at behind
lines_end check width count bytes at within e f =
    let ended = end_passed check _ e f in
    record {
      passed = ended.0;
      place = ended.1;
      within = omega (arith, ended.1, taken_within width count (drop at bytes), length-drop at bytes, within);
    }

-- ---- the order

-- the first check fails, or those behind it decide
fails_first : (check : Check) (rest : List Check) {fault : Fault} → check ≡ Err fault → Err fault ≡ first_fault (check ∷ rest)
unfolding first_fault
fails_first check rest e = rw e

decides : (check : Check) (rest : List Check) {found : Check} → check ≡ Ok tt → found ≡ first_fault rest → found ≡ first_fault (check ∷ rest)
unfolding first_fault
decides check rest e f = rw e f

last_passed : (check last : Check) → last ≡ Ok tt → check ≡ first_fault (check ∷ last ∷ [])
unfolding first_fault
last_passed (Ok tt) last e = rw e
last_passed (Err fault) last e = refl

module _ (n m C : ℕ) (held : Bool) (bytes : List ℕ) (at : ℕ) where
  abbrev lines : List ℕ
  lines = drop at bytes

  pub arcs_stopped : {fault : Fault} → arcs_check n C m 0 0 lines ≡ Err fault → Err fault ≡ first_fault (lines_checks n m C held lines)
  unfolding lines_checks
  arcs_stopped e = fails_first _ _ e

  module _ {behind : ℕ} (ended : LinesEnd (arcs_check n C m 0 0 lines) 3 m bytes at behind) where
    same_bytes : drop behind bytes ≡ behind_arcs m lines
    same_bytes = ap (λ (i : ℕ). drop i bytes) ended.place ∙ sym (drop-drop (lines_taken 3 m lines) at bytes)

    -- no holds are told, so no sum is above C
    sums_pass : arc_sums_check C (lines_arcs m lines) (node_holds false n (behind_arcs m lines)) ≡ Ok tt
    sums_pass = zeros_passed n C (lines_arcs m lines) (arcs_shown n C m 0 0 lines ended.passed).ranged

    pub plain_end : {found : Check} → held ≡ false → found ≡ left_over_check (m + 2) (drop behind bytes) → found ≡ first_fault (lines_checks n m C held lines)
    unfolding lines_checks behind_checks lines_taken hold_lines_check
    plain_end plain e =
        let over : _ ≡ left_over_check (m + 0 + 2) (behind_arcs m lines) = e ∙ rw (same_bytes, add-zero m) refl in
        rw plain
        (decides (arcs_check n C m 0 0 lines) _ ended.passed
        (decides (Ok tt) _ refl (over ∙ last_passed (left_over_check (m + 0 + 2) (behind_arcs m lines)) _ sums_pass)))

    -- holds are told
    pub held_end : {found : Check} → held ≡ true → found ≡ first_fault (behind_checks n m C true (lines_arcs m lines) (drop behind bytes))
        → found ≡ first_fault (lines_checks n m C held lines)
    unfolding lines_checks behind_checks
    held_end told e =
        rw told
        (decides (arcs_check n C m 0 0 lines) (behind_checks n m C true (lines_arcs m lines) (behind_arcs m lines)) ended.passed (e ∙ rw same_bytes refl))

-- ---- the sums may be looked at

rises : {n before : ℕ} (arcs : List PlanArc) → Rising tail_key n before arcs → (a : ℕ) → a < length arcs
    → (get_or (arc_tails arcs) a 0 < n) × (before ≤ get_or (arc_tails arcs) a 0)
rises [] r a l = absurd (omega arith)
rises (arc ∷ arcs) (more low node rest) zero l = (node, low)
rises (arc ∷ arcs) (more low node rest) (suc a) l = let later = rises arcs rest a (omega arith) in (later.0, omega (arith, later.1))

none_falls : {n before : ℕ} (arcs : List PlanArc) → Rising tail_key n before arcs → NoneFalls (arc_tails arcs)
none_falls [] r i l some = absurd (omega arith)
none_falls (arc ∷ arcs) r zero l some = absurd (omega arith)
none_falls (arc ∷ arcs) (more low node rest) (suc zero) l some = (rises arcs rest 0 (omega (arith, length-map arcs tail_key))).1
none_falls (arc ∷ arcs) (more low node rest) (suc (suc i)) l some =
    let one_less : suc (suc i) - 1 ≡ suc i = omega arith in
    let before : suc i - 1 ≡ i = omega arith in
    rw one_less (rw before at (none_falls arcs rest (suc i) (omega arith) (omega arith)))

module _ {n m C : ℕ} {bytes : List ℕ} {at holds_at : ℕ} (a : ArcsPassed n m C bytes at holds_at) where
  abbrev told : List ℕ
  told = drop holds_at bytes

  abbrev arcs : List PlanArc
  arcs = lines_arcs m (drop at bytes)

  pub holds_stopped : {fault : Fault} → hold_lines_check C m n 0 told ≡ Err fault → Err fault ≡ first_fault (behind_checks n m C true arcs told)
  unfolding behind_checks
  holds_stopped e = fails_first _ _ e

  module _ {behind : ℕ} (ended : LinesEnd (hold_lines_check C m n 0 told) 1 n bytes holds_at behind) where
    pub sum_lines : SumLines n m C bytes at holds_at
    sum_lines =
        let shown = arcs_shown n C m 0 0 (drop at bytes) a.passed in
        let held = holds_shown C m n 0 told ended.passed in
        record {
          within = a.within;
          holds_within = a.behind_within;
          arcs_count = shown.count;
          tails_rise = none_falls arcs shown.rising;
          tails_nodes = λ i l. (rises arcs shown.rising i (omega (arith, shown.count))).0;
          holds_count = held.count;
          holds_most = held.most;
        }

    over_same : left_over_check (m + n + 2) (drop behind bytes) ≡ left_over_check (line_of (m + n)) (behind_lines 1 n told)
    over_same = ap (λ (rest : List ℕ). left_over_check (m + n + 2) rest)
        (ap (λ (i : ℕ). drop i bytes) ended.place ∙ sym (drop-drop (lines_taken 1 n told) holds_at bytes))

    pub told_end : {found : Check}
        → Made (left_over_check (m + n + 2) (drop behind bytes) ∷ arc_sums_check C arcs (lines_holds n told) ∷ []) found
        → found ≡ first_fault (behind_checks n m C true arcs told)
    unfolding behind_checks
    told_end made = decides (hold_lines_check C m n 0 told) _ ended.passed (made.is ∙ rw over_same refl)
