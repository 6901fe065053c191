-- What the reader promises, from what its two passes give. Assumes nothing.
use mathlib.Core.Bool.{Bool}
use mathlib.Core.Path.{◌≡◌, refl}
use mathlib.Core.List.{List, ◌++◌}
use Prim.Native.Nat.{ℕ, ◌+◌, ◌≤◌}
use native.Mathlib.Omega.{arith}
use lib.ListN.{length, drop, length-drop}
use lib.Seq.{drop-drop}
use Rattle.model.specs.Answers.{Check, words_after}
use Rattle.std.specs.Prelude.{Ok, Err, Option, Some}
use Rattle.model.specs.declared.Fault.{Fault}
use Rattle.model.specs.declared.Node.{Node}
use Rattle.checks.specs.Checks.{first_fault}
use Rattle.grouping.specs.Filled.{Filled}
use Rattle.plan_lines.specs.declared.HeaderLine.{HeaderLine}
use Rattle.plan_lines.specs.Lines.{header_line}
use Rattle.plan_lines.specs.Told.{lines_taken, behind_arcs, lines_arcs, node_holds}
use Rattle.plan_lines.proofs.Reach.{taken_within}
use Rattle.plan_checks.specs.Checking.{lines_checks, header_checks, plan_check}
use Rattle.reader.specs.Plans.{Plan}
use Rattle.reader.specs.Promise.{PlanAnswer, plan_header, PlanAnswered, HeaderAnswered, PlanPromised}
use Rattle.reader.specs.Filling.{Fillable, HoldsFillable}
use Rattle.reader.proofs.Passed.{file_passed}

pub refused_answered : {check : Check} {plan : Plan} {starts heads costs holds : List ℕ} {fault : Fault} → check ≡ Err fault
    → PlanAnswered check plan starts heads costs holds starts heads costs holds (Err fault)
refused_answered e = rw e (record {
  answered = refl;
  starts_after = refl;
  heads_after = refl;
  costs_after = refl;
  holds_after = refl;
})

-- the line that is answered is line 1 of the bytes
pub file_answered : (bytes starts heads costs holds : List ℕ) {line : Option HeaderLine} {starts' heads' costs' holds' : List ℕ} {answer : PlanAnswer}
    → header_line bytes ≡ line → HeaderAnswered line bytes starts heads costs holds starts' heads' costs' holds' answer
    → PlanPromised bytes starts heads costs holds starts' heads' costs' holds' answer
unfolding plan_check
file_answered bytes starts heads costs holds e A = rw e A

-- ---- a file that passes its checks

module _ (n m C K : ℕ) (held : Bool) (at : ℕ) (source : Node) (bytes starts heads costs holds : List ℕ) where
  -- What the second pass is given: the arcs' lists, and the list of holds from the place behind the arcs' lines on.
  pub record PlanFillable : Type 0 where
    pub arcs : Fillable n m bytes at starts heads costs
    pub holds_behind : {behind : ℕ} → behind ≡ at + lines_taken 3 m (drop at bytes) → HoldsFillable n held bytes behind holds

  place : {behind : ℕ} → behind ≡ at + lines_taken 3 m (drop at bytes) → behind_arcs m (drop at bytes) ≡ drop behind bytes
  place so = rw so (drop-drop (lines_taken 3 m (drop at bytes)) at bytes)

  -- The checks of a file whose line 1 has these numbers.
  abbrev checks : List Check
  checks =
      header_checks n m C source.0 K (length starts) (length heads) (length costs) (length holds) ++ lines_checks n m C held (drop at bytes)

  pub fillable : at ≤ length bytes → first_fault checks ≡ Ok tt → PlanFillable
  fillable within passed =
      let p = file_passed n m C source.0 K held (drop at bytes) (length starts) (length heads) (length costs) (length holds) passed in
      record {
        arcs = record {
          ceiling = C;
          passed = p.arcs_passed;
          within = within;
          starts_fit = p.starts_fit;
          heads_fit = p.heads_fit;
          costs_fit = p.costs_fit;
        };
        holds_behind = λ {behind} so. record {
          count = rw (place so) at p.held_shown.count;
          within = omega (arith, so, taken_within 3 m (drop at bytes), length-drop at bytes);
          holds_fit = p.holds_fit;
        };
      }

  pub read_answered : {starts' heads' costs' holds' : List ℕ} {behind : ℕ} → first_fault checks ≡ Ok tt
      → Filled n (lines_arcs m (drop at bytes)) starts heads costs starts' heads' costs' → behind ≡ at + lines_taken 3 m (drop at bytes)
      → holds' ≡ words_after (Ok tt) (node_holds held n (drop behind bytes)) holds
      → HeaderAnswered (Some (record { nodes = n; arcs = m; ceiling = C; source = source.0; segments = K; held = held; taken = at })) bytes starts heads costs holds starts' heads' costs' holds' (Ok (plan_header n m C source.0 K))
  read_answered passed f so h =
      rw passed
      (record {
        answered = refl;
        starts_after = f.starts_filled;
        heads_after = f.heads_filled;
        costs_after = f.costs_filled;
        holds_after = rw (place so) h;
      })
