-- What the lines of holds that pass their checks show. Assumes nothing.
use mathlib.Core.Path.{◌≡◌, refl, ap}
use mathlib.Core.List.{List, [], ◌∷◌}
use Prim.Native.Nat.{ℕ, zero, suc, ◌+◌, ◌≤◌}
use native.Mathlib.Omega.{arith}
use lib.ListN.{length, drop}
use borrow.Author.Tests.{ltb-false}
use Rattle.std.specs.Prelude.{Ok, Err, Option, None, Some}
use Rattle.model.specs.Answers.{fault_of}
use Rattle.model.specs.declared.Kind.TheVariants.{PlanLine}
use Rattle.check_lists.specs.Lists.{NoneAbove}
use Rattle.checks.proofs.Order.{AllPass, none, more, passed_all}
use Rattle.checks.proofs.Sizes.{passed_test}
use Rattle.plan_lines.specs.declared.HoldLine.{HoldLine}
use Rattle.plan_lines.specs.Lines.{hold_line}
use Rattle.plan_lines.specs.Told.{lines_holds}
use Rattle.plan_lines.proofs.Counted.{holds_next}
use Rattle.plan_checks.specs.Checking.{hold_check, hold_lines_check}

-- ---- one line

record HoldShown (C m left v : ℕ) (bytes : List ℕ) (hold taken : ℕ) : Type 0 where
  hold_most : hold ≤ C
  behind : hold_lines_check C m left (suc v) (drop taken bytes) ≡ Ok tt

module _ (C m left v : ℕ) (bytes : List ℕ) (passed : hold_lines_check C m (suc left) v bytes ≡ Ok tt) where
  line_there : hold_line bytes ≡ None → ⊥
  unfolding hold_lines_check
  line_there e =
      let fault : Err (fault_of PlanLine (m + v + 2)) ≡ Ok tt = rw e at passed in
      let z : ◌≡◌ {A = ℕ} 0 1 = cc in
      omega arith

  hold_shown : {hold taken : ℕ} → hold_line bytes ≡ Some (record { hold = hold; taken = taken }) → HoldShown C m left v bytes hold taken
  unfolding hold_lines_check
  hold_shown {hold} {taken} e = go (passed_all _ (rw e at passed))
    where
      go : AllPass (hold_check C v hold ∷ hold_lines_check C m left (suc v) (drop taken bytes) ∷ []) → HoldShown C m left v bytes hold taken
      go (more h (more rest none)) = record { hold_most = ltb-false C hold (passed_test _ v _ h); behind = rest }

-- ---- all lines

pub record HoldsShown (C left : ℕ) (holds : List ℕ) : Type 0 where
  pub count : length holds ≡ left
  pub most : NoneAbove C holds

none_above_more : (C hold : ℕ) (holds : List ℕ) → hold ≤ C → NoneAbove C holds → NoneAbove C (hold ∷ holds)
none_above_more C hold holds h most zero l = h
none_above_more C hold holds h most (suc i) l = most i (omega arith)

pub holds_shown : (C m left v : ℕ) (bytes : List ℕ) → hold_lines_check C m left v bytes ≡ Ok tt → HoldsShown C left (lines_holds left bytes)
unfolding lines_holds
holds_shown C m zero v bytes passed = record { count = refl; most = λ i l. absurd (omega arith) }
holds_shown C m (suc left) v bytes passed = go (hold_line bytes) refl (λ at. holds_shown C m left (suc v) (drop at bytes))
  where
    go : (line : Option HoldLine) → hold_line bytes ≡ line
        → ((at : ℕ) → hold_lines_check C m left (suc v) (drop at bytes) ≡ Ok tt → HoldsShown C left (lines_holds left (drop at bytes)))
        → HoldsShown C (suc left) (lines_holds (suc left) bytes)
    go None e rest = absurd (line_there C m left v bytes passed e)
    go (Some line) e rest =
        let shown = hold_shown C m left v bytes passed e in
        let behind = rest line.taken shown.behind in
        rw (holds_next left bytes e)
        (record { count = ap suc behind.count; most = none_above_more C line.hold (lines_holds left (drop line.taken bytes)) shown.hold_most behind.most })
