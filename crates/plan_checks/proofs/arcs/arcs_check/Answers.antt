-- What is left to check is that of the lines behind.
use mathlib.Core.Path.{◌≡◌, sym, ◌∙◌}
use native.Mathlib.Omega.{arith}
use borrow.Author.Rules.{rules}
use Rattle.std.specs.Prelude.{Err}
use Rattle.plan_lines.proofs.Reach.{next_within}
use Rattle.plan_lines.proofs.Fields.{arc_line_lem}
use Rattle.plan_checks.proofs.Passing.{checked_start, checked_next, checked_end, line_missing, arc_fails_lem}
use Rattle.plan_checks.proofs.arcs.arcs_check.Goals as goal

pub returns-in_default : goal.returns-in_default
returns-in_default c = line_missing c.loop-i.invariant c.loop-i-test.true (sym c.in_default.ensures)

pub returns-in_err-arc_check : goal.returns-in_err-arc_check
returns-in_err-arc_check c =
    let same : c.from_residual.result ≡ Err c.in_err-arc_check.field-0.0 = search rules in
    same ∙ arc_fails_lem c.loop-i.invariant c.loop-i-test.true (sym c.in-Some.ensures) (sym c.in_err-arc_check.was ∙ c.arc_check.ensures)

pub overflow_add-line : goal.overflow_add-line
overflow_add-line c =
    omega (arith, next_within c.args.bytes.now c.loop-i.line c.loop-i.invariant.reached.within (arc_line_lem _ (sym c.in-Some.ensures)))

pub loop-i-preserved : goal.loop-i-preserved
loop-i-preserved c =
    checked_next c.loop-i.invariant c.loop-i-test.true (sym c.in-Some.ensures) (sym c.arc_check.ensures ∙ c.in_ok-arc_check.was)

pub returns : goal.returns
returns c = checked_end c.loop-i.invariant c.loop-i-test.false

pub loop-i-init : goal.loop-i-init
loop-i-init c = checked_start _ _ _ _ _ c.requires

pub arc_line_at-requires : goal.arc_line_at-requires
arc_line_at-requires c = c.loop-i.invariant.reached.within
