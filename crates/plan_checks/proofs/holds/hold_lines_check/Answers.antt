-- What is left to check is that of the lines behind.
use mathlib.Core.Path.{sym}
use native.Mathlib.Omega.{arith}
use Rattle.plan_lines.proofs.Reach.{next_within}
use Rattle.plan_lines.proofs.Fields.{hold_line_lem}
use Rattle.plan_checks.proofs.Passing.{lines_start, lines_next, lines_passed, hold_missing, hold_fails}
use Rattle.plan_checks.proofs.holds.hold_lines_check.Goals as goal

pub returns-in_default : goal.returns-in_default
returns-in_default c = hold_missing c.loop-v.invariant c.loop-v-test.true (sym c.in_default.ensures)

pub returns-then-hold-ceiling : goal.returns-then-hold-ceiling
returns-then-hold-ceiling c =
    hold_fails c.loop-v.invariant c.loop-v-test.true (sym c.in-Some.ensures) c.if-hold-ceiling.true

pub overflow_add-line : goal.overflow_add-line
overflow_add-line c =
    omega (arith, next_within c.args.bytes.now c.loop-v.line c.loop-v.invariant.reached.within (hold_line_lem _ (sym c.in-Some.ensures)))

pub loop-v-preserved : goal.loop-v-preserved
loop-v-preserved c =
    lines_next c.loop-v.invariant c.loop-v-test.true (sym c.in-Some.ensures) c.if-hold-ceiling.false

pub returns : goal.returns
returns c = lines_passed c.loop-v.invariant c.loop-v-test.false

pub loop-v-init : goal.loop-v-init
loop-v-init c = lines_start _ _ _ _ _ c.requires

pub hold_line_at-requires : goal.hold_line_at-requires
hold_line_at-requires c = c.loop-v.invariant.reached.within
