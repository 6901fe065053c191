-- Every line it asks for is there, and the arcs left decide.
use mathlib.Core.Path.{sym}
use native.Mathlib.Omega.{arith}
use Rattle.plan_lines.proofs.Reach.{next_within}
use Rattle.plan_lines.proofs.Fields.{arc_line_lem}
use Rattle.plan_sums.proofs.Summing.{summing_start, summing_next, summing_end, arc_missing, tail_low, place_within, hold_missing, hold_most, sum_above}
use Rattle.plan_sums.proofs.arc_sums_check.Goals as goal

pub overflow_sub-tail : goal.overflow_sub-tail
overflow_sub-tail c =
    omega (arith, tail_low c.loop-i.invariant c.loop-i-test.true (sym c.in-Some.ensures))

pub lines_taken-hold_line-requires : goal.lines_taken-hold_line-requires
lines_taken-hold_line-requires c = (c.loop-i.invariant.hold_within, (omega arith, omega arith))

pub overflow_sub-ceiling : goal.overflow_sub-ceiling
overflow_sub-ceiling c =
    hold_most c.loop-i.invariant c.loop-i-test.true (sym c.in-Some.ensures) c.lines_taken-hold_line.ensures (sym c.in-Some-hold_line_at.ensures)

pub returns-then-cost-ceiling : goal.returns-then-cost-ceiling
returns-then-cost-ceiling c =
    sum_above c.loop-i.invariant c.loop-i-test.true (sym c.in-Some.ensures) c.lines_taken-hold_line.ensures (sym c.in-Some-hold_line_at.ensures) c.if-cost-ceiling.true

pub overflow_add-line : goal.overflow_add-line
overflow_add-line c =
    omega (arith, next_within c.args.bytes.now c.loop-i.line c.loop-i.invariant.within (arc_line_lem _ (sym c.in-Some.ensures)))

pub loop-i-preserved : goal.loop-i-preserved
loop-i-preserved c =
    summing_next c.loop-i.invariant c.loop-i-test.true (sym c.in-Some.ensures) c.lines_taken-hold_line.ensures (sym c.in-Some-hold_line_at.ensures) c.if-cost-ceiling.false

pub returns : goal.returns
returns c = summing_end c.loop-i.invariant c.loop-i-test.false

pub loop-i-init : goal.loop-i-init
loop-i-init c = summing_start c.requires

pub arc_line_at-requires : goal.arc_line_at-requires
arc_line_at-requires c = c.loop-i.invariant.within

pub returns-in_default : goal.returns-in_default
returns-in_default c =
    absurd (arc_missing c.loop-i.invariant c.loop-i-test.true (sym c.in_default.ensures))

pub overflow_add-hold_line : goal.overflow_add-hold_line
overflow_add-hold_line c =
    omega (arith, place_within c.loop-i.invariant c.loop-i-test.true (sym c.in-Some.ensures) c.lines_taken-hold_line.ensures)

pub hold_line_at-requires : goal.hold_line_at-requires
hold_line_at-requires c =
    place_within c.loop-i.invariant c.loop-i-test.true (sym c.in-Some.ensures) c.lines_taken-hold_line.ensures

pub returns-in_default-hold_line_at : goal.returns-in_default-hold_line_at
returns-in_default-hold_line_at c =
    absurd (hold_missing c.loop-i.invariant c.loop-i-test.true (sym c.in-Some.ensures) c.lines_taken-hold_line.ensures
    (sym c.in_default-hold_line_at.ensures))
