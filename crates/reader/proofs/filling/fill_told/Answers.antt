-- Each line was checked, and adds one hold to what the list holds.
use mathlib.Core.Path.{sym}
use native.Mathlib.Omega.{arith}
use Rattle.plan_lines.proofs.Reach.{next_within}
use Rattle.plan_lines.proofs.Fields.{hold_line_lem}
use Rattle.reader.proofs.Holds.{holds_start, hold_read, hold_next, holds_end, holds_same_length}
use Rattle.reader.proofs.filling.fill_told.Goals as goal

pub overflow_add-line : goal.overflow_add-line
overflow_add-line c =
    omega (arith, next_within c.args.bytes.now c.loop-v.line c.loop-v.invariant.reached.within (hold_line_lem _ (sym c.in-Some.ensures)))

pub loop-v-preserved : goal.loop-v-preserved
loop-v-preserved c =
    hold_next c.loop-v.invariant c.loop-v-test.true (sym c.in-Some.ensures)

pub returns : goal.returns
returns c = holds_end c.loop-v.invariant c.loop-v-test.false

pub loop-v-init : goal.loop-v-init
loop-v-init c = holds_start c.requires

pub hold_line_at-requires : goal.hold_line_at-requires
hold_line_at-requires c = c.loop-v.invariant.reached.within

pub shape_of-holds-in_default : goal.shape_of-holds-in_default
shape_of-holds-in_default c =
    absurd (hold_read c.loop-v.invariant c.loop-v-test.true (sym c.in_default.ensures))

pub returns-in_default : goal.returns-in_default
returns-in_default c =
    absurd (hold_read c.loop-v.invariant c.loop-v-test.true (sym c.in_default.ensures))

pub offset_bounds-holds-v : goal.offset_bounds-holds-v
offset_bounds-holds-v c = omega (arith, c.loop-v-test.true)

pub bounds-holds-v : goal.bounds-holds-v
bounds-holds-v c =
    let p = c.loop-v.invariant in omega (arith, c.loop-v-test.true, holds_same_length p, p.given.holds_fit)

pub shape_of-holds : goal.shape_of-holds
shape_of-holds c = holds_same_length c.loop-v.invariant
