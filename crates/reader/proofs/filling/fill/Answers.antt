-- Each line was checked, and adds one arc to what the lists hold.
use mathlib.Core.Path.{sym, ◌∙◌}
use native.Mathlib.Omega.{arith}
use Rattle.plan_lines.proofs.Reach.{next_within, reached_end}
use Rattle.plan_lines.proofs.Fields.{arc_line_lem}
use Rattle.reader.proofs.Progress.{progress_start, progress_next, progress_end, line_read, shown, next_not_past, starts_same_length, heads_same_length, costs_same_length}
use Rattle.reader.proofs.filling.fill.Goals as goal

pub overflow_cast-end : goal.overflow_cast-end
overflow_cast-end c =
    omega (arith, (shown c.loop-i.invariant c.loop-i-test.true (sym c.in-Some.ensures)).tail_node)

pub overflow_add-end : goal.overflow_add-end
overflow_add-end c =
    omega (arith, (shown c.loop-i.invariant c.loop-i-test.true (sym c.in-Some.ensures)).tail_node)

pub fill_between-requires : goal.fill_between-requires
fill_between-requires c =
    let tail_fits = (shown c.loop-i.invariant c.loop-i-test.true (sym c.in-Some.ensures)).tail_node in
    let p = c.loop-i.invariant in
    (next_not_past p c.loop-i-test.true (sym c.in-Some.ensures), omega (arith, tail_fits, starts_same_length p, p.given.starts_fit))

pub overflow_add-line : goal.overflow_add-line
overflow_add-line c =
    omega (arith, next_within c.args.bytes.now c.loop-i.line c.loop-i.invariant.reached.within (arc_line_lem _ (sym c.in-Some.ensures)))

pub loop-i-preserved : goal.loop-i-preserved
loop-i-preserved c =
    rw c.fill_between.ensures (progress_next c.loop-i.invariant c.loop-i-test.true (sym c.in-Some.ensures))

pub fill_between-requires-2 : goal.fill_between-requires-2
fill_between-requires-2 c =
    let p = c.loop-i.invariant in
    (omega (arith, p.next_fits), omega (arith, starts_same_length p, p.given.starts_fit))

pub shape_of-starts : goal.shape_of-starts
shape_of-starts c = c.fill_between-2.auto.words ∙ starts_same_length c.loop-i.invariant

pub returns : goal.returns
returns c =
    let p = c.loop-i.invariant in
    let all = c.loop-i-test.false in
    record { behind = reached_end p.reached all; lists = rw c.fill_between-2.ensures (progress_end p all) }

pub loop-i-init : goal.loop-i-init
loop-i-init c = progress_start c.requires

pub arc_line_at-requires : goal.arc_line_at-requires
arc_line_at-requires c = c.loop-i.invariant.reached.within

pub shape_of-starts-in_default : goal.shape_of-starts-in_default
shape_of-starts-in_default c =
    absurd (line_read c.loop-i.invariant c.loop-i-test.true (sym c.in_default.ensures))

pub shape_of-heads-in_default : goal.shape_of-heads-in_default
shape_of-heads-in_default c =
    absurd (line_read c.loop-i.invariant c.loop-i-test.true (sym c.in_default.ensures))

pub shape_of-costs-in_default : goal.shape_of-costs-in_default
shape_of-costs-in_default c =
    absurd (line_read c.loop-i.invariant c.loop-i-test.true (sym c.in_default.ensures))

pub returns-in_default : goal.returns-in_default
returns-in_default c =
    absurd (line_read c.loop-i.invariant c.loop-i-test.true (sym c.in_default.ensures))

pub overflow_cast-i : goal.overflow_cast-i
overflow_cast-i c = omega (arith, c.loop-i-test.true)

pub offset_bounds-heads-i : goal.offset_bounds-heads-i
offset_bounds-heads-i c = omega (arith, c.loop-i-test.true)

pub bounds-heads-i : goal.bounds-heads-i
bounds-heads-i c =
    let p = c.loop-i.invariant in omega (arith, c.loop-i-test.true, heads_same_length p, p.given.heads_fit)

pub offset_bounds-costs-i : goal.offset_bounds-costs-i
offset_bounds-costs-i c = omega (arith, c.loop-i-test.true)

pub bounds-costs-i : goal.bounds-costs-i
bounds-costs-i c =
    let p = c.loop-i.invariant in omega (arith, c.loop-i-test.true, costs_same_length p, p.given.costs_fit)

pub shape_of-heads : goal.shape_of-heads
shape_of-heads c = heads_same_length c.loop-i.invariant

pub shape_of-costs : goal.shape_of-costs
shape_of-costs c = costs_same_length c.loop-i.invariant
