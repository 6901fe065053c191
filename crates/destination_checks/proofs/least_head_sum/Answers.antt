-- `destination_checks::least_head_sum` meets its contract: the arcs that are left decide.
use native.Mathlib.Omega.{arith}
use borrow.Author.Rules.{rules}
use Rattle.destination_checks.proofs.Heads.{from_first_arc, no_arc_left, head_held, head_hold_most, arc_above, arc_within}
use Rattle.destination_checks.proofs.least_head_sum.Goals as goal

pub bounds-heads-arc : goal.bounds-heads-arc
bounds-heads-arc c = omega (arith, c.requires.paired)

pub overflow_cast-head : goal.overflow_cast-head
overflow_cast-head c = omega (arith, head_held c.requires c.loop-arc.arc (search rules))

pub offset_bounds-holds-head : goal.offset_bounds-holds-head
offset_bounds-holds-head c = omega (arith, head_held c.requires c.loop-arc.arc (search rules))

pub bounds-holds-head : goal.bounds-holds-head
bounds-holds-head c = head_held c.requires c.loop-arc.arc (search rules)

pub overflow_sub-rest : goal.overflow_sub-rest
overflow_sub-rest c = omega (arith, head_hold_most c.requires c.loop-arc.arc (search rules))

pub returns-then-costs-arc : goal.returns-then-costs-arc
returns-then-costs-arc c = arc_above c.requires c.loop-arc.arc (search rules) c.if-costs-arc.true c.loop-arc.invariant

pub loop-arc-preserved : goal.loop-arc-preserved
loop-arc-preserved c = arc_within c.requires c.loop-arc.arc (search rules) c.if-costs-arc.false c.loop-arc.invariant

pub returns : goal.returns
returns c = no_arc_left c.requires c.loop-arc.arc (search rules) c.loop-arc.invariant

pub loop-arc-init : goal.loop-arc-init
loop-arc-init c = from_first_arc c.requires
