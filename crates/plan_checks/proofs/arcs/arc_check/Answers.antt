-- The tests are made in order.
use borrow.Author.Tests.{lt-leb, le-leb, lt-ltb, le-ltb}
use Rattle.check_numbers.specs.Numbers.{fault_if}
use Rattle.checks.specs.Checks.{first_fault}
use Rattle.plan_checks.specs.Checking.{arc_checks}
use Rattle.plan_checks.proofs.arcs.arc_check.Goals as goal

pub returns-then-tail-before : goal.returns-then-tail-before
unfolding arc_checks fault_if first_fault
returns-then-tail-before c = rw c.if-tail-before.true

pub returns-then-head-n : goal.returns-then-head-n
unfolding arc_checks fault_if first_fault
returns-then-head-n c = rw (c.if-tail-before.false, le-leb _ _ c.if-head-n.true)

pub returns-then-cost-ceiling : goal.returns-then-cost-ceiling
unfolding arc_checks fault_if first_fault
returns-then-cost-ceiling c = rw (c.if-tail-before.false, lt-leb _ _ c.if-head-n.false, lt-ltb _ _ c.if-cost-ceiling.true)

pub returns : goal.returns
unfolding arc_checks fault_if first_fault
returns c = rw (c.if-tail-before.false, lt-leb _ _ c.if-head-n.false, le-ltb _ _ c.if-cost-ceiling.false)
