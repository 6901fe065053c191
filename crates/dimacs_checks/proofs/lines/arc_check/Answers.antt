-- `dimacs_checks::lines::arc_check` meets its contract: the tests are made in order.
use borrow.Author.Tests.{lt-ltb, le-ltb}
use Rattle.check_numbers.specs.Numbers.{fault_if}
use Rattle.checks.specs.Checks.{first_fault}
use Rattle.dimacs_checks.specs.Checking.{road_arc_checks}
use Rattle.dimacs_checks.proofs.lines.arc_check.Goals as goal

pub returns-then-tail-n : goal.returns-then-tail-n
unfolding road_arc_checks fault_if first_fault
returns-then-tail-n c = rw c.if-tail-n.true

pub returns-then-head-n : goal.returns-then-head-n
unfolding road_arc_checks fault_if first_fault
returns-then-head-n c = rw (c.if-tail-n.false, c.if-head-n.true)

pub returns-then-cost-ceiling : goal.returns-then-cost-ceiling
unfolding road_arc_checks fault_if first_fault
returns-then-cost-ceiling c = rw (c.if-tail-n.false, c.if-head-n.false, lt-ltb _ _ c.if-cost-ceiling.true)

pub returns : goal.returns
unfolding road_arc_checks fault_if first_fault
returns c = rw (c.if-tail-n.false, c.if-head-n.false, le-ltb _ _ c.if-cost-ceiling.false)
