use borrow.Author.Tests.{lt-ltb, le-ltb}
use Rattle.check_numbers.specs.Numbers.{fault_if}
use Rattle.dimacs_checks.proofs.lines.end_check.Goals as goal

pub returns-then-read-arcs : goal.returns-then-read-arcs
unfolding fault_if
returns-then-read-arcs c = rw (lt-ltb _ _ c.if-read-arcs.true)

pub returns-else-read-arcs : goal.returns-else-read-arcs
unfolding fault_if
returns-else-read-arcs c = rw (le-ltb _ _ c.if-read-arcs.false)
