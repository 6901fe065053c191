-- `dimacs_checks::lines::line_check` meets its contract, by the kinds of line.
use mathlib.Core.Path.{◌∙◌}
use borrow.Author.Tests.{le-leb, lt-leb}
use Rattle.check_numbers.specs.Numbers.{fault_if}
use Rattle.checks.specs.Checks.{first_fault}
use Rattle.dimacs_checks.proofs.lines.line_check.Goals as goal

pub returns-then-read-arcs : goal.returns-then-read-arcs
unfolding fault_if first_fault
returns-then-read-arcs c = rw (c.in-RoadArc.is, le-leb _ _ c.if-read-arcs.true)

pub returns-else-read-arcs : goal.returns-else-read-arcs
unfolding fault_if first_fault
returns-else-read-arcs c = c.arc_check.ensures ∙ rw (c.in-RoadArc.is, lt-leb _ _ c.if-read-arcs.false)

pub returns-in-Problem : goal.returns-in-Problem
returns-in-Problem c = rw c.in-Problem.is
