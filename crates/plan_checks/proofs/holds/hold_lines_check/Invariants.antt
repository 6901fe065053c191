-- What is left to check is that of the lines behind.
use Rattle.plan_checks.proofs.Passing.{HoldsChecked}
use Rattle.plan_checks.proofs.holds.hold_lines_check.Given as goal

abbrev pub invariant-loop-v : goal.invariant-loop-v
invariant-loop-v l = HoldsChecked l.ceiling l.arcs l.n l.bytes l.at l.line l.v
