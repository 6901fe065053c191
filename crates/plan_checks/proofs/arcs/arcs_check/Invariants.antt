-- What is left to check is that of the lines behind.
use Rattle.plan_checks.proofs.Passing.{Checked}
use Rattle.plan_checks.proofs.arcs.arcs_check.Given as goal

abbrev pub invariant-loop-i : goal.invariant-loop-i
invariant-loop-i l = Checked l.n l.ceiling l.arcs l.bytes l.at l.line l.i l.before
