-- Every line it asks for is there, and the arcs left decide.
use Rattle.plan_sums.proofs.Summing.{Summing}
use Rattle.plan_sums.proofs.arc_sums_check.Given as goal

abbrev pub invariant-loop-i : goal.invariant-loop-i
invariant-loop-i l = Summing l.n l.arcs l.ceiling l.bytes l.at l.behind l.line l.hold_line l.node l.i
