use Rattle.destination_checks.proofs.Heads.{FromArc}
use Rattle.destination_checks.proofs.least_head_sum.Given as goal

abbrev pub invariant-loop-arc : goal.invariant-loop-arc
invariant-loop-arc l = FromArc l.ceiling l.heads l.costs l.holds l.arc
