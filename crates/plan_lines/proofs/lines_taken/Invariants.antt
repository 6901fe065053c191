-- Each line takes its bytes, and an ill-formed one ends them.
use Rattle.plan_lines.proofs.Reach.{Reached}
use Rattle.plan_lines.proofs.lines_taken.Given as goal

abbrev pub invariant-loop : goal.invariant-loop
invariant-loop l = Reached l.width l.count l.bytes l.at l.line l.counter
