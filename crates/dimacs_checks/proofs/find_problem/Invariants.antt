use Prim.Native.Nat.{◌-◌}
use lib.ListN.{length}
use Rattle.dimacs_checks.proofs.Heading.{Searched}
use Rattle.dimacs_checks.proofs.find_problem.Given as goal

abbrev pub invariant-loop-at : goal.invariant-loop-at
invariant-loop-at l = Searched l.bytes l.at l.line

abbrev pub decreases-loop-at : goal.decreases-loop-at
decreases-loop-at l = length l.bytes - l.at
