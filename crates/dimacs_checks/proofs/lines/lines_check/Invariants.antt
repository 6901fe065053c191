use Prim.Native.Nat.{◌-◌}
use lib.ListN.{length}
use Rattle.dimacs_checks.proofs.Passing.{Checked}
use Rattle.dimacs_checks.proofs.lines.lines_check.Given as goal

abbrev pub invariant-loop-at : goal.invariant-loop-at
invariant-loop-at l = Checked l.n l.arcs l.ceiling l.bytes l.from l.before l.at l.line l.read

abbrev pub decreases-loop-at : goal.decreases-loop-at
decreases-loop-at l = length l.bytes - l.at
