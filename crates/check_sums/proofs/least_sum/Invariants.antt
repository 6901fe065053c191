-- `check_sums::least_sum` meets its contract: the arcs of the nodes that are left decide.
use Prim.Native.Nat.{◌-◌}
use Rattle.check_sums.proofs.Sums.{FromNode}
use Rattle.check_sums.proofs.least_sum.Given as goal

abbrev pub invariant-loop-v : goal.invariant-loop-v
invariant-loop-v l = FromNode l.n l.ceiling l.starts l.costs l.holds l.v
