use Prim.Native.Nat.{◌-◌}
use Rattle.walk.proofs.Tails.{Within}
use Rattle.walk.proofs.tail_of.Given as goal

abbrev pub invariant-loop-low : goal.invariant-loop-low
invariant-loop-low l = Within l.n l.starts l.arc.0 l.low l.high

abbrev pub decreases-loop-low : goal.decreases-loop-low
decreases-loop-low l = l.high - l.low
