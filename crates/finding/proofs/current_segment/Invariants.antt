-- `finding::current_segment` meets its contract: the segments passed end below the key.
use Prim.Native.Nat.{◌+◌, ◌-◌, ◌≤◌}
use Rattle.finding.proofs.current_segment.Given as goal

abbrev pub invariant-loop-tested : goal.invariant-loop-tested
invariant-loop-tested l = l.tested + (l.bound - l.front) ≤ l.segments

abbrev pub decreases-loop-tested : goal.decreases-loop-tested
decreases-loop-tested l = l.segments - l.tested
