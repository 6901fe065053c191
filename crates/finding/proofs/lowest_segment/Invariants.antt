-- `finding::lowest_segment` meets its contract.
use Prim.Native.Nat.{◌-◌}
use Rattle.finding.proofs.Finding.{Past}
use Rattle.finding.proofs.lowest_segment.Given as goal

abbrev pub invariant-loop-segment : goal.invariant-loop-segment
invariant-loop-segment l = Past l.n l.slots l.segments l.words l.bucket l.segment

abbrev pub decreases-loop-segment : goal.decreases-loop-segment
decreases-loop-segment l = l.segments - l.segment
