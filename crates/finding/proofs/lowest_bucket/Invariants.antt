-- `finding::lowest_bucket` meets its contract.
use Prim.Native.Nat.{◌-◌}
use Rattle.finding.proofs.Finding.{Above}
use Rattle.finding.proofs.lowest_bucket.Given as goal

abbrev pub invariant-loop-bucket : goal.invariant-loop-bucket
invariant-loop-bucket l = Above l.n l.words l.bucket

abbrev pub decreases-loop-bucket : goal.decreases-loop-bucket
decreases-loop-bucket l = 22 - l.bucket
