-- `finding::lowest_bucket` meets its contract.
use Rattle.finding.proofs.Finding.{above_start, above_range, above_next, above_end}
use Rattle.finding.proofs.lowest_bucket.Goals as goal

pub loop-bucket-init : goal.loop-bucket-init
loop-bucket-init c = above_start c.requires

pub is_empty-requires-clause-bucket_nonzero : goal.is_empty-requires-clause-bucket_nonzero
is_empty-requires-clause-bucket_nonzero c = above_range c.requires c.loop-bucket.invariant

pub loop-bucket-preserved : goal.loop-bucket-preserved
loop-bucket-preserved c = (above_next c.loop-bucket.invariant c.is_empty.result c.is_empty.ensures c.loop-bucket-test.true).0

pub returns : goal.returns
returns c = above_end c.requires c.loop-bucket.invariant c.is_empty.result c.is_empty.ensures c.loop-bucket-test.false
