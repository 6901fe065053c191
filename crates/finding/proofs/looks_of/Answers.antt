-- `finding::looks_of` meets its contract.
use native.Mathlib.Omega.{arith}
use borrow.Author.Tests.{lt-ltb, le-ltb}
use Rattle.bounds.specs.Words.{segment_looks}
use Rattle.finding.proofs.looks_of.Goals as goal

pub returns-then-segments-gt1 : goal.returns-then-segments-gt1
unfolding segment_looks
returns-then-segments-gt1 c = rw (lt-ltb 1 c.args.segments c.if-segments-gt1.true) (omega arith)

pub returns : goal.returns
unfolding segment_looks
returns c = rw (le-ltb 1 c.args.segments (omega (arith, c.if-segments-gt1.false))) (omega arith)
