-- `buckets::is_empty` meets its contract: the count word tells, or the head word of the bucket's one slot.
use mathlib.Core.Path.{◌≡◌}
use Prim.Native.Nat.{◌<◌}
use native.Mathlib.Omega.{arith}
use lib.ListN.{length}
use Rattle.buckets.specs.Words.{count_at}
use Rattle.buckets.specs.Words.Laws.{count_low}
use Rattle.buckets.specs.Links.Walk.{empty_count, empty_head}
use Rattle.buckets.proofs.is_empty.Goals as goal

pub bounds-words-n : goal.bounds-words-n
bounds-words-n c =
    let low : count_at c.args.n c.args.slots c.args.bucket < length c.args.words.now = count_low c.requires.linked.fits c.args.bucket c.requires.bucket_nonzero.1 c.if-segments-gt1.true in
    omega (arith, low)

pub returns-then-segments-gt1 : goal.returns-then-segments-gt1
returns-then-segments-gt1 c = empty_count c.requires.linked c.args.bucket c.requires.bucket_nonzero.0 c.requires.bucket_nonzero.1 _ (omega arith) c.if-segments-gt1.true

pub returns : goal.returns
returns c =
    let one : c.args.segments ≡ 1 = omega (arith, c.requires.linked.fits.whole) in
    empty_head c.requires.linked c.args.bucket c.requires.bucket_nonzero.0 c.requires.bucket_nonzero.1 (one) _ (omega arith)
