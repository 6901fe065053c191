-- `linking::count_in` meets its contract: the count word is in range, and its count is at most n.
use Prim.Native.Nat.{◌<◌}
use native.Mathlib.Omega.{arith}
use lib.ListN.{length}
use Rattle.buckets.specs.Words.{count_at}
use Rattle.buckets.specs.Words.Laws.{count_low, set_recount, none_recount}
use Rattle.buckets.specs.Links.Count.{count_le}
use Rattle.linking.proofs.count_in.Goals as goal

pub bounds-words-count : goal.bounds-words-count
bounds-words-count c =
    let low : count_at c.args.n c.args.slots c.args.bucket < length c.args.words.now = count_low c.requires.linked.fits c.args.bucket c.requires.bucket_nonzero.1 c.if-segments-gt1.true in
    omega (arith, low)

pub overflow_add-words : goal.overflow_add-words
overflow_add-words c = omega (arith, count_le c.requires.linked c.args.bucket c.requires.bucket_nonzero.0 c.requires.bucket_nonzero.1 c.if-segments-gt1.true)

pub bounds-words-count-then-segments-gt1 : goal.bounds-words-count-then-segments-gt1
bounds-words-count-then-segments-gt1 c =
    let low : count_at c.args.n c.args.slots c.args.bucket < length c.args.words.now = count_low c.requires.linked.fits c.args.bucket c.requires.bucket_nonzero.1 c.if-segments-gt1.true in
    omega (arith, low)

pub returns-then-segments-gt1 : goal.returns-then-segments-gt1
returns-then-segments-gt1 c = set_recount c.args.n c.args.slots c.args.segments c.args.bucket _ c.args.words.now _ (omega arith) c.if-segments-gt1.true

pub returns-else-segments-gt1 : goal.returns-else-segments-gt1
returns-else-segments-gt1 c = none_recount c.args.n c.args.slots c.args.segments c.args.bucket _ c.args.words.now c.if-segments-gt1.false
