-- `linking::count_out` meets its contract: the node's bucket is one of the buckets, and its count is not 0.
use Prim.Native.Nat.{◌≤◌, ◌<◌}
use native.Mathlib.Omega.{arith}
use lib.ListN.{length, get_or}
use Rattle.buckets.specs.Words.{bucket_count, count_at}
use Rattle.buckets.specs.Words.Laws.{count_low, set_recount, none_recount}
use Rattle.buckets.specs.Links.Count.{from_bucket, count_some}
use Rattle.linking.proofs.count_out.Goals as goal

pub bounds-words-count : goal.bounds-words-count
bounds-words-count c =
    let from : (0 < c.args.bucket) × (c.args.bucket ≤ bucket_count c.args.slots c.args.segments) = rw c.requires.v_lt_n.1 (from_bucket c.requires.linked c.args.v c.requires.v_lt_n.0 c.requires.held) in
    let low : count_at c.args.n c.args.slots c.args.bucket < length c.args.words.now = count_low c.requires.linked.fits _ (from).1 c.if-segments-gt1.true in
    omega (arith, low)

pub overflow_sub-words : goal.overflow_sub-words
overflow_sub-words c =
    let e : 0 < get_or c.args.words.now (count_at c.args.n c.args.slots c.args.bucket) 0 =
    rw c.requires.v_lt_n.1 (count_some c.requires.linked c.args.v c.requires.v_lt_n.0 c.requires.held c.if-segments-gt1.true) in
    omega arith

pub bounds-words-count-then-segments-gt1 : goal.bounds-words-count-then-segments-gt1
bounds-words-count-then-segments-gt1 c =
    let from : (0 < c.args.bucket) × (c.args.bucket ≤ bucket_count c.args.slots c.args.segments) = rw c.requires.v_lt_n.1 (from_bucket c.requires.linked c.args.v c.requires.v_lt_n.0 c.requires.held) in
    let low : count_at c.args.n c.args.slots c.args.bucket < length c.args.words.now = count_low c.requires.linked.fits _ (from).1 c.if-segments-gt1.true in
    omega (arith, low)

pub returns-then-segments-gt1 : goal.returns-then-segments-gt1
returns-then-segments-gt1 c = set_recount c.args.n c.args.slots c.args.segments _ _ c.args.words.now _ (omega arith) c.if-segments-gt1.true

pub returns-else-segments-gt1 : goal.returns-else-segments-gt1
returns-else-segments-gt1 c = none_recount c.args.n c.args.slots c.args.segments _ _ c.args.words.now c.if-segments-gt1.false
