-- `linking::put` meets its contract: the count, and then the lists.
use Prim.Native.Nat.{◌<◌, ◌≤◌}
use Rattle.buckets.specs.Words.{bucket_count}
use Rattle.buckets.specs.Words.Laws.{bucket_in}
use Rattle.buckets.specs.Links.Count.{put_ready, put_moved}
use Rattle.linking.proofs.put.Goals as goal

pub link-requires-clause-chains : goal.link-requires-clause-chains
link-requires-clause-chains c =
    let bucket_low : (0 < c.args.bucket) × (c.args.bucket ≤ bucket_count c.args.slots c.args.segments) = bucket_in c.requires.linked.fits c.args.bucket c.args.slot c.requires.v_lt_n.1 c.requires.v_lt_n.2 in
    let r = put_ready c.requires.linked c.args.bucket bucket_low.0 bucket_low.1 c.args.v.0 c.requires.free c.count_in.ensures in
    r.1

pub link-requires-clause-free : goal.link-requires-clause-free
link-requires-clause-free c =
    let bucket_low : (0 < c.args.bucket) × (c.args.bucket ≤ bucket_count c.args.slots c.args.segments) = bucket_in c.requires.linked.fits c.args.bucket c.args.slot c.requires.v_lt_n.1 c.requires.v_lt_n.2 in
    let r = put_ready c.requires.linked c.args.bucket bucket_low.0 bucket_low.1 c.args.v.0 c.requires.free c.count_in.ensures in
    r.2

pub returns : goal.returns
returns c =
    let bucket_low : (0 < c.args.bucket) × (c.args.bucket ≤ bucket_count c.args.slots c.args.segments) = bucket_in c.requires.linked.fits c.args.bucket c.args.slot c.requires.v_lt_n.1 c.requires.v_lt_n.2 in
    put_moved c.requires.linked c.args.bucket bucket_low.0 bucket_low.1 c.args.v.0 c.requires.free c.count_in.ensures
    c.args.slot c.requires.v_lt_n.0 c.requires.v_lt_n.1 c.requires.v_lt_n.2 c.link.ensures
