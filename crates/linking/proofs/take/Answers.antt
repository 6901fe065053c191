-- `linking::take` meets its contract: the count, and then the lists.
use mathlib.Core.Path.{sym}
use Rattle.buckets.specs.Links.Count.{take_ready, take_before, take_moved}
use Rattle.linking.proofs.take.Goals as goal

pub unlink-requires-clause-chains : goal.unlink-requires-clause-chains
unlink-requires-clause-chains c =
    let r = take_ready c.requires.linked c.args.v.0 c.requires.v_lt_n c.requires.held c.count_out.ensures in
    let e = take_before c.requires.linked c.args.v.0 c.requires.v_lt_n c.requires.held c.count_out.ensures in
    r.1

pub unlink-requires-clause-v_lt_n : goal.unlink-requires-clause-v_lt_n
unlink-requires-clause-v_lt_n c =
    let r = take_ready c.requires.linked c.args.v.0 c.requires.v_lt_n c.requires.held c.count_out.ensures in
    let e = take_before c.requires.linked c.args.v.0 c.requires.v_lt_n c.requires.held c.count_out.ensures in
    (c.requires.v_lt_n, sym e)

pub unlink-requires-clause-held : goal.unlink-requires-clause-held
unlink-requires-clause-held c =
    let r = take_ready c.requires.linked c.args.v.0 c.requires.v_lt_n c.requires.held c.count_out.ensures in
    let e = take_before c.requires.linked c.args.v.0 c.requires.v_lt_n c.requires.held c.count_out.ensures in
    r.2

pub returns : goal.returns
returns c = take_moved c.requires.linked c.args.v.0 c.requires.v_lt_n c.requires.held c.count_out.ensures c.unlink.ensures
