-- `planning::answer_in` meets its contract.
use Rattle.planning.proofs.Answering.{too_long, read_refused, both_read, map_answered}
use Rattle.planning.proofs.answer_in.Goals as goal

pub returns-then-bytes-gt65536 : goal.returns-then-bytes-gt65536
returns-then-bytes-gt65536 c = too_long _ _ c.if-bytes-gt65536.true c.write_refusal.ensures

pub plan_map-requires : goal.plan_map-requires
plan_map-requires c =
    let lends = c.requires in
    record { both_runnable = both_read _ c.if-bytes-gt65536.false lends.lists c.read.ensures c.in-Ok.is; output_len = lends.output_bytes }

pub returns-in-Err : goal.returns-in-Err
returns-in-Err c = read_refused _ c.if-bytes-gt65536.false c.requires.lists c.read.ensures c.in-Err.is c.write_refusal-in-Err.ensures

pub returns-in-Ok : goal.returns-in-Ok
returns-in-Ok c = map_answered _ c.if-bytes-gt65536.false c.requires.lists c.read.ensures c.in-Ok.is c.plan_map.ensures
