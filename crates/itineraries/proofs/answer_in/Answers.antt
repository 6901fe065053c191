-- `itineraries::answer_in` meets its contract.
use native.Mathlib.Omega.{arith}
use Rattle.itineraries.proofs.Answering.{too_long, read_refused, one_read, map_listed}
use Rattle.itineraries.proofs.answer_in.Goals as goal

pub returns-then-bytes-gt65536 : goal.returns-then-bytes-gt65536
returns-then-bytes-gt65536 c = too_long _ _ c.if-bytes-gt65536.true c.write_refusal.ensures

pub list_map-requires : goal.list_map-requires
list_map-requires c =
    let lends = c.requires in
    record { map_runnable = one_read _ c.if-bytes-gt65536.false lends.lists c.read.ensures c.in-Ok.is; route_len = (lends.route_words, lends.output_bytes) }

pub returns-in-Err : goal.returns-in-Err
returns-in-Err c = read_refused _ c.if-bytes-gt65536.false c.requires.lists c.read.ensures c.in-Err.is c.write_refusal-in-Err.ensures

pub returns-in-Ok : goal.returns-in-Ok
returns-in-Ok c = map_listed _ c.if-bytes-gt65536.false c.requires.lists c.read.ensures c.in-Ok.is c.list_map.ensures

pub shape_of-starts-in-Ok : goal.shape_of-starts-in-Ok
shape_of-starts-in-Ok c = omega (arith, c.read.auto.starts)

pub shape_of-heads-in-Ok : goal.shape_of-heads-in-Ok
shape_of-heads-in-Ok c = omega (arith, c.read.auto.heads)

pub shape_of-costs-in-Ok : goal.shape_of-costs-in-Ok
shape_of-costs-in-Ok c = omega (arith, c.read.auto.costs)

pub shape_of-holds-in-Ok : goal.shape_of-holds-in-Ok
shape_of-holds-in-Ok c = omega (arith, c.read.auto.holds)
