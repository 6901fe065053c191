-- `conversion::answer_in` meets its contract: 13, the reader's refusal, or what the writer gives.
use Rattle.conversion.proofs.Answering.{too_long, read_refused, front_read, front_answered}
use Rattle.conversion.proofs.answer_in.Goals as goal

pub returns-then-bytes-gt65536 : goal.returns-then-bytes-gt65536
returns-then-bytes-gt65536 c = too_long _ _ _ _ c.if-bytes-gt65536.true c.write_refusal.ensures

pub write_front-requires : goal.write_front-requires
write_front-requires c = front_read _ _ c.if-bytes-gt65536.false c.requires c.read.ensures c.in-Ok.is

pub returns-in-Err : goal.returns-in-Err
returns-in-Err c = read_refused _ _ c.if-bytes-gt65536.false c.requires c.read.ensures _ _ c.in-Err.is c.write_refusal-in-Err.ensures

pub returns-in-Ok : goal.returns-in-Ok
returns-in-Ok c = front_answered _ _ c.if-bytes-gt65536.false c.requires c.read.ensures c.in-Ok.is _ _ c.write_front.ensures
