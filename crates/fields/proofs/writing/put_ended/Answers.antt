use Rattle.fields.proofs.Written.{writes_then}
use Rattle.fields.proofs.writing.put_ended.Goals as goal

pub returns : goal.returns
returns c = writes_then c.put_digits-next.ensures c.put_byte.ensures
