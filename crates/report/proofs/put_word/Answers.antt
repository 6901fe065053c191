use Rattle.fields.proofs.Written.{writes_then}
use Rattle.report.proofs.put_word.Goals as goal

pub returns : goal.returns
returns c = writes_then c.put_bytes-next.ensures c.put_byte.ensures
