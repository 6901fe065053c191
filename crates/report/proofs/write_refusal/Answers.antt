use Rattle.fields.proofs.Written.{writes_same, writes_then}
use Rattle.report.proofs.Lines.{refused_whole}
use Rattle.report.proofs.write_refusal.Goals as goal

pub returns : goal.returns
returns c = writes_same (refused_whole c.args.fault) (writes_then c.put_word-next.ensures (rw c.number.ensures at c.put_two.ensures))
