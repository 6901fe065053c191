use borrow.Author.Rules.{rules}
use Rattle.fields.proofs.Written.{writes_byte}
use Rattle.fields.proofs.writing.put_byte.Goals as goal

pub returns : goal.returns
returns c = writes_byte _ _ _ (search rules)
