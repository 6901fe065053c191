-- `bits::insert` meets its contract: the laws of `Sets.Change` at the words of the slice.
use native.Mathlib.Omega.{arith}
use Rattle.bits.specs.Sets.Change.{insert_turned, insert_told, insert_first, insert_more}
use Rattle.bits.proofs.insert.Goals as goal

pub overflow_add-words : goal.overflow_add-words
overflow_add-words c = record { fits = (insert_turned c.requires.bit_set c.args.v.0 (omega arith) c.requires.not_in).fits }

pub overflow_add-words-then-old-eq0-2 : goal.overflow_add-words-then-old-eq0-2
overflow_add-words-then-old-eq0-2 c = record { fits = (insert_told c.requires.bit_set c.args.v.0 (omega arith) c.requires.not_in (omega arith)).fits }

pub returns-then-old-eq0 : goal.returns-then-old-eq0
returns-then-old-eq0 c = insert_first c.requires.bit_set c.args.v.0 (omega arith) c.requires.not_in (omega arith)

pub returns-else-old-eq0 : goal.returns-else-old-eq0
returns-else-old-eq0 c = insert_more c.requires.bit_set c.args.v.0 (omega arith) c.requires.not_in (omega arith)
