-- `bits::remove` meets its contract: the laws of `Sets.Change` at the words of the slice.
use native.Mathlib.Omega.{arith}
use Rattle.bits.specs.Sets.Change.{remove_last, remove_more}
use Rattle.bits.proofs.remove.Goals as goal

pub returns-then-left-eq0 : goal.returns-then-left-eq0
returns-then-left-eq0 c = remove_last c.requires.bit_set c.args.node c.requires.is_in.below c.requires.is_in (omega arith)

pub returns-else-left-eq0 : goal.returns-else-left-eq0
returns-else-left-eq0 c = remove_more c.requires.bit_set c.args.node c.requires.is_in.below c.requires.is_in (omega arith)
