-- `check_numbers::fault_if` meets its contract, by the two cases of its test.
use Rattle.check_numbers.specs.Numbers.{fault_if}
use Rattle.check_numbers.proofs.fault_if.Goals as goal

pub returns-then-fails : goal.returns-then-fails
unfolding fault_if
returns-then-fails c = rw c.if-fails.true

pub returns-else-fails : goal.returns-else-fails
unfolding fault_if
returns-else-fails c = rw c.if-fails.false
