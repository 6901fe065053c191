-- `budgets::left_check` meets its contract.
use mathlib.Core.Path.{refl}
use borrow.Author.Tests.{lt-ltb, le-ltb}
use Rattle.check_numbers.specs.Numbers.{fault_if}
use Rattle.budgets.proofs.left_check.Goals as goal

pub returns-then-left-gt0 : goal.returns-then-left-gt0
unfolding fault_if
returns-then-left-gt0 c = rw (lt-ltb 0 c.args.left c.if-left-gt0.true) refl

pub returns-else-left-gt0 : goal.returns-else-left-gt0
unfolding fault_if
returns-else-left-gt0 c = rw (le-ltb 0 c.args.left c.if-left-gt0.false) refl
