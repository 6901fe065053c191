use native.Mathlib.Omega.{arith}
use lib.ListN.{length, drop}
use borrow.Author.Tests.{lt-ltb, le-ltb}
use Rattle.check_numbers.specs.Numbers.{fault_if}
use Rattle.plan_checks.proofs.left_over_check.Goals as goal

pub returns-then-left_over_at-gt0 : goal.returns-then-left_over_at-gt0
unfolding fault_if
returns-then-left_over_at-gt0 c = rw (lt-ltb 0 (length (drop c.args.at c.args.bytes.now)) (omega arith))

pub returns-else-left_over_at-gt0 : goal.returns-else-left_over_at-gt0
unfolding fault_if
returns-else-left_over_at-gt0 c = rw (le-ltb 0 (length (drop c.args.at c.args.bytes.now)) (omega arith))
