-- `check_lists::starts::start_fails` meets its contract.
use native.Mathlib.Omega.{arith}
use borrow.Author.Rules.{rules}
use Rattle.check_lists.proofs.Start.{at_first, at_later}
use Rattle.check_lists.proofs.starts.start_fails.Goals as goal

pub overflow_cast-start : goal.overflow_cast-start
overflow_cast-start c = omega (arith, c.type_inv.starts c.args.i)

pub returns-then-i-eq0 : goal.returns-then-i-eq0
returns-then-i-eq0 c = at_first _ _ _ _ c.if-i-eq0.true

pub returns-else-i-eq0 : goal.returns-else-i-eq0
returns-else-i-eq0 c = at_later _ _ _ _ (search rules)
