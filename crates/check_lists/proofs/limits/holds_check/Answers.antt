-- `check_lists::limits::holds_check` meets its contract.
use mathlib.Core.Path.{◌≡◌}
use native.Mathlib.Omega.{arith}
use lib.ListN.{length}
use borrow.Author.Tests.{eq-eqb, ne_eqb}
use Rattle.check_lists.specs.Lists.{holds_check}
use Rattle.check_lists.proofs.limits.holds_check.Goals as goal

pub returns-then-holds-n : goal.returns-then-holds-n
unfolding holds_check
returns-then-holds-n c = rw (ne_eqb (length c.args.holds.now) c.args.n (λ e. omega arith))

pub returns : goal.returns
unfolding holds_check
returns c =
    let same : length c.args.holds.now ≡ c.args.n = omega arith in
    rw (eq-eqb (length c.args.holds.now) c.args.n same) c.limit_check.ensures
