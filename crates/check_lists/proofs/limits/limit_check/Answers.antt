-- `check_lists::limits::limit_check` meets its contract: where no word is above the limit no index fails.
use mathlib.Core.Path.{◌≡◌, sym}
use Prim.Native.Nat.{◌-◌}
use native.Mathlib.Omega.{arith}
use lib.ListN.{length}
use Rattle.check_lists.proofs.Words.{none_above_passes}
use Rattle.check_lists.proofs.limits.limit_check.Goals as goal

pub returns-then-any_above : goal.returns-then-any_above
returns-then-any_above c =
    let all : length c.args.words.now - 0 ≡ length c.args.words.now = omega arith in
    rw all at c.least_above.ensures

pub returns-else-any_above : goal.returns-else-any_above
returns-else-any_above c = sym (none_above_passes _ _ c.args.words.now (c.any_above.ensures.none c.if-any_above.false))
