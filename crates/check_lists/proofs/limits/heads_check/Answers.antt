-- `check_lists::limits::heads_check` meets its contract: a head above n - 1 is one that is not below n.
use mathlib.Core.Path.{◌≡◌, ◌∙◌, ap}
use Prim.Native.Nat.{ℕ, suc, ◌-◌}
use native.Mathlib.Omega.{arith}
use lib.Dec.{leb}
use lib.ListN.{length, get_or}
use Rattle.check_lists.specs.Lists.{word_above, heads_check}
use Rattle.check_lists.proofs.Least.{same_tests}
use Rattle.check_lists.proofs.limits.heads_check.Goals as goal

pub returns : goal.returns
unfolding heads_check
returns c =
    let n = c.args.n in
    let heads = c.args.heads.now in
    let above : suc (n - 1) ≡ n = omega arith in
    c.limit_check.ensures
    ∙ same_tests _ (word_above (n - 1) heads) (λ a. leb n (get_or heads a 0)) 0 (length heads)
    (λ a low high. ap (λ (least : ℕ). leb least (get_or heads a 0)) above)
