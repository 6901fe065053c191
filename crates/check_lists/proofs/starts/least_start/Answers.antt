-- `check_lists::starts::least_start` meets its contract: the indices that are left decide.
use mathlib.Core.Path.{◌≡◌, sym, ◌∙◌}
use Prim.Native.Nat.{◌+◌, ◌-◌}
use native.Mathlib.Omega.{arith}
use borrow.Author.Rules.{rules}
use Rattle.check_lists.specs.Lists.{start_fails, starts_check}
use Rattle.check_lists.proofs.Least.{none_left, fails_here, passes_here}
use Rattle.check_lists.proofs.starts.least_start.Goals as goal

pub loop-i-init : goal.loop-i-init
unfolding starts_check
loop-i-init c =
    let all : c.args.n + 1 - 0 ≡ c.args.n + 1 = omega arith in
    rw all

pub returns-then-start_fails : goal.returns-then-start_fails
returns-then-start_fails c =
    sym (c.loop-i.invariant
    ∙ fails_here _ (start_fails c.args.n _ _) c.loop-i.i (c.args.n + 1) (search rules) (sym c.start_fails.ensures ∙ c.if-start_fails.true))

pub loop-i-preserved : goal.loop-i-preserved
loop-i-preserved c =
    c.loop-i.invariant
    ∙ passes_here _ (start_fails c.args.n _ _) c.loop-i.i (c.args.n + 1) (search rules) (sym c.start_fails.ensures ∙ c.if-start_fails.false)

pub returns : goal.returns
returns c = sym (c.loop-i.invariant ∙ none_left _ (start_fails c.args.n _ _) c.loop-i.i (c.args.n + 1) (search rules))
