-- `check_lists::starts::any_falls` meets its contract: while no word fell, each word before i is at most the next.
use Prim.Native.Nat.{◌-◌}
use lib.Dec.{ltb}
use lib.ListN.{get_or}
use borrow.Author.Count.{below_more}
use borrow.Author.Tests.{ltb-false}
use borrow.Author.Rules.{rules}
use Rattle.check_lists.proofs.Tests.{or_left, or_right}
use Rattle.check_lists.proofs.starts.any_falls.Goals as goal

pub loop-i-preserved : goal.loop-i-preserved
loop-i-preserved c =
    let words = c.args.words.now in
    let any = c.loop-i.any in
    let i = c.loop-i.i in
    let falls = ltb (get_or words i 0) (get_or words (i - 1) 0) in (
      search rules,
      λ e. below_more _ i (c.loop-i.invariant.1 (or_left any falls e)) (λ p. ltb-false _ _ (or_right any falls e)),
    )

pub returns : goal.returns
returns c e k l = c.loop-i.invariant.1 e k (search rules)

pub loop-i-init : goal.loop-i-init
loop-i-init c = (search rules, λ e k l p. absurd (search rules))
