-- `check_lists::limits::any_above` meets its contract: a word above the limit was passed exactly if not every word passed is at most it.
use mathlib.Core.Path.{refl}
use native.Mathlib.Omega.{arith}
use lib.Dec.{ltb}
use lib.ListN.{get_or}
use borrow.Author.Count.{below_more}
use borrow.Author.Tests.{ltb-false, le-ltb}
use borrow.Author.Rules.{rules}
use Rattle.check_lists.proofs.Tests.{or_left, or_right}
use Rattle.check_lists.proofs.limits.any_above.Goals as goal

pub loop-word-preserved : goal.loop-word-preserved
loop-word-preserved c =
    let limit = c.args.limit in
    let words = c.args.words.now in
    let above = ltb limit (get_or words c.loop-word.word-index 0) in
    let before = c.loop-word.invariant in (
      λ e. below_more _ c.loop-word.word-index (before.0 (or_left c.loop-word.any above e)) (ltb-false limit (get_or words c.loop-word.word-index 0) (or_right c.loop-word.any above e)),
      λ low. rw (before.1 (λ k h. low k (omega arith)), le-ltb limit (get_or words c.loop-word.word-index 0) (low c.loop-word.word-index (omega arith))) refl,
    )

pub returns : goal.returns
returns c = record { none = λ e k h. c.loop-word.invariant.0 e k (search rules); some = λ low. c.loop-word.invariant.1 (λ k h. low k (search rules)) }

pub loop-word-init : goal.loop-word-init
loop-word-init c = (λ e k l. absurd (search rules), λ low. refl)
