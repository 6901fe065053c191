-- `check_lists::limits::first_above` meets its contract: the indices that are left decide.
use mathlib.Core.Path.{sym, ◌∙◌}
use borrow.Author.Tests.{lt-ltb, le-ltb}
use borrow.Author.Rules.{rules}
use Rattle.check_lists.specs.Lists.{word_above}
use Rattle.check_lists.proofs.Least.{none_found, found_here, found_behind}
use Rattle.check_lists.proofs.limits.first_above.Goals as goal

pub returns-then-words-i : goal.returns-then-words-i
returns-then-words-i c =
    sym (c.loop-i.invariant
    ∙ found_here (word_above c.args.limit c.args.words.now) c.loop-i.i c.args.last (search rules) (lt-ltb _ _ c.if-words-i.true))

pub loop-i-preserved : goal.loop-i-preserved
loop-i-preserved c =
    c.loop-i.invariant
    ∙ found_behind (word_above c.args.limit c.args.words.now) c.loop-i.i c.args.last (search rules) (le-ltb _ _ c.if-words-i.false)

pub returns : goal.returns
returns c = sym (c.loop-i.invariant ∙ none_found (word_above c.args.limit c.args.words.now) c.loop-i.i c.args.last (search rules))
