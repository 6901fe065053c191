-- The holds from v on decide.
use mathlib.Core.Path.{refl}
use borrow.Author.Rules.{rules}
use Rattle.writer.proofs.Zero.{zero_next, not_zero, zero_all}
use Rattle.writer.proofs.all_zero.Goals as goal

pub returns-then-hold-ne0 : goal.returns-then-hold-ne0
returns-then-hold-ne0 c = not_zero c.args.holds.now c.loop-hold.hold-index c.loop-hold.invariant (search rules) c.if-hold-ne0.true

pub loop-hold-preserved : goal.loop-hold-preserved
loop-hold-preserved c = zero_next c.args.holds.now c.loop-hold.hold-index c.loop-hold.invariant (search rules) c.if-hold-ne0.false

pub returns : goal.returns
returns c = zero_all c.args.holds.now c.loop-hold.hold-index c.loop-hold.invariant (search rules)

pub loop-hold-init : goal.loop-hold-init
loop-hold-init c = refl
