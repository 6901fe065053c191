-- The holds from v on decide.
use Rattle.writer.proofs.Zero.{ZeroFrom}
use Rattle.writer.proofs.all_zero.Given as goal

abbrev pub invariant-loop-hold : goal.invariant-loop-hold
invariant-loop-hold l = ZeroFrom l.holds l.hold-index
