-- Each line was checked, and adds one hold to what the list holds.
use Rattle.reader.proofs.Holds.{HoldsProgress}
use Rattle.reader.proofs.filling.fill_told.Given as goal

abbrev pub invariant-loop-v : goal.invariant-loop-v
invariant-loop-v l = HoldsProgress l.n l.bytes l.at l.initial.holds l.holds l.line l.v
