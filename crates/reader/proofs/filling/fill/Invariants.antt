-- Each line was checked, and adds one arc to what the lists hold.
use Rattle.reader.proofs.Progress.{Progress}
use Rattle.reader.proofs.filling.fill.Given as goal

abbrev pub invariant-loop-i : goal.invariant-loop-i
invariant-loop-i l = Progress l.n l.arcs l.bytes l.at l.initial.starts l.initial.heads l.initial.costs l.starts l.heads l.costs l.line l.next l.i
