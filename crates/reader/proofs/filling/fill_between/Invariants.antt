use Rattle.reader.proofs.Lists.{Between}
use Rattle.reader.proofs.filling.fill_between.Given as goal

abbrev pub invariant-loop-i : goal.invariant-loop-i
invariant-loop-i l = Between l.initial.words l.words l.from l.to l.word l.i
