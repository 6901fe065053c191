-- `shifting::distribute` meets its contract: the measure is how many nodes the slot still has.
use Rattle.shifting.specs.Moving.{in_slot}
use Rattle.shifting.proofs.Moving.{Distributing}
use Rattle.shifting.proofs.distribute.Given as goal

abbrev pub invariant-loop-v : goal.invariant-loop-v
invariant-loop-v l = Distributing l.layout l.sizes l.initial.words l.distances l.initial.moved l.bucket l.slot l.words l.moved

abbrev pub decreases-loop-v : goal.decreases-loop-v
decreases-loop-v l = in_slot l.layout l.words l.slot
