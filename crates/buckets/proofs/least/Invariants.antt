-- `buckets::least` meets its contract: the laws of `Links.Walk`, of which the loop's invariant and measure are.
use Rattle.buckets.specs.Links.Walk.{LeastWalk, steps}
use Rattle.buckets.proofs.least.Given as goal

abbrev pub invariant-loop-at : goal.invariant-loop-at
invariant-loop-at l = LeastWalk l.n l.segments l.slot l.words l.keys l.best l.at

abbrev pub decreases-loop-at : goal.decreases-loop-at
decreases-loop-at l = steps l.n l.words l.at
