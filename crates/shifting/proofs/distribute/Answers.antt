-- `shifting::distribute` meets its contract: the measure is how many nodes the slot still has.
use Rattle.shifting.proofs.Moving.{distributing_end, distribute_settles, distribute_next}
use Rattle.shifting.proofs.distribute.Goals as goal

pub returns : goal.returns
returns c =
    let left = rw c.in_default.is at c.take_first.ensures in
    rw left.1 (distributing_end c.requires c.loop-v.invariant left.0)

pub move_node-moved-requires : goal.move_node-moved-requires
move_node-moved-requires c = distribute_settles c.requires c.loop-v.invariant (rw c.in-Some.is at c.take_first.ensures)

pub loop-v-smaller : goal.loop-v-smaller
loop-v-smaller c = (distribute_next c.requires c.loop-v.invariant (rw c.in-Some.is at c.take_first.ensures) c.move_node-moved.ensures).1

pub loop-v-preserved : goal.loop-v-preserved
loop-v-preserved c = (distribute_next c.requires c.loop-v.invariant (rw c.in-Some.is at c.take_first.ensures) c.move_node-moved.ensures).0
