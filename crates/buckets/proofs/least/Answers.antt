-- `buckets::least` meets its contract: the laws of `Links.Walk`, of which the loop's invariant and measure are.
use Prim.Native.Nat.{◌+◌, ◌*◌, ◌≤◌, ◌<◌}
use native.Mathlib.Omega.{arith}
use lib.ListN.{get_or}
use Rattle.buckets.specs.Links.Walk.{head_le, walk_nonempty, walk_start, walk_below, walk_next, walk_end}
use Rattle.buckets.proofs.least.Goals as goal

pub overflow_sub-best : goal.overflow_sub-best
overflow_sub-best c =
    let first_some : 0 < get_or c.args.words.now (4 * c.args.n + 32 + c.args.slot) 0 = walk_nonempty c.requires.linked c.args.slot c.requires.slot_lt_slots.0 c.args.keys.now c.requires.some in
    first_some

pub bounds-words-best : goal.bounds-words-best
bounds-words-best c =
    let first-le : get_or c.args.words.now (4 * c.args.n + 32 + c.args.slot) 0 ≤ c.args.n = head_le c.requires.linked c.args.slot c.requires.slot_lt_slots.0 in
    let first_some : 0 < get_or c.args.words.now (4 * c.args.n + 32 + c.args.slot) 0 = walk_nonempty c.requires.linked c.args.slot c.requires.slot_lt_slots.0 c.args.keys.now c.requires.some in
    omega (arith, first-le, first_some)

pub loop-at-init : goal.loop-at-init
loop-at-init c = walk_start c.requires.linked c.args.slot c.requires.slot_lt_slots.0 c.args.keys.now c.requires.some

pub earlier-best-requires : goal.earlier-best-requires
earlier-best-requires c = omega (arith, walk_below c.loop-at.invariant, c.loop-at.invariant.in_slot.0)

pub bounds-words-u : goal.bounds-words-u
bounds-words-u c = omega (arith, walk_below c.loop-at.invariant)

pub loop-at-smaller : goal.loop-at-smaller
loop-at-smaller c = (walk_next c.loop-at.invariant c.loop-at-test.true c.earlier-best.result c.earlier-best.ensures).1

pub loop-at-preserved : goal.loop-at-preserved
loop-at-preserved c = (walk_next c.loop-at.invariant c.loop-at-test.true c.earlier-best.result c.earlier-best.ensures).0

pub returns : goal.returns
returns c = walk_end c.loop-at.invariant c.loop-at-test.false
