-- `removal::remove_current` meets its contract.
use Prim.Native.Nat.{◌+◌, ◌≤◌}
use native.Mathlib.Omega.{arith}
use mathlib.Core.Path.{refl}
use Rattle.removal.proofs.Counts.{reached_low, roster_long, nodes_few, looks_few, looks_most}
use Rattle.removal.proofs.Current.{current_node, within, segment_is, current_removal}
use Rattle.removal.proofs.remove_current.Goals as goal

pub current_segment-segment-requires-clause-front_bound : goal.current_segment-segment-requires-clause-front_bound
current_segment-segment-requires-clause-front_bound c = rw c.bound_of-bound.ensures (within c.requires.some_rests.rests c.requires.current_nonzero)

pub take_current-v-requires-clause-current : goal.take_current-v-requires-clause-current
take_current-v-requires-clause-current c = current_node c.requires.some_rests.rests c.requires.current_nonzero

pub bounds-roster-at : goal.bounds-roster-at
bounds-roster-at c = omega (arith, reached_low c.requires.some_rests.rests, roster_long c.requires.some_rests.rests)

pub looked-requires : goal.looked-requires
looked-requires c = omega (arith, looks_few c.requires.some_rests.rests, c.looks_of-looks.ensures, looks_most c.args.layout.segments 1 c.current_segment-segment.result, c.current_segment-segment.ensures, c.requires.some_rests.setting.agrees.most)

pub returns : goal.returns
returns c X before parents h R =
    let some = c.requires.current_nonzero in
    current_removal R some c.take_current-v.ensures refl (omega arith) refl
    c.looked.ensures (cc (c.looks_of-looks.ensures, c.current_segment-segment.ensures, c.bound_of-bound.ensures, segment_is R some))

pub overflow_add-result : goal.overflow_add-result
overflow_add-result c =
    let reached_few : c.args.state.reached + 1 ≤ 4096 = omega (arith, reached_low c.requires.some_rests.rests, nodes_few c.requires.some_rests.rests) in
    omega (arith, reached_few)
