-- `search::scan_all` meets its contract: the measure is how many nodes are not scanned.
use Prim.Native.Nat.{◌<◌, ◌+◌}
use native.Mathlib.Omega.{arith}
use mathlib.Core.Path.{refl}
use lib.ListN.{length}
use Rattle.search.proofs.Stepping.{stepped_start, stepped_rests, stepped_node, stepped_held, stepped_scans, stepped_next, stepped_less, stepped_end}
use Rattle.search.proofs.scan_all.Goals as goal

pub loop-step-init : goal.loop-step-init
loop-step-init c = stepped_start

pub remove-removed-requires : goal.remove-removed-requires
remove-removed-requires c = stepped_rests c.loop-step.invariant (omega arith) c.requires

pub tail_hold-hold-requires : goal.tail_hold-hold-requires
tail_hold-hold-requires c =
    let less : c.loop-step.step.reached < c.loop-step.step.tally.insertions = omega arith in
    stepped_held c.loop-step.invariant less c.remove-removed.ensures c.requires

pub bounds-starts-at : goal.bounds-starts-at
bounds-starts-at c =
    let less : c.loop-step.step.reached < c.loop-step.step.tally.insertions = omega arith in
    let node : c.remove-removed.result.node.0 + 1 < length c.args.starts.now = stepped_node c.loop-step.invariant less c.remove-removed.ensures c.requires in
    omega (arith, node)

pub overflow_cast-first : goal.overflow_cast-first
overflow_cast-first c =
    let less : c.loop-step.step.reached < c.loop-step.step.tally.insertions = omega arith in
    let s = (stepped_scans c.loop-step.invariant less c.remove-removed.ensures c.requires refl).scans in
    omega (arith, s.rising, s.few)

pub overflow_add-last : goal.overflow_add-last
overflow_add-last c =
    let less : c.loop-step.step.reached < c.loop-step.step.tally.insertions = omega arith in
    let node : c.remove-removed.result.node.0 + 1 < length c.args.starts.now = stepped_node c.loop-step.invariant less c.remove-removed.ensures c.requires in
    omega (arith, node)

pub bounds-starts-at-in-loop-step : goal.bounds-starts-at-in-loop-step
bounds-starts-at-in-loop-step c =
    let less : c.loop-step.step.reached < c.loop-step.step.tally.insertions = omega arith in
    let node : c.remove-removed.result.node.0 + 1 < length c.args.starts.now = stepped_node c.loop-step.invariant less c.remove-removed.ensures c.requires in
    omega (arith, node)

pub overflow_cast-last : goal.overflow_cast-last
overflow_cast-last c =
    let less : c.loop-step.step.reached < c.loop-step.step.tally.insertions = omega arith in
    omega (arith, (stepped_scans c.loop-step.invariant less c.remove-removed.ensures c.requires refl).scans.few)

pub scan-step-requires : goal.scan-step-requires
scan-step-requires c =
    let less : c.loop-step.step.reached < c.loop-step.step.tally.insertions = omega arith in
    stepped_scans c.loop-step.invariant less c.remove-removed.ensures c.requires c.tail_hold-hold.ensures

pub loop-step-smaller : goal.loop-step-smaller
loop-step-smaller c =
    let less : c.loop-step.step.reached < c.loop-step.step.tally.insertions = omega arith in
    let made = c.scan-step.ensures in
    stepped_less c.loop-step.invariant less c.remove-removed.ensures c.tail_hold-hold.ensures made.stands made.front c.requires

pub loop-step-preserved : goal.loop-step-preserved
loop-step-preserved c =
    let less : c.loop-step.step.reached < c.loop-step.step.tally.insertions = omega arith in
    let made = c.scan-step.ensures in
    stepped_next c.loop-step.invariant less c.remove-removed.ensures c.tail_hold-hold.ensures made.stands made.front

pub returns : goal.returns
returns c = stepped_end c.loop-step.invariant (omega arith)
