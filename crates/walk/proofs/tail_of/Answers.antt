-- `walk::tail_of` meets its contract: what is left of the nodes is halved, and the arc leaves one of them.
use native.Mathlib.Omega.{arith}
use Rattle.walk.proofs.Tails.{within_start, within_inside, within_end}
use Rattle.walk.proofs.tail_of.Goals as goal

pub loop-low-init : goal.loop-low-init
loop-low-init c = within_start c.requires

pub overflow_add-low : goal.overflow_add-low
overflow_add-low c = omega (arith, c.loop-low.invariant.some, c.loop-low.invariant.high_node, c.requires.few)

pub overflow_sub-middle : goal.overflow_sub-middle
overflow_sub-middle c = omega (arith, c.loop-low.invariant.some)

pub overflow_add-middle : goal.overflow_add-middle
overflow_add-middle c = omega (arith, c.loop-low.invariant.some, c.loop-low.invariant.high_node, c.requires.few)

pub offset_bounds-starts-middle : goal.offset_bounds-starts-middle
offset_bounds-starts-middle c = omega (arith, c.loop-low.invariant.some, c.loop-low.invariant.high_node, c.requires.few)

pub bounds-starts-middle : goal.bounds-starts-middle
bounds-starts-middle c = within_inside c.requires c.loop-low.invariant (omega (arith, c.loop-low.invariant.some))

pub loop-low-smaller-then-starts-middle : goal.loop-low-smaller-then-starts-middle
loop-low-smaller-then-starts-middle c = omega (arith, c.loop-low.invariant.some, c.loop-low-test.true)

pub loop-low-preserved-then-starts-middle : goal.loop-low-preserved-then-starts-middle
loop-low-preserved-then-starts-middle c =
    let L = c.loop-low.invariant in
    record { some = omega (arith, L.some, c.loop-low-test.true); high_node = L.high_node; from = c.if-starts-middle.true; to = L.to }

pub loop-low-smaller : goal.loop-low-smaller
loop-low-smaller c = omega (arith, c.loop-low.invariant.some, c.loop-low-test.true)

pub loop-low-preserved : goal.loop-low-preserved
loop-low-preserved c =
    let L = c.loop-low.invariant in
    record {
      some = omega (arith, L.some, c.loop-low-test.true);
      high_node = omega (arith, L.some, L.high_node);
      from = L.from;
      to = omega (arith, c.if-starts-middle.false);
    }

pub returns : goal.returns
returns c = within_end _ _ _ _ c.loop-low.invariant c.loop-low-test.false

pub overflow_cast-result : goal.overflow_cast-result
overflow_cast-result c = omega (arith, c.loop-low.invariant.some, c.loop-low.invariant.high_node, c.requires.few)
