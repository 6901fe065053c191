-- The lines of the first a arcs are written, of which the next is the first that leaves node v.
use Prim.Native.Nat.{◌+◌}
use native.Mathlib.Omega.{arith}
use mathlib.Core.Path.{sym}
use lib.ListN.{length}
use Rattle.fields.proofs.Written.{writes_nothing, writes_then, writes_same, writes_length}
use Rattle.plan_text.specs.Files.{arc_at}
use Rattle.plan_writing.proofs.Walk.{none_walked, arc_within, line_walked, length_walked, passed_within}
use Rattle.plan_writing.proofs.lines.put_arcs.Goals as goal

pub loop-v-init : goal.loop-v-init
loop-v-init c = writes_same (sym (none_walked c.requires.in_order)) (writes_nothing _ _ (omega (arith, c.requires.costs_in_bounds)))

pub bounds-heads-a : goal.bounds-heads-a
bounds-heads-a c = arc_within c.requires.in_order c.loop-v.v c.loop-a.a c.loop-v-test.true c.loop-a.auto.a c.loop-a-test.true

pub bounds-costs-a : goal.bounds-costs-a
bounds-costs-a c =
    let o = c.requires.in_order in
    omega (arith, arc_within o c.loop-v.v c.loop-a.a c.loop-v-test.true c.loop-a.auto.a c.loop-a-test.true, o.sound.costs_length)

pub put_line-next-requires : goal.put_line-next-requires
put_line-next-requires c =
    let o = c.requires.in_order in
    let a = c.loop-a.a in
    omega (
      arith,
      length_walked o c.loop-v.v a c.loop-v-test.true c.loop-a.auto.a c.loop-a-test.true,
      passed_within (arc_at c.args.n c.args.starts.now c.args.heads.now c.args.costs.now) (a + 1) (length c.args.heads.now)
          (omega (arith, arc_within o c.loop-v.v a c.loop-v-test.true c.loop-a.auto.a c.loop-a-test.true)),
      c.loop-a.invariant.behind,
      writes_length c.loop-a.invariant,
      c.requires.costs_in_bounds,
    )

pub loop-a-preserved : goal.loop-a-preserved
loop-a-preserved c =
    let next = line_walked c.requires.in_order c.loop-v.v c.loop-a.a c.loop-v-test.true c.loop-a.auto.a c.loop-a-test.true in
    writes_same (sym next) (writes_then c.loop-a.invariant c.put_line-next.ensures)
