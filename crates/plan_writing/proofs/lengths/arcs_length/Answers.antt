-- The lines of the first a arcs are counted, of which the next is the first that leaves node v.
use native.Mathlib.Omega.{arith}
use mathlib.Core.Path.{sym, ap}
use mathlib.Core.List.{[], ◌∷◌}
use lib.ListN.{length, get_or}
use Rattle.plan_text.specs.Files.{arc_at}
use Rattle.line_writing.proofs.Rendered.{line_most}
use Rattle.plan_writing.proofs.Walk.{none_walked, arc_within, length_walked, passed_most}
use Rattle.plan_writing.proofs.lengths.arcs_length.Goals as goal

pub loop-v-init : goal.loop-v-init
loop-v-init c = sym (ap length (none_walked c.requires))

pub bounds-heads-a : goal.bounds-heads-a
bounds-heads-a c = arc_within c.requires c.loop-v.v c.loop-a.a c.loop-v-test.true c.loop-a.auto.a c.loop-a-test.true

pub bounds-costs-a : goal.bounds-costs-a
bounds-costs-a c =
    omega (arith, arc_within c.requires c.loop-v.v c.loop-a.a c.loop-v-test.true c.loop-a.auto.a c.loop-a-test.true, c.requires.sound.costs_length)

pub overflow_add-total : goal.overflow_add-total
overflow_add-total c =
    let v = c.loop-v.v in
    let a = c.loop-a.a in
    omega (
      arith,
      c.line_length-total.ensures,
      line_most (v ∷ get_or c.args.heads.now a 0 ∷ get_or c.args.costs.now a 0 ∷ []),
      c.loop-a.invariant,
      arc_within c.requires v a c.loop-v-test.true c.loop-a.auto.a c.loop-a-test.true,
      c.requires.sound.few_arcs,
      passed_most (arc_at c.args.n c.args.starts.now c.args.heads.now c.args.costs.now) a,
    )

pub loop-a-preserved : goal.loop-a-preserved
loop-a-preserved c =
    let next = length_walked c.requires c.loop-v.v c.loop-a.a c.loop-v-test.true c.loop-a.auto.a c.loop-a-test.true in
    omega (arith, c.line_length-total.ensures, c.loop-a.invariant, next)
