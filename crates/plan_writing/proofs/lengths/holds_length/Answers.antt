-- The lines of the first holds are counted.
use native.Mathlib.Omega.{arith}
use mathlib.Core.Path.{ap}
use mathlib.Core.List.{[], ◌∷◌}
use lib.ListN.{length, get_or}
use Rattle.line_writing.proofs.Rendered.{line_most}
use Rattle.plan_writing.proofs.Holds.{lines_most, no_line, line_next_length, lines_within}
use Rattle.plan_writing.proofs.lengths.holds_length.Goals as goal

pub loop-hold-init : goal.loop-hold-init
loop-hold-init c = omega (arith, ap length (no_line c.args.holds.now))

pub overflow_add-total : goal.overflow_add-total
overflow_add-total c =
    let holds = c.args.holds.now in
    let i = c.loop-hold.hold-index in
    omega (
      arith,
      c.line_length-total.ensures,
      line_most (get_or holds i 0 ∷ []),
      c.loop-hold.invariant,
      lines_within holds i,
      lines_most holds,
      c.requires,
    )

pub loop-hold-preserved : goal.loop-hold-preserved
loop-hold-preserved c =
    let next = line_next_length c.args.holds.now c.loop-hold.hold-index c.loop-hold-test.true in
    omega (arith, next, c.line_length-total.ensures, c.loop-hold.invariant)
