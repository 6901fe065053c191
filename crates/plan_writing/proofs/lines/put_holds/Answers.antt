-- The lines of the first holds are written.
use Prim.Native.Nat.{◌+◌}
use native.Mathlib.Omega.{arith}
use mathlib.Core.Path.{sym}
use Rattle.fields.proofs.Written.{writes_nothing, writes_then, writes_same, writes_length}
use Rattle.plan_writing.proofs.Holds.{no_line, line_next, line_next_length, lines_within}
use Rattle.plan_writing.proofs.lines.put_holds.Goals as goal

pub loop-hold-init : goal.loop-hold-init
loop-hold-init c = writes_same (sym (no_line c.args.holds.now)) (writes_nothing _ _ (omega (arith, c.requires)))

pub put_line-next-requires : goal.put_line-next-requires
put_line-next-requires c =
    let holds = c.args.holds.now in
    let i = c.loop-hold.hold-index in
    omega (
      arith,
      line_next_length holds i c.loop-hold-test.true,
      lines_within holds (i + 1),
      c.loop-hold.invariant.behind,
      writes_length c.loop-hold.invariant,
      c.requires,
    )

pub loop-hold-preserved : goal.loop-hold-preserved
loop-hold-preserved c =
    let next = line_next c.args.holds.now c.loop-hold.hold-index c.loop-hold-test.true in
    writes_same (sym next) (writes_then c.loop-hold.invariant c.put_line-next.ensures)
