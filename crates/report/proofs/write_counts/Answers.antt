use native.Mathlib.Omega.{arith}
use Rattle.fields.specs.Fields.{comma}
use Rattle.fields.proofs.Written.{writes_same, writes_then}
use Rattle.report.proofs.Lines.{field_most, counts_whole}
use Rattle.report.proofs.write_counts.Goals as goal

pub put_field-third-requires : goal.put_field-third-requires
put_field-third-requires c = omega (arith, field_most c.args.nodes comma, c.put_field-second.ensures.behind)

pub put_two-requires : goal.put_two-requires
put_two-requires c =
    let given = c.args in
    omega (
      arith,
      field_most given.nodes comma,
      field_most given.arcs comma,
      c.put_field-second.ensures.behind,
      c.put_field-third.ensures.behind,
    )

pub returns : goal.returns
returns c = writes_same (counts_whole _ _ _ _) (writes_then (writes_then c.put_field-second.ensures c.put_field-third.ensures) c.put_two.ensures)
