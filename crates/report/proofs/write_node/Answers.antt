use native.Mathlib.Omega.{arith}
use Rattle.fields.specs.Fields.{comma}
use Rattle.fields.proofs.Written.{writes_same, writes_then}
use Rattle.report.proofs.Lines.{field_most, or_none_most, node_whole}
use Rattle.report.proofs.write_node.Goals as goal

pub put_or_none-third-requires : goal.put_or_none-third-requires
put_or_none-third-requires c = omega (arith, field_most c.args.v.0 comma, c.put_field-second.ensures.behind)

pub put_or_none-requires : goal.put_or_none-requires
put_or_none-requires c =
    let given = c.args in
    omega (
      arith,
      field_most given.v.0 comma,
      or_none_most given.distance comma,
      c.put_field-second.ensures.behind,
      c.put_or_none-third.ensures.behind,
    )

pub returns : goal.returns
returns c = writes_same (node_whole _ _ _) (writes_then (writes_then c.put_field-second.ensures c.put_or_none-third.ensures) c.put_or_none.ensures)
