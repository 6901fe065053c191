use native.Mathlib.Omega.{arith}
use Rattle.fields.specs.Fields.{comma}
use Rattle.fields.proofs.Written.{writes_same, writes_then}
use Rattle.report.proofs.Lines.{field_most, two_fields}
use Rattle.report.proofs.put_two.Goals as goal

pub put_field-requires : goal.put_field-requires
put_field-requires c = omega (arith, field_most c.args.first comma, c.put_field-next.ensures.behind)

pub returns : goal.returns
returns c = writes_same (two_fields _ _) (writes_then c.put_field-next.ensures c.put_field.ensures)
