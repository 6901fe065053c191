use native.Mathlib.Omega.{arith}
use Rattle.fields.proofs.Decimals.{decimal_most}
use Rattle.fields.proofs.writing.put_field.Goals as goal

pub put_ended-requires : goal.put_ended-requires
put_ended-requires c = omega (arith, decimal_most c.args.value, c.requires)
