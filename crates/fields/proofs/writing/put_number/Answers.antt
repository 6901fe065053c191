use native.Mathlib.Omega.{arith}
use Rattle.fields.proofs.Decimals.{decimal_most}
use Rattle.fields.proofs.writing.put_number.Goals as goal

pub put_digits-requires : goal.put_digits-requires
put_digits-requires c = omega (arith, decimal_most c.args.value, c.requires)
