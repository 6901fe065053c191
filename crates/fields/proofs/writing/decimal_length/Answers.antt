-- The digits counted and those of the rest are all.
use native.Mathlib.Omega.{arith}
use Rattle.fields.proofs.Decimals.{one_digit_length, decimal_least, decimal_most, decimal_tenth_length}
use Rattle.fields.proofs.writing.decimal_length.Goals as goal

pub overflow_add-length : goal.overflow_add-length
overflow_add-length c = omega (arith, c.loop-rest.invariant.0, decimal_least c.loop-rest.rest, decimal_most c.args.value)

pub loop-rest-preserved : goal.loop-rest-preserved
loop-rest-preserved c =
    let h = c.loop-rest.invariant in
    (omega (arith, h.0, decimal_tenth_length c.loop-rest.rest h.1 (omega (arith, c.loop-rest-test.true))), omega (arith, h.1))

pub returns : goal.returns
returns c = omega (arith, c.loop-rest.invariant.0, one_digit_length c.loop-rest.rest (omega (arith, c.loop-rest-test.false)))
