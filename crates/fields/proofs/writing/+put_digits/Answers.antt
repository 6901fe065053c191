-- The digits of a tenth of the number, and the last digit behind them.
use mathlib.Core.Path.{sym}
use Prim.Native.Nat.{◌≤◌}
use native.Mathlib.Omega.{arith}
use Rattle.fields.proofs.Decimals.{decimal_tenth, decimal_tenth_length}
use Rattle.fields.proofs.Written.{writes_same, writes_then}
use Rattle.fields.proofs.writing.+put_digits.Goals as goal

pub put_digits-last-requires : goal.put_digits-last-requires
put_digits-last-requires t c =
    (omega arith, omega (arith, decimal_tenth_length c.args.value c.ranges.value.fits (omega arith)))

pub put_byte-requires-2 : goal.put_byte-requires-2
put_byte-requires-2 t c =
    let more : 10 ≤ c.args.value = omega arith in
    omega (arith, decimal_tenth_length c.args.value c.ranges.value.fits more, c.put_digits-last.ensures.behind)

pub returns : goal.returns
returns t c =
    let more : 10 ≤ c.args.value = omega arith in
    writes_same (sym (decimal_tenth c.args.value c.ranges.value.fits more)) (writes_then c.put_digits-last.ensures c.put_byte-2.ensures)
