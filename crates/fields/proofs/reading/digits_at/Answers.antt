-- The byte read last is the next one of the bytes at the place.
use mathlib.Core.Path.{◌≡◌, sym, ◌∙◌, ap}
use mathlib.Core.List.{List}
use Prim.Native.Nat.{ℕ, ◌+◌}
use native.Mathlib.Omega.{arith}
use lib.ListN.{drop}
use lib.Seq.{get_or-drop}
use Rattle.fields.specs.Fields.{is_digit, byte_at}
use Rattle.fields.proofs.Digits.{counted_next, counted_end, small, digit_high}
use Rattle.fields.proofs.reading.digits_at.Goals as goal

next : {byte : ℕ} (at count : ℕ) (bytes : List ℕ) → byte ≡ byte_at bytes (at + count) → byte ≡ byte_at (drop at bytes) count
next at count bytes e = e ∙ sym (get_or-drop at bytes count 256)

pub returns-then-not-is_digit : goal.returns-then-not-is_digit
returns-then-not-is_digit c =
    let e = next c.args.at c.loop-count.count c.args.bytes.now c.byte_at-byte.ensures in
    counted_end c.loop-count.invariant c.loop-count-test.true (ap is_digit (sym e) ∙ sym c.is_digit.ensures ∙ c.if-not-is_digit.true)

pub overflow_add-value : goal.overflow_add-value
overflow_add-value c =
    let digit = sym c.is_digit.ensures ∙ c.if-not-is_digit.false in
    omega (arith, small c.loop-count.invariant c.loop-count-test.true, digit_high c.byte_at-byte.result digit)

pub loop-count-preserved : goal.loop-count-preserved
loop-count-preserved c =
    let e = next c.args.at c.loop-count.count c.args.bytes.now c.byte_at-byte.ensures in
    rw e (counted_next c.loop-count.invariant c.loop-count-test.true (ap is_digit (sym e) ∙ sym c.is_digit.ensures ∙ c.if-not-is_digit.false))

pub overflow_mul-value : goal.overflow_mul-value
overflow_mul-value c = omega (arith, small c.loop-count.invariant c.loop-count-test.true)
