-- The first i fields are counted.
use mathlib.Core.Path.{◌≡◌, ap}
use native.Mathlib.Omega.{arith}
use lib.ListN.{length, get_or}
use Rattle.fields.proofs.Decimals.{decimal_most}
use Rattle.line_writing.proofs.Rendered.{first_none, first_all, next_length, first_within, line_most}
use Rattle.line_writing.proofs.line_length.Goals as goal

pub loop-value-init : goal.loop-value-init
loop-value-init c = omega (arith, ap length (first_none c.args.values.now))

pub overflow_add-total : goal.overflow_add-total
overflow_add-total c = omega (arith, c.decimal_length.ensures, decimal_most (get_or c.args.values.now c.loop-value.value-index 0))

pub overflow_add-total-in-loop-value : goal.overflow_add-total-in-loop-value
overflow_add-total-in-loop-value c =
    let values = c.args.values.now in
    let i = c.loop-value.value-index in
    let within = c.loop-value-test.true in
    omega (
      arith,
      c.decimal_length.ensures,
      decimal_most (get_or values i 0),
      c.loop-value.invariant,
      first_within values i (omega arith) (omega arith),
      line_most values,
      c.requires,
    )

pub loop-value-preserved : goal.loop-value-preserved
loop-value-preserved c =
    omega (arith, next_length c.args.values.now c.loop-value.value-index c.loop-value-test.true, c.decimal_length.ensures, c.loop-value.invariant)

pub returns : goal.returns
returns c =
    let values = c.args.values.now in
    let i = c.loop-value.value-index in
    let all : i ≡ length values = omega (arith, c.loop-value.auto.value-index-end, c.loop-value-test.false) in
    omega (arith, c.loop-value.invariant, ap length (first_all values i all))
