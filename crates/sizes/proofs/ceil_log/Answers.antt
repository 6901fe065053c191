-- `sizes::ceil_log` meets its contract: `power` is the power of the exponent, and no smaller exponent is enough.
use Prim.Native.Nat.{◌+◌, ◌*◌, ◌^◌, ◌≤◌, ◌<◌}
use native.Mathlib.Nat.{mul-le-mul_left, pow-zero, pow-suc}
use native.Mathlib.Numerals.{add-one}
use native.Mathlib.Omega.{arith}
use mathlib.Core.Path.{◌≡◌, sym}
use borrow.Author.Rules.{rules}
use Rattle.sizes.proofs.Logarithm.{searched_first, not_last, searched_next, searched_end}
use Rattle.sizes.proofs.ceil_log.Goals as goal

pub loop-power-init : goal.loop-power-init
loop-power-init c = (sym (pow-zero c.args.base), searched_first c.args.base c.args.ceiling)

pub overflow_mul-power : goal.overflow_mul-power
overflow_mul-power c =
    let product : c.loop-power.power * c.args.base ≤ c.loop-power.power * 64 = mul-le-mul_left c.loop-power.power (search rules) in
    omega (arith, product)

pub overflow_add-exponent : goal.overflow_add-exponent
overflow_add-exponent c =
    let low : c.args.base ^ c.loop-power.exponent ≤ c.args.ceiling = omega (arith, c.loop-power.invariant.0) in
    let few : c.loop-power.exponent < 20 = not_last c.loop-power.invariant.1 (search rules) (search rules) low in
    omega (arith, few)

pub loop-power-smaller : goal.loop-power-smaller
loop-power-smaller c =
    let low : c.args.base ^ c.loop-power.exponent ≤ c.args.ceiling = omega (arith, c.loop-power.invariant.0) in
    let few : c.loop-power.exponent < 20 = not_last c.loop-power.invariant.1 (search rules) (search rules) low in
    omega (arith, few)

pub loop-power-preserved : goal.loop-power-preserved
loop-power-preserved c =
    let low : c.args.base ^ c.loop-power.exponent ≤ c.args.ceiling = omega (arith, c.loop-power.invariant.0) in
    let few : c.loop-power.exponent < 20 = not_last c.loop-power.invariant.1 (search rules) (search rules) low in
    let power-next : c.loop-power.power * c.args.base ≡ c.args.base ^ (c.loop-power.exponent + 1) = rw (add-one, pow-suc, c.loop-power.invariant.0) in
    (power-next, searched_next c.loop-power.invariant.1 (low) (few))

pub returns : goal.returns
returns c = searched_end c.loop-power.invariant.1 (omega (arith, c.loop-power.invariant.0))
