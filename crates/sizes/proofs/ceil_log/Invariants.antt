-- `sizes::ceil_log` meets its contract: `power` is the power of the exponent, and no smaller exponent is enough.
use Prim.Native.Nat.{◌-◌, ◌^◌}
use mathlib.Core.Path.{◌≡◌}
use Rattle.sizes.proofs.Logarithm.{Searched}
use Rattle.sizes.proofs.ceil_log.Given as goal

abbrev pub invariant-loop-power : goal.invariant-loop-power
invariant-loop-power l = (l.power ≡ l.base ^ l.exponent) × Searched l.base l.ceiling l.exponent

abbrev pub decreases-loop-power : goal.decreases-loop-power
decreases-loop-power l = 20 - l.exponent
