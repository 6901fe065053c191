-- Every entry that the two-level heap uses is a power: the sizes and the widths of the buckets below the last. Assumes nothing.
use Prim.Native.Nat.{ℕ, zero, suc, ◌+◌, ◌-◌, ◌^◌, ◌≤◌, ◌<◌}
use native.Mathlib.Omega.{arith}
use native.Mathlib.Nat.{pow-zero}
use mathlib.Core.Path.{◌≡◌, ◌∙◌}
use mathlib.Core.Logic.{◌⊎◌, inl, inr}
use lib.ListN.{get_or}
use Rattle.theory.specs.Shape.{two_level_buckets}
use Rattle.theory.proofs.Shapes.Logarithm.{ceil_log_least, two_level_most}
use Rattle.powers.specs.Powers.{power_row}
use Rattle.powers.proofs.Rule.{power_is, row_at}

-- K^(i - 1) is at most C for every bucket i below the last but the first.
used : (C K i : ℕ) → C ≤ 1048575 → i < two_level_buckets C K → (i ≡ 0) ⊎ (K ^ (i - 1) < 1048576)
unfolding two_level_buckets
used C K zero few h = inl (omega arith)
used C K (suc zero) few h = inr (omega (arith, pow-zero K))
used C K (suc (suc i)) few h =
    let e : suc (suc i) - 1 ≡ suc i = omega arith in
    inr (rw e (omega (arith, ceil_log_least K (C + 1) (suc i) (omega arith))))

pub row_used : (C K i : ℕ) → C ≤ 1048575 → 2 ≤ K → K ≤ 64 → i < two_level_buckets C K → get_or (power_row K) i 0 ≡ K ^ i
row_used C K i few low high h =
    row_at K i low high (omega (arith, two_level_most C K)) ∙ power_is K i (used C K i few h)
