-- The one-level shape is lawful.
use Prim.Native.Nat.{ℕ, zero, suc, ◌+◌, ◌-◌, ◌^◌, ◌≤◌, ◌<◌}
use native.Mathlib.Omega.{arith}
use native.Mathlib.Nat.{one-le-pow}
use mathlib.Core.Path.{◌≡◌, refl}
use borrow.Author.Tests.{lt-leb}
use Rattle.theory.specs.Shape.{ceil_log, one_level_buckets, one_level}
use Rattle.theory.specs.Lawful.{total, Lawful}
use Rattle.theory.proofs.Shapes.Logarithm.{ceil_log_enough}

module _ (n C : ℕ) where
  pub size_one : (i : ℕ) → (one_level n C).size (suc (suc i)) ≡ 2 ^ i
  unfolding one_level
  size_one i = let e : suc (suc i) - 2 ≡ i = omega arith in rw (lt-leb (suc (suc i)) 1 (omega arith), e)

  -- size(1) + .. + size(i + 1) = 2^i
  pub total_one : (i : ℕ) → total (one_level n C) (suc i) ≡ 2 ^ i
  unfolding total one_level
  total_one zero = refl
  total_one (suc i) = omega (arith, total_one i, size_one i)

  size_below : (j : ℕ) → 1 < j → (one_level n C).size j ≡ total (one_level n C) (j - 1)
  size_below zero l = absurd (omega arith)
  size_below (suc zero) l = absurd (omega arith)
  size_below (suc (suc i)) l = let e : suc (suc i) - 1 ≡ suc i = omega arith in rw (e, total_one) (size_one i)

  size_pos : (i : ℕ) → 0 < (one_level n C).size i
  unfolding one_level
  size_pos zero = omega arith
  size_pos (suc zero) = omega arith
  size_pos (suc (suc i)) = omega (arith, size_one i, one-le-pow i 2 (omega arith))

  pub lawful_one : C ≤ 1048575 → Lawful (one_level n C) C 0
  unfolding one_level one_level_buckets
  lawful_one few = record {
    two = omega arith;
    sizes = size_pos;
    holds = λ j u x l h le r. omega (arith, size_below j l);
    holds_last = let e : ceil_log 2 (C + 1) + 2 - 1 ≡ suc (ceil_log 2 (C + 1)) = omega arith in rw (e, total_one) (omega (arith, ceil_log_enough 2 C (omega arith) few));
    inside = λ j u x l h le r. le;
    low = λ j u x l le r. omega arith;
    single = λ u x le r. omega arith;
    above = λ j u x y le pos less. absurd (omega arith);
    rising = λ j u x y le. omega arith;
    end_low = λ j u k. omega arith;
    end_last = λ j u k h. refl;
    looked = λ j u x. omega arith;
  }
