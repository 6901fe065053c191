-- `ceil_log b x` is the least exponent e with x ≤ b ^ e.
use Prim.Native.Nat.{ℕ, zero, suc, ◌+◌, ◌^◌, ◌≤◌, ◌<◌}
use native.Mathlib.Omega.{arith}
use native.Mathlib.Nat.{pow-le-pow_left}
use mathlib.Core.Path.{◌≡◌, refl}
use mathlib.Core.Bool.{Bool, true, false, cond}
use mathlib.Core.Logic.{inl, inr}
use lib.Dec.{leb}
use borrow.Author.Tests.{leb-true, leb-false}
use Rattle.theory.specs.Shape.{log_from, ceil_log, one_level_buckets, two_level_buckets}
use Rattle.theory.proofs.Cases.{split}

log_from_enough : (fuel b x e : ℕ) → x ≤ b ^ (e + fuel) → x ≤ b ^ log_from fuel b x e
unfolding log_from
log_from_enough zero b x e h = let q : e + 0 ≡ e = omega arith in rw q at h
log_from_enough (suc fuel) b x e h =
    let q : e + suc fuel ≡ suc e + fuel = omega arith in go (leb x (b ^ e)) refl (log_from_enough fuel b x (suc e) (rw q at h))
  where
    go : (t : Bool) → leb x (b ^ e) ≡ t → x ≤ b ^ log_from fuel b x (suc e) → x ≤ b ^ cond t e (log_from fuel b x (suc e))
    go true q ih = leb-true x (b ^ e) q
    go false q ih = ih

log_from_least : (fuel b x e i : ℕ) → e ≤ i → i < log_from fuel b x e → b ^ i < x
unfolding log_from
log_from_least zero b x e i l h = absurd (omega arith)
log_from_least (suc fuel) b x e i l h = go (leb x (b ^ e)) refl (λ k. log_from_least fuel b x (suc e) i k) h
  where
    go : (t : Bool) → leb x (b ^ e) ≡ t → (suc e ≤ i → i < log_from fuel b x (suc e) → b ^ i < x) → i < cond t e (log_from fuel b x (suc e)) → b ^ i < x
    go true q ih less = absurd (omega arith)
    go false q ih less = elim (split e i) [
      | inl k ↦ ih k less
      | inr k ↦ let z : i ≡ e = omega arith in rw z (leb-false x (b ^ e) q)
    ]

-- It is enough for C + 1, and no smaller exponent is.
pub ceil_log_enough : (b C : ℕ) → 2 ≤ b → C ≤ 1048575 → C + 1 ≤ b ^ ceil_log b (C + 1)
unfolding ceil_log
ceil_log_enough b C two few =
    let p : 2 ^ 20 ≤ b ^ 20 = pow-le-pow_left two 20 in
    log_from_enough 20 b (C + 1) 0 (omega arith)

pub ceil_log_least : (b x i : ℕ) → i < ceil_log b x → b ^ i < x
unfolding ceil_log
ceil_log_least b x i h = log_from_least 20 b x 0 i (omega arith) h

-- It is at most 20, so that there are at most 22 buckets of one level and 21 of two.
log_from_most : (fuel b x e : ℕ) → log_from fuel b x e ≤ e + fuel
unfolding log_from
log_from_most zero b x e = omega arith
log_from_most (suc fuel) b x e = go (leb x (b ^ e)) (log_from_most fuel b x (suc e))
  where
    go : (t : Bool) → log_from fuel b x (suc e) ≤ suc e + fuel → cond t e (log_from fuel b x (suc e)) ≤ e + suc fuel
    go true ih = omega arith
    go false ih = omega arith

pub ceil_log_most : (b x : ℕ) → ceil_log b x ≤ 20
unfolding ceil_log
ceil_log_most b x = omega (arith, log_from_most 20 b x 0)

pub one_level_most : (C : ℕ) → one_level_buckets C ≤ 22
unfolding one_level_buckets
one_level_most C = omega (arith, ceil_log_most 2 (C + 1))

pub two_level_most : (C K : ℕ) → two_level_buckets C K ≤ 21
unfolding two_level_buckets
two_level_most C K = omega (arith, ceil_log_most K (C + 1))
