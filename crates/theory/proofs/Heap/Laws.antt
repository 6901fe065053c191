-- What a shape must satisfy for the heap's theory, which is proved once for every such shape (document 000, inequality (1)).
use Prim.Native.Nat.{ℕ, zero, suc, ◌≤◌}
use native.Mathlib.Omega.{arith}
use mathlib.Core.Path.{◌≡◌}
use mathlib.Core.Logic.{inl, inr}
use Rattle.theory.specs.Shape.{Shape}
use Rattle.theory.specs.Lawful.{total}
use Rattle.theory.proofs.Cases.{split}

pub total_mono : (sh : Shape) (i k : ℕ) → i ≤ k → total sh i ≤ total sh k
unfolding total
total_mono sh i zero h = let e : i ≡ 0 = omega arith in rw e (omega arith)
total_mono sh i (suc k) h = elim (split i (suc k)) [
  | inl l ↦ let ih = total_mono sh i k (omega arith) in omega arith
  | inr l ↦ let e : i ≡ suc k = omega arith in rw e (omega arith)
]
