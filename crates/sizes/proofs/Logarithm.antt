-- The search for the least exponent, one more at a time (document 01: ceil(log) in both formulas for B).
use Prim.Native.Nat.{ℕ, zero, suc, ◌+◌, ◌-◌, ◌^◌, ◌≤◌, ◌<◌}
use native.Mathlib.Nat.{pow-le-pow_left}
use native.Mathlib.Numerals.{add-one}
use native.Mathlib.Omega.{arith}
use mathlib.Core.Path.{◌≡◌, refl, sym, ◌∙◌}
use mathlib.Core.Logic.{inl, inr}
use borrow.Author.Tests.{le-leb, lt-leb}
use Rattle.theory.specs.Shape.{log_from, ceil_log}
use Rattle.theory.proofs.Cases.{split}

-- No exponent below e is enough for C + 1.
pub record Searched (b C e : ℕ) : Type 0 where
  pub most : e ≤ 20
  left : log_from (20 - e) b (C + 1) e ≡ ceil_log b (C + 1)

pub searched_first : (b C : ℕ) → Searched b C 0
unfolding ceil_log
searched_first b C = record { most = omega arith; left = refl }

module _ {b C e : ℕ} (s : Searched b C e) where
  pub not_last : 2 ≤ b → C ≤ 1048575 → b ^ e ≤ C → e < 20
  not_last two few low = elim (split e 20) [
    | inl h ↦ h
    | inr h ↦
        let q : e ≡ 20 = omega (arith, s.most) in
        let p : 2 ^ 20 ≤ b ^ 20 = pow-le-pow_left two 20 in
        absurd (omega (arith, rw q at low))
  ]

  pub searched_next : b ^ e ≤ C → e < 20 → Searched b C (e + 1)
  unfolding log_from
  searched_next low h =
      let q : 20 - e ≡ suc (20 - suc e) = omega arith in record {
        most = omega arith;
        left = rw add-one (rw (q, lt-leb (C + 1) (b ^ e) (omega arith)) at s.left);
      }

  pub searched_end : C < b ^ e → e ≡ ceil_log b (C + 1)
  unfolding log_from
  searched_end h = sym (go (20 - e)) ∙ s.left
    where
      go : (fuel : ℕ) → log_from fuel b (C + 1) e ≡ e
      go zero = refl
      go (suc fuel) = rw (le-leb (C + 1) (b ^ e) (omega arith))
