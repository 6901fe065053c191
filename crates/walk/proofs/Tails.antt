-- The tail of an arc, found by halving: what each half keeps. Assumes nothing.
use Prim.Native.Nat.{ℕ, suc, ◌+◌, ◌≤◌, ◌<◌}
use native.Mathlib.Omega.{arith}
use mathlib.Core.Path.{◌≡◌, subst}
use mathlib.Core.List.{List}
use mathlib.Core.Logic.{inl, inr}
use lib.ListN.{length, get_or}
use Rattle.theory.specs.Maps.{LeavesBy}
use Rattle.theory.proofs.Cases.{split}
use Rattle.walk.specs.Walk.{Tailed}

-- The arc leaves one of the nodes from `low` up to but not including `high`.
pub record Within (n : ℕ) (starts : List ℕ) (a low high : ℕ) : Type 0 where
  pub some : low < high
  pub high_node : high ≤ n
  pub from : get_or starts low 0 ≤ a
  pub to : a < get_or starts high 0

module _ {n : ℕ} {starts : List ℕ} {a : ℕ} (T : Tailed n starts a) where
  pub within_start : Within n starts a 0 n
  within_start = record {
    some = elim (split 0 n) [
      | inl l ↦ l
      | inr l ↦ let e : n ≡ 0 = omega arith in absurd (omega (arith, T.first, rw e at T.last))
    ];
    high_node = omega arith;
    from = T.first;
    to = T.last;
  }

  pub within_inside : {low high middle : ℕ} → Within n starts a low high → middle < high → middle < length starts
  within_inside W l = omega (arith, T.count, W.high_node)

pub within_end : {n : ℕ} (starts : List ℕ) (a low high : ℕ) → Within n starts a low high → high ≤ low + 1 → LeavesBy starts a low
within_end starts a low high W l =
    let e : high ≡ suc low = omega (arith, W.some) in
    (W.from, subst (λ (k : ℕ). a < get_or starts k 0) e W.to)
