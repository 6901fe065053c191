-- Bounds of buckets of any sizes: how many the first are, and that setting bounds anew leaves all others.
use Prim.Native.Nat.{ℕ, zero, suc, ◌+◌, ◌≤◌, ◌<◌, min}
use native.Mathlib.Omega.{arith}
use mathlib.Core.Path.{◌≡◌, refl, ◌∙◌}
use mathlib.Core.List.{List}
use lib.ListN.{length, length-set}
use lib.Seq.{get_or-set_other}
use Rattle.theory.specs.Heap.{bound, rebound, bounds_from}

pub bounds_from_length : (size : ℕ → ℕ) (top i sum left : ℕ) → length (bounds_from size top i sum left) ≡ suc left
unfolding bounds_from
bounds_from_length size top i sum zero = refl
bounds_from_length size top i sum (suc left) = let ih = bounds_from_length size top (suc i) (sum + size i) left in omega arith

module _ (size : ℕ → ℕ) (t : ℕ) where
  pub rebound_length : (before i left : ℕ) (u : List ℕ) → length (rebound size t before i left u) ≡ length u
  unfolding rebound
  rebound_length before i zero u = refl
  rebound_length before i (suc left) u = rebound_length (min (before + size i) t) (suc i) left _ ∙ length-set u i _

  pub rebound_before : (before i left : ℕ) (u : List ℕ) (p : ℕ) → p < i → bound (rebound size t before i left u) p ≡ bound u p
  unfolding rebound
  rebound_before before i zero u p h = refl
  rebound_before before i (suc left) u p h =
      rebound_before (min (before + size i) t) (suc i) left _ p (omega arith) ∙ get_or-set_other u i p _ 0 (omega arith)

  pub rebound_after : (before i left : ℕ) (u : List ℕ) (p : ℕ) → i + left ≤ p → bound (rebound size t before i left u) p ≡ bound u p
  unfolding rebound
  rebound_after before i zero u p h = refl
  rebound_after before i (suc left) u p h =
      rebound_after (min (before + size i) t) (suc i) left _ p (omega arith) ∙ get_or-set_other u i p _ 0 (omega arith)
