-- The tail of an arc, as the definition finds it from starts, is the one node that the arc leaves. Assumes nothing.
use Prim.Native.Nat.{ℕ, zero, suc, ◌+◌, ◌≤◌, ◌<◌}
use native.Mathlib.Omega.{arith}
use mathlib.Core.Path.{◌≡◌}
use mathlib.Core.List.{List}
use mathlib.Core.Logic.{inl, inr}
use lib.ListN.{get_or}
use borrow.Author.Tests.{lt-ltb, le-ltb}
use Rattle.theory.specs.Maps.{Map, arcs, LeavesBy, Leaves, tail_from_lem, tail_of, Sound}
use Rattle.theory.proofs.Cases.{split}
use Rattle.theory.proofs.Maps.Arcs.{leaves_arc, leaves_once}

tail_from : (starts : List ℕ) (a v left : ℕ) → get_or starts v 0 ≤ a → a < get_or starts (v + left) 0 → LeavesBy starts a (tail_from_lem starts a v left)
unfolding tail_from_lem
tail_from starts a v zero low high = let e : v + 0 ≡ v = omega arith in absurd (omega (arith, low, rw e at high))
tail_from starts a v (suc left) low high = elim (split a (get_or starts (suc v) 0)) [
  | inl l ↦ rw (lt-ltb a (get_or starts (suc v) 0) l) (low, l)
  | inr l ↦ rw (le-ltb a (get_or starts (suc v) 0) l) (let e : v + suc left ≡ suc v + left = omega arith in tail_from starts a (suc v) left l (rw e at high))
]

module _ {M : Map} {source : ℕ} (sound : Sound M source) where
  pub tail_leaves : (a : ℕ) → a < arcs M → Leaves M a (tail_of M.nodes M.starts a)
  tail_leaves a l =
      tail_from M.starts a 0 M.nodes (omega (arith, sound.starts_first))
      (let e : 0 + M.nodes ≡ M.nodes = omega arith in rw e (omega (arith, sound.starts_last)))

  pub tail_is : (a v : ℕ) → Leaves M a v → tail_of M.nodes M.starts a ≡ v
  tail_is a v h = leaves_once sound a (tail_of M.nodes M.starts a) v (tail_leaves a (leaves_arc sound a v h)) h
