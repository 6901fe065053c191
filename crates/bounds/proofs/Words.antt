-- Bounds set anew in the words: the bounds there are, the words kept (document 01, "Two-level heap").
use Prim.Native.Nat.{ℕ, ◌+◌, ◌-◌, ◌*◌, ◌≤◌, ◌<◌}
use native.Mathlib.Omega.{arith}
use mathlib.Core.Path.{◌≡◌, sym, ap, ◌∙◌}
use mathlib.Core.Logic.{inl, inr}
use mathlib.Core.List.{List}
use lib.ListN.{length, get_or, take, length-append, length-drop, get_or-append}
use lib.Seq.{length-take-le, drop_at, get_or-take, get_or-drop}
use Rattle.theory.specs.Heap.{bound, rebound}
use Rattle.theory.proofs.Cases.{split}
use Rattle.bounds.specs.Words.{bounds_of, size_of, rebound_words}
use Rattle.theory.proofs.Heap.Rebound.{rebound_length, rebound_before, rebound_after}

module _ (n : ℕ) (sizes : List ℕ) (end before from to : ℕ) (w : List ℕ) (room : 4 * n ≤ length w) where
  front : length (take (4 * n) w) ≡ 4 * n
  front = length-take-le (4 * n) w room

  pub rebound_words_bounds : bounds_of n (rebound_words n sizes end before from to w) ≡ rebound (size_of sizes) end before from (to - from) (bounds_of n w)
  unfolding rebound_words
  rebound_words_bounds = drop_at (take (4 * n) w) _ (4 * n) front

  pub rebound_words_length : length (rebound_words n sizes end before from to w) ≡ length w
  unfolding rebound_words
  rebound_words_length = simp (length-append, rebound_length, length-drop) (omega (arith, front))

  -- A word is kept where it is none of the bounds set.
  kept : (p q : ℕ) → q ≡ 4 * n + p → bound (rebound (size_of sizes) end before from (to - from) (bounds_of n w)) p ≡ bound (bounds_of n w) p
      → get_or (rebound_words n sizes end before from to w) q 0 ≡ get_or w q 0
  kept p q e same =
      rw e (sym (get_or-drop (4 * n) _ p 0) ∙ ap (λ (l : List ℕ). bound l p) rebound_words_bounds ∙ same ∙ get_or-drop (4 * n) w p 0)

  pub rebound_words_before : (q : ℕ) → q < 4 * n + from → get_or (rebound_words n sizes end before from to w) q 0 ≡ get_or w q 0
  unfolding rebound_words
  rebound_words_before q h = elim (split q (4 * n)) [
    | inl l ↦ get_or-append (take (4 * n) w) _ 0 q (omega (arith, front)) ∙ get_or-take (4 * n) w q 0 l
    | inr l ↦ kept (q - 4 * n) q (omega arith) (rebound_before (size_of sizes) end before from (to - from) (bounds_of n w) (q - 4 * n) (omega arith))
  ]

  pub rebound_words_after : (q : ℕ) → from ≤ to → 4 * n + to ≤ q → get_or (rebound_words n sizes end before from to w) q 0 ≡ get_or w q 0
  rebound_words_after q l h =
      kept (q - 4 * n) q (omega arith) (rebound_after (size_of sizes) end before from (to - from) (bounds_of n w) (q - 4 * n) (omega arith))
