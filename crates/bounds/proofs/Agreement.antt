-- What the theory of a shape says, said of words that agree with it (document 01, "One-level heap" and "Two-level heap").
use Prim.Native.Nat.{ℕ, ◌+◌, ◌-◌, ◌*◌, ◌≤◌, ◌<◌}
use native.Mathlib.Omega.{arith}
use mathlib.Core.Path.{◌≡◌, sym, ap, ◌∙◌}
use mathlib.Core.List.{List, ◌∷◌}
use lib.ListN.{length, length-drop}
use Rattle.theory.specs.Shape.{Shape}
use Rattle.theory.specs.Heap.{bound, rebound, bounds_after, bounds_from, first_bounds}
use Rattle.theory.specs.Lawful.{Lawful}
use Rattle.bounds.specs.Words.{bounds_of, size_of, rebound_words, first_words, segment_number, segment_end, Agrees}
use Rattle.bounds.proofs.Rebound.{rebound_same, rebound_alike}
use Rattle.bounds.proofs.First.{bounds_from_same, first_words_at}
use Rattle.bounds.proofs.Words.{rebound_words_bounds}

module _ {sh : Shape} {B K : ℕ} {sizes : List ℕ} (a : Agrees sh B K sizes) where
  pub first_agrees : first_bounds sh ≡ 0 ∷ bounds_from (size_of sizes) sh.top 1 0 (B - 1)
  unfolding first_bounds
  first_agrees =
      rw a.buckets (ap (λ (l : List ℕ). 0 ∷ l)
      (bounds_from_same sh.size (size_of sizes) sh.top 1 0 (B - 1) (λ i l h. a.size i l (omega (arith, a.sized.two)))))

  pub after_agrees : (j k d : ℕ) (u : List ℕ) → j ≤ B
      → bounds_after sh j k d u ≡ rebound (size_of sizes) (segment_end B K sizes j (bound u j) k) (d - 1) 1 (j - 1) u
  unfolding bounds_after
  after_agrees j k d u h =
      rw (a.end j (bound u j) k) (rebound_same sh.size (size_of sizes) _ (d - 1) 1 (j - 1) u (λ i l m. a.size i l (omega arith)))

  -- The code's words hold the heap's bounds, at first and after a removal from bucket j.
  module _ (n : ℕ) (w : List ℕ) (room : 4 * n + B < length w) where
    pub first_words_agree : (i : ℕ) → 1 ≤ i → i ≤ B → bound (bounds_of n (first_words n sizes B sh.top w)) i ≡ bound (first_bounds sh) i
    first_words_agree i l h =
        first_words_at n sizes B sh.top w (omega arith) room i l h ∙ sym (ap (λ (u : List ℕ). bound u i) first_agrees)

    pub after_words_agree : (j k d : ℕ) (u : List ℕ) → j ≤ B → B < length u → ((i : ℕ) → 1 ≤ i → i ≤ B → bound (bounds_of n w) i ≡ bound u i)
        → (i : ℕ) → 1 ≤ i → i ≤ B
        → bound (bounds_of n (rebound_words n sizes (segment_end B K sizes j (bound u j) k) (d - 1) 1 j w)) i ≡ bound (bounds_after sh j k d u) i
    after_words_agree j k d u h long same i l m =
        let end : ℕ = segment_end B K sizes j (bound u j) k in
        ap (λ (v : List ℕ). bound v i) (rebound_words_bounds n sizes end (d - 1) 1 j w (omega arith))
        ∙ rebound_alike (size_of sizes) end (d - 1) 1 (j - 1) (bounds_of n w) u i (rw length-drop (omega arith)) (omega arith) (same i l m)
        ∙ sym (ap (λ (v : List ℕ). bound v i) (after_agrees j k d u h))

  -- What the segment functions require, of a key x that stands within its bucket.
  pub segment_some : {C S : ℕ} → Lawful sh C S → (j u x : ℕ) → 1 ≤ j → x ≤ u → (j < B → u < x + sh.size j) → 1 ≤ segment_number B K sizes j u x
  segment_some law j u x low under near = rw (a.segment j u x) at (law.low j u x low under (rw (sym a.buckets) at near))
