-- The bounds u(1), .., u(B): what holds of them, what they are at first, and what a removal makes of them.
use Prim.Native.Nat.{ℕ, zero, suc, ◌+◌, ◌-◌, ◌≤◌, ◌<◌, min}
use native.Mathlib.Omega.{arith}
use mathlib.Core.Path.{◌≡◌, refl, ◌∙◌}
use mathlib.Core.Logic.{inl, inr}
use mathlib.Core.List.{List, ◌∷◌}
use lib.ListN.{length, set, length-set}
use lib.Seq.{get_or-set_same}
use Rattle.theory.specs.Shape.{Shape}
use Rattle.theory.specs.Heap.{bound, rebound, bounds_after, bounds_from, first_bounds}
use Rattle.theory.proofs.Cases.{split}
use Rattle.theory.proofs.Heap.Rebound.{bounds_from_length, rebound_length, rebound_before, rebound_after}
use Rattle.theory.proofs.Heap.Laws.{total_mono}
use Rattle.theory.specs.Lawful.{total, Lawful}
use Rattle.theory.specs.Invariants.{Bounds}

-- The first bounds: u(p) = min(size(1) + .. + size(p) - 1, u(B)).
module _ (sh : Shape) where
  bounds_from_last : (i sum left : ℕ) → bound (bounds_from sh.size sh.top i sum left) left ≡ sh.top
  unfolding bounds_from
  bounds_from_last i sum zero = refl
  bounds_from_last i sum (suc left) = bounds_from_last (suc i) (sum + sh.size i) left

  bounds_from_at : (i left q p : ℕ) → q < left → p ≡ suc (i + q) → bound (bounds_from sh.size sh.top (suc i) (total sh i) left) q ≡ min (total sh p - 1) sh.top
  unfolding bounds_from total
  bounds_from_at i zero q p h e = absurd (omega arith)
  bounds_from_at i (suc left) zero p h e = let q : p ≡ suc i = omega arith in rw q
  bounds_from_at i (suc left) (suc q) p h e = bounds_from_at (suc i) left q p (omega arith) (omega arith)

  pub first_at : (p : ℕ) → 1 ≤ p → p < sh.buckets → bound (first_bounds sh) p ≡ min (total sh p - 1) sh.top
  unfolding first_bounds total
  first_at zero l h = absurd (omega arith)
  first_at (suc q) l h = bounds_from_at 0 (sh.buckets - 1) q (suc q) (omega arith) (omega arith)

  pub first_top : 2 ≤ sh.buckets → bound (first_bounds sh) sh.buckets ≡ sh.top
  unfolding first_bounds
  first_top two = go sh.buckets (omega arith)
    where
      go : (b : ℕ) → b ≡ suc (sh.buckets - 1) → bound (0 ∷ bounds_from sh.size sh.top 1 0 (sh.buckets - 1)) b ≡ sh.top
      go b e = rw e (bounds_from_last 1 0 (sh.buckets - 1))

pub bounds_first : {sh : Shape} {C S : ℕ} → Lawful sh C S → Bounds sh 0 (first_bounds sh)
unfolding first_bounds total
bounds_first {sh} law = record {
  long = omega (arith, bounds_from_length sh.size sh.top 1 0 (sh.buckets - 1), law.two);
  top = first_top sh law.two;
  rise = λ i k l m h. elim (split k sh.buckets) [
    | inl g ↦ omega (arith, first_at sh i l (omega arith), first_at sh k (omega arith) g, total_mono sh i k m)
    | inr g ↦ let q : k ≡ sh.buckets = omega arith in elim (split i sh.buckets) [
      | inl f ↦ rw q (omega (arith, first_at sh i l f, first_top sh law.two))
      | inr f ↦ let r : i ≡ k = omega arith in rw r (omega arith)
    ]
  ];
  range = λ i l h. omega (arith, first_at sh i l (omega arith), first_at sh (suc i) (omega arith) h, law.sizes 1, total_mono sh 1 i l);
  first = omega (arith, first_at sh 1 (omega arith) law.two, law.sizes 1);
  reach = omega arith;
}

-- Setting bounds anew: those from i on, `left` of them.
module _ (sh : Shape) (t : ℕ) where
  rebound_at : (a last i left : ℕ) (u : List ℕ) (p : ℕ) → last ≡ min (a + total sh i) t → i + left < length u → i < p → p ≤ i + left
      → bound (rebound sh.size t last (suc i) left u) p ≡ min (a + total sh p) t
  unfolding rebound total
  rebound_at a last i zero u p e long h k = absurd (omega arith)
  rebound_at a last i (suc left) u p e long h k =
      let y : ℕ = min (last + sh.size (suc i)) t in
      let y-is : y ≡ min (a + total sh (suc i)) t = omega arith in
      elim (split (suc i) p) [
        | inl l ↦ rebound_at a y (suc i) left (set u (suc i) y) p y-is (rw length-set (omega arith)) l (omega arith)
        | inr l ↦ let q : p ≡ suc i = omega arith in rw q
            (rebound_before sh.size t y (suc (suc i)) left (set u (suc i) y) (suc i) (omega arith) ∙ get_or-set_same u (suc i) y 0 (omega arith) ∙ y-is)
      ]

-- After a removal from segment k of bucket j with smallest key d, u(p) = min(d - 1 + size(1) + .. + size(p), the segment's end) below j,
-- and u(p) is unchanged from j on.
module _ (sh : Shape) (j k d : ℕ) (u : List ℕ) (low : 1 ≤ j) where
  pub after_length : length (bounds_after sh j k d u) ≡ length u
  unfolding bounds_after
  after_length = rebound_length sh.size (sh.end j (bound u j) k) (d - 1) 1 (j - 1) u

  pub after_same : (p : ℕ) → j ≤ p → bound (bounds_after sh j k d u) p ≡ bound u p
  unfolding bounds_after
  after_same p h = rebound_after sh.size (sh.end j (bound u j) k) (d - 1) 1 (j - 1) u p (omega arith)

  pub after_at : j < length u → d ≤ sh.end j (bound u j) k → (p : ℕ) → 1 ≤ p → p < j
      → bound (bounds_after sh j k d u) p ≡ min (d - 1 + total sh p) (sh.end j (bound u j) k)
  unfolding bounds_after total
  after_at long e p l h = rebound_at sh (sh.end j (bound u j) k) (d - 1) (d - 1) 0 (j - 1) u p (omega arith) (omega arith) l (omega arith)
