-- A removal from bucket j whose smallest key is d: the bounds that it leaves are sound, the keys of d's segment fall to lower buckets, also
-- from the last bucket, and the other keys stay where they are.
use Prim.Native.Nat.{ℕ, suc, ◌+◌, ◌-◌, ◌≤◌, ◌<◌, min}
use native.Mathlib.Omega.{arith}
use mathlib.Core.Path.{◌≡◌, refl, ◌∙◌}
use mathlib.Core.Logic.{inl, inr}
use mathlib.Core.List.{List}
use Rattle.theory.specs.Shape.{Shape}
use Rattle.theory.specs.Heap.{bound, bucket_from}
use Rattle.theory.proofs.Cases.{split}
use Rattle.theory.proofs.Heap.Laws.{total_mono}
use Rattle.theory.specs.Lawful.{total, Lawful}
use Rattle.theory.specs.Invariants.{Bounds, Fits, seg, seg_end, after}
use Rattle.theory.proofs.Heap.Bounds.{after_length, after_same, after_at}
use Rattle.theory.proofs.Heap.Buckets.{bucket_fits, fits_range, fits_order}

module _ {sh : Shape} {C S : ℕ} (law : Lawful sh C S) {last : ℕ} {u : List ℕ} (B : Bounds sh last u) {j d : ℕ} (fit : Fits sh u j d) (late : last ≤ d) where
  -- A key of d's segment is at most the segment's end.
  below_end : {x : ℕ} → Fits sh u j x → 1 < j → seg sh u j x ≡ seg sh u j d → x ≤ seg_end sh u j d
  below_end {x} f l e = elim (split j sh.buckets) [
    | inl h ↦ rw e at (law.inside j (bound u j) x f.low h f.under (fits_range B f l h))
    | inr h ↦ omega (arith, law.end_last j (bound u j) (seg sh u j d) h, f.under)
  ]

  same : (p : ℕ) → j ≤ p → bound (after sh u j d) p ≡ bound u p
  same = after_same sh j (seg sh u j d) d u fit.low

  anew : (p : ℕ) → 1 ≤ p → p < j → bound (after sh u j d) p ≡ min (d - 1 + total sh p) (seg_end sh u j d)
  anew p l h = after_at sh j (seg sh u j d) d u fit.low (omega (arith, B.long, fit.high)) (below_end fit (omega arith) refl) p l h

  -- In the words of document 01, where j is not 1: u(1) = min(d - 1 + size(1), t) and u(i) = min(u(i - 1) + size(i), t) for 2 ≤ i < j.
  pub after_first : 1 < j → bound (after sh u j d) 1 ≡ min (d - 1 + sh.size 1) (seg_end sh u j d)
  unfolding total
  after_first l = omega (arith, anew 1 (omega arith) l)

  pub after_next : (i : ℕ) → 1 ≤ i → suc i < j → bound (after sh u j d) (suc i) ≡ min (bound (after sh u j d) i + sh.size (suc i)) (seg_end sh u j d)
  unfolding total
  after_next i l h = omega (arith, anew i l (omega arith), anew (suc i) (omega arith) h)

  pub bounds_after_lem : Bounds sh d (after sh u j d)
  unfolding total
  bounds_after_lem = record {
    long = after_length sh j (seg sh u j d) d u fit.low ∙ B.long;
    top = same sh.buckets fit.high ∙ B.top;
    rise = λ i k l m h. elim (split k j) [
      | inl g ↦ omega (arith, anew i l (omega arith), anew k (omega arith) g, total_mono sh i k m)
      | inr g ↦ elim (split i j) [
        | inl f ↦ omega (arith, anew i l f, same k g, law.end_low j (bound u j) (seg sh u j d), B.rise j k fit.low g h)
        | inr f ↦ omega (arith, same i f, same k g, B.rise i k l m h)
      ]
    ];
    range = λ i l h. elim (split (suc i) j) [
      | inl g ↦ omega (arith, anew i l (omega arith), anew (suc i) (omega arith) g)
      | inr g ↦ elim (split i j) [
        | inl f ↦ omega (arith, anew i l f, same (suc i) g, B.range i l h, fit.over i l f, below_end fit (omega arith) refl, law.sizes 1, total_mono sh 1 i l)
        | inr f ↦ omega (arith, same i f, same (suc i) g, B.range i l h)
      ]
    ];
    first = elim (split 1 j) [
      | inl g ↦ omega (arith, anew 1 (omega arith) g, fit.over 1 (omega arith) g, law.sizes 1)
      | inr g ↦ omega (arith, same 1 g, B.first)
    ];
    reach = elim (split 1 j) [
      | inl g ↦ omega (arith, anew 1 (omega arith) g, below_end fit g refl, law.sizes 1)
      | inr g ↦ let q : j ≡ 1 = omega (arith, fit.low) in omega (arith, same 1 g, rw q at fit.under)
    ];
  }

  -- The new bounds below j reach up to each key of d's segment.
  reach : {x : ℕ} → Fits sh u j x → x ≤ d + C → 1 < j → seg sh u j x ≡ seg sh u j d → x ≤ bound (after sh u j d) (j - 1)
  reach f near l e =
      let a = anew (j - 1) (omega arith) (omega arith) in
      let b = below_end f l e in
      let o = fit.over 1 (omega arith) l in
      elim (split j sh.buckets) [
        | inl h ↦ omega (arith, law.holds j (bound u j) d l h fit.under (fits_range B fit l h))
        | inr h ↦ omega (arith, law.holds_last, total_mono sh (sh.buckets - 1) (j - 1) (omega arith))
      ]

  -- A key of d's segment is shifted to a lower bucket, where it fits.
  pub shift_fits : {x : ℕ} → Fits sh u j x → x ≤ d + C → 1 < j → seg sh u j x ≡ seg sh u j d
      → Fits sh (after sh u j d) (bucket_from (after sh u j d) x j) x × (bucket_from (after sh u j d) x j < j)
  shift_fits {x} f near l e =
      let r = bucket_fits bounds_after_lem x (j - 1) j (omega arith) (omega arith) fit.high (reach f near l e) in
      (r.0, omega arith)

  -- Any other key that is no smaller than d fits where it is.
  pub stay_fits : {b x : ℕ} → Fits sh u b x → d ≤ x → (1 < j → b ≡ j → seg sh u j x ≡ seg sh u j d → ⊥) → Fits sh (after sh u j d) b x
  stay_fits {b} {x} f h other = record {
    low = f.low;
    high = f.high;
    under = omega (arith, same b up, f.under);
    over = λ p l m. elim (split p j) [
      | inl g ↦ elim (split j b) [
        | inl o ↦ omega (arith, anew p l g, law.end_low j (bound u j) (seg sh u j d), f.over j fit.low o)
        | inr o ↦ let q : b ≡ j = omega (arith, up) in
            omega (arith, anew p l g, law.above j (bound u j) d x (rw q at f.under) (omega (arith, f.over p l m)) (higher (omega arith) q))
      ]
      | inr g ↦ omega (arith, same p g, f.over p l m)
    ];
  }
    where
      up : j ≤ b
      up = fits_order fit f h

      higher : 1 < j → b ≡ j → seg sh u j d < seg sh u j x
      higher l q = elim (split (seg sh u j d) (seg sh u j x)) [
        | inl g ↦ g
        | inr g ↦ absurd (other l q (omega (arith, law.rising j (bound u j) d x h)))
      ]
