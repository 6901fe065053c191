-- The numbering of segments: each has a slot of its own, whose place word tells the bucket.
use Prim.Native.Nat.{ℕ, suc, ◌+◌, ◌-◌, ◌*◌, ◌/◌, ◌≤◌, ◌<◌}
use native.Mathlib.Omega.{arith}
use native.Mathlib.Nat.{mul-le-mul_right}
use mathlib.Core.Path.{◌≡◌, refl, ◌∙◌, ap, subst}
use mathlib.Core.Bool.{Bool, true, false}
use mathlib.Core.Logic.{◌≢◌, inl, inr, ⊎_elim}
use mathlib.Core.List.{List}
use lib.Arith.{digits_div}
use borrow.Author.Tests.{eq-eqb, ne_eqb}
use Rattle.theory.specs.Shape.{Shape}
use Rattle.theory.specs.Heap.{bound}
use Rattle.theory.proofs.Cases.{split, same?}
use Rattle.theory.specs.Lawful.{Lawful}
use Rattle.theory.specs.Invariants.{Bounds, Fits}
use Rattle.theory.proofs.Heap.Buckets.{late_range}
use Rattle.bounds.specs.Words.{segmented, segment_number, segment_end, Agrees}
use Rattle.bounds.proofs.Segments.{segmented_below, number_whole, number_most}
use Rattle.buckets.specs.Words.{slot_bucket}
use Rattle.state.specs.Slots.{slot_of, slot_word, key_word, SlotFits, Enters}

pub word_far : (K b k : ℕ) → 512 ≤ slot_word K b k
word_far K b k = omega arith

module _ {B K b k : ℕ} (f : SlotFits B K b k) where
  pub slot_bucket_lem : slot_bucket K (slot_of K b k) ≡ b
  slot_bucket_lem =
      let e : ((b - 1) * K + (k - 1)) / K ≡ b - 1 = digits_div (b - 1) (omega (arith, f.low, f.high)) in
      omega (arith, f.first)

  pub slot_below : slot_of K b k < (B - 1) * K + 1
  slot_below = elim (split b B) [
    | inl l ↦ let h : suc (b - 1) * K ≤ (B - 1) * K = mul-le-mul_right K (omega (arith, f.first)) in omega (arith, f.high, f.low)
    | inr l ↦ let e : b ≡ B = omega (arith, f.last) in let o = f.whole e in rw e (omega arith)
  ]

-- Two segments that fit and have one place word are one.
module _ {B K b k c m : ℕ} (f : SlotFits B K b k) (g : SlotFits B K c m) (few : (B - 1) * K + 1 < 512) (e : slot_word K b k ≡ slot_word K c m) where
  same_bucket : b ≡ c
  same_bucket = omega (arith, slot_bucket_lem f, slot_bucket_lem g, slot_below f, slot_below g)

  pub same_slot : (b ≡ c) × (k ≡ m)
  same_slot =
      let q = same_bucket in
      let r : (b - 1) * K ≡ (c - 1) * K = ap (λ (i : ℕ). (i - 1) * K) q in
      (q, omega (arith, f.low, g.low, slot_bucket_lem f, slot_bucket_lem g))

-- A key that fits its bucket has such a segment there.
pub key_fits : {sh : Shape} {C S last B K : ℕ} {sizes u : List ℕ} → Lawful sh C S → Agrees sh B K sizes → Bounds sh last u → {b x : ℕ} → Fits sh u b x → last ≤ x
    → SlotFits B K b (sh.segment b (bound u b) x)
key_fits {sh} {last = last} {B = B} {K = K} {sizes = sizes} {u = u} law agree bounds {b} {x} fit late = record {
  first = fit.low;
  last = omega (arith, fit.high, agree.buckets);
  low = law.low b (bound u b) x fit.low fit.under (late_range bounds fit late);
  high = rw (agree.segment b (bound u b) x) (number_most B K sizes b (bound u b) x agree.some);
  whole = λ e. agree.segment b (bound u b) x ∙ number_whole B K sizes b (bound u b) x (unsegmented e);
}
  where
    unsegmented : b ≡ B → segmented B K b ≡ false
    unsegmented e = go (segmented B K b) refl
      where
        go : (t : Bool) → segmented B K b ≡ t → t ≡ false
        go true q = absurd (omega (arith, segmented_below B K b q))
        go false q = refl

-- It is at most the end of that segment.
pub key_end : {sh : Shape} {C S last B K : ℕ} {sizes u : List ℕ} → Lawful sh C S → Agrees sh B K sizes → Bounds sh last u → {b x : ℕ} → Fits sh u b x → last ≤ x
    → x ≤ segment_end B K sizes b (bound u b) (sh.segment b (bound u b) x)
key_end {sh} {u = u} law agree bounds {b} {x} fit late =
    let e = agree.end b (bound u b) (sh.segment b (bound u b) x) in
    elim (split b sh.buckets) [
      | inl h ↦ omega (arith, e, law.inside b (bound u b) x fit.low h fit.under (late_range bounds fit late h))
      | inr h ↦ omega (arith, e, law.end_last b (bound u b) (sh.segment b (bound u b) x) h, fit.under)
    ]

-- The place of a key depends on the bounds of the buckets alone.
module _ {B K : ℕ} {sizes u : List ℕ} {front x b : ℕ} (E : Enters B K sizes u front x b) (u' : List ℕ) (same : (i : ℕ) → 1 ≤ i → i ≤ B → bound u i ≡ bound u' i) where
  same_bound : x ≢ front → bound u b ≡ bound u' b
  same_bound later = let f = E.fits later in same b f.first f.last

  pub same_word : key_word B K sizes u front x b ≡ key_word B K sizes u' front x b
  same_word = ⊎_elim
      (λ e. rw (eq-eqb x front e))
      (λ q. rw (ne_eqb x front q, same_bound q))
      (same? x front)

  pub same_enters : Enters B K sizes u' front x b
  same_enters = record {
    fits = λ q. subst (λ (c : ℕ). SlotFits B K b (segment_number B K sizes b c x)) (same_bound q) (E.fits q);
    under = λ q. rw (← (same_bound q)) (E.under q);
  }
