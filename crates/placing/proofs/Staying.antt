-- A key that is in the segment of a node's place word has that word itself.
use Prim.Native.Nat.{ℕ, ◌+◌, ◌-◌, ◌*◌, ◌%◌, ◌≤◌, ◌<◌}
use native.Mathlib.Omega.{arith}
use mathlib.Core.Path.{◌≡◌, refl, sym, ◌∙◌, ap}
use mathlib.Core.Bool.{Bool, true, false}
use mathlib.Core.Logic.{◌≢◌}
use mathlib.Core.List.{List}
use Rattle.bounds.specs.Words.{segmented, segment_number, segment_end, in_segment}
use Rattle.bounds.proofs.Segments.{number_whole}
use Rattle.bounds.proofs.Inside.{segment_belongs}
use Rattle.buckets.specs.Words.{place_bucket, place_slot}
use Rattle.state.specs.declared.Layout.{Layout}
use Rattle.state.specs.Slots.{slot_of}
use Rattle.state.proofs.Slots.{slot_bucket_lem, slot_below}
use Rattle.placing.specs.Placing.{Standing, Stays}

-- A place word names this bucket and this slot.
pub record Names (place bucket slot : ℕ) : Type 0 where
  pub bucket_is : bucket ≡ place_bucket place
  pub slot_is : slot ≡ place_slot place

module _ {layout : Layout} {sizes : List ℕ} {u place key : ℕ} (S : Standing layout sizes u place key) where
  slot_few : slot_of layout.segments S.bucket S.segment + 1 < 512
  slot_few = omega (arith, slot_below S.fits, S.formed.slots, S.few)

  pub names_slot : 0 < place % 512
  names_slot = omega (arith, S.word, slot_few)

module _ {layout : Layout} {sizes : List ℕ} {u place key : ℕ} (S : Standing layout sizes u place key) {bucket slot : ℕ} (N : Names place bucket slot) where
  abbrev K : ℕ
  K = layout.segments

  abbrev B : ℕ
  B = layout.buckets

  same_bucket : bucket ≡ S.bucket
  same_bucket = omega (arith, N.bucket_is, S.word, slot_bucket_lem S.fits, slot_few S)

  same_slot : slot ≡ slot_of K S.bucket S.segment
  same_slot = omega (arith, N.slot_is, S.word, slot_few S)

  product : (bucket - 1) * K ≡ (S.bucket - 1) * K
  product = ap (λ (b : ℕ). (b - 1) * K) same_bucket

  pub product_few : (bucket - 1) * K < 512
  product_few = omega (arith, product, slot_few S)

  pub product_low : (bucket - 1) * K ≤ slot
  product_low = omega (arith, product, same_slot)

  -- The segment, as it is found from the place word.
  abbrev pub segment : ℕ
  segment = slot - (bucket - 1) * K + 1

  same : segment ≡ S.segment
  same = omega (arith, product, same_slot, S.fits.low)

  pub bucket_low : 1 ≤ bucket
  bucket_low = omega (arith, same_bucket, S.fits.first)

  pub segment_high : segment ≤ K
  segment_high = omega (arith, same, S.fits.high)

  pub below_end : key < segment_end B K sizes bucket u segment
  below_end = rw (same, same_bucket) S.below

  number : in_segment B K sizes bucket u segment key ≡ true → (t : Bool) → segmented B K bucket ≡ t → segment_number B K sizes bucket u key ≡ segment
  number I true e = segment_belongs B K sizes bucket u segment key segment_high below_end I e
  number I false e = number_whole B K sizes bucket u key e ∙ sym (S.whole (rw same_bucket at e)) ∙ sym same

  pub stays_word : {front found : ℕ} → key ≢ front → found ≡ bucket → in_segment B K sizes bucket u segment key ≡ true
      → Stays layout sizes front place key u found
  stays_word later there I = record {
    later = later;
    bucket = there ∙ N.bucket_is;
    word = rw (there, number I (segmented B K bucket) refl, same, same_bucket) (sym S.word);
  }
