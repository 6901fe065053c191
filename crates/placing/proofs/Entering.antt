-- Where a key is put: the segment of the bucket found is one that there is, and the word stored is the key's.
use Prim.Native.Nat.{ℕ, ◌+◌, ◌-◌, ◌*◌, ◌≤◌, ◌<◌}
use native.Mathlib.Omega.{arith}
use mathlib.Core.Path.{◌≡◌, refl, sym, ◌∙◌, ap}
use mathlib.Core.Logic.{◌≢◌}
use mathlib.Core.List.{List}
use lib.ListN.{length}
use borrow.Author.Tests.{eq-eqb, ne_eqb}
use Rattle.theory.specs.Heap.{bound}
use Rattle.bounds.specs.Words.{bounds_of, segment_number}
use Rattle.buckets.specs.Words.{place_word, slot_bucket}
use Rattle.frontier.specs.Frontier.{Placed}
use Rattle.state.specs.declared.Layout.{Layout}
use Rattle.state.specs.Places.{is_word}
use Rattle.state.specs.Slots.{slot_of, slot_word, key_word, SlotFits}
use Rattle.state.proofs.Slots.{word_far, slot_bucket_lem, slot_below}
use Rattle.placing.specs.Placing.{Entering, Entered}

module _ {layout : Layout} {sizes words : List ℕ} {front v key b : ℕ} (E : Entering layout sizes words front v key b) where
  abbrev n : ℕ
  n = layout.nodes

  abbrev K : ℕ
  K = layout.segments

  abbrev B : ℕ
  B = layout.buckets

  pub entered_current : key ≡ front → {words' : List ℕ} → Placed n layout.slots K words words' v 1 → Entered layout sizes words words' front v key b 1
  entered_current e P =
      let q : key_word B K sizes (bounds_of n words) front key b ≡ 1 = rw (eq-eqb key front e) in
      record { placed = rw q P; counted = rw q }

  module _ (later : key ≢ front) where
    pub bucket_read : 4 * n + b < length words
    bucket_read = omega (arith, (E.enters.fits later).last, E.formed.sized.few, E.frontier.linked.fits.long)

    module _ {u : ℕ} (read : u ≡ bound (bounds_of n words) b) where
      pub slot_fits : SlotFits B K b (segment_number B K sizes b u key)
      slot_fits = rw read (E.enters.fits later)

      pub under : key ≤ u
      under = rw read (E.enters.under later)

      module _ {k : ℕ} (segment : k ≡ segment_number B K sizes b u key) where
        fits : SlotFits B K b k
        fits = rw segment slot_fits

        pub segment_low : 1 ≤ k
        segment_low = fits.low

        pub in_bucket : b ≡ slot_bucket K (slot_of K b k)
        in_bucket = sym (slot_bucket_lem fits)

        pub in_slots : slot_of K b k < layout.slots
        in_slots = omega (arith, slot_below fits, E.formed.slots)

        pub few : (b - 1) * K + (k - 1) < 512
        few = omega (arith, in_slots, E.frontier.linked.fits.few)

        pub entered_slot : {words' : List ℕ} → Placed n layout.slots K words words' v (place_word K (slot_of K b k)) → Entered layout sizes words words' front v key b 0
        entered_slot P =
            let q : slot_word K b k ≡ key_word B K sizes (bounds_of n words) front key b = rw (ne_eqb key front later) (rw (← read, ← segment) refl) in
            record { placed = rw q at P; counted = sym (ap (is_word 1) (sym q) ∙ (rw (ne_eqb (slot_word K b k) 1 (λ e. omega (arith, word_far K b k))))) }
