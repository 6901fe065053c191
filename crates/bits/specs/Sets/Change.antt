-- A bit of the set and its word's bit of the summary are turned: the words are a set again. Assumes nothing.
use Rattle.std.specs.Prelude.{◌≡◌, refl, ◌⊎◌, ◌≢◌, List, ℕ, ◌+◌, ◌-◌, ◌*◌, ◌/◌, ◌%◌, ◌^◌, ◌≤◌, ◌<◌, get_or, set}
use Rattle.std.proofs.Common.{sym, ap, ◌∙◌, subst, inl, inr, div-lt_iff_lt-mul, mod-lt, arith, length-set, get_or-set_same, get_or-set_other}
use Rattle.std.proofs.Math.Decide.{ℕ_discrete}
use Rattle.std.proofs.lemmas.List.{set-get_or}
use Rattle.bits.specs.Word.{bit, one_bit, Turned}
use Rattle.bits.specs.Word.Laws.{bit_cases, set_bit, clear_le, clear_bit, keep_bit, nonzero}
use Rattle.bits.specs.Sets.{bit_words, summary_words, at, In, Room, BitSet, Kept, Changed, Inserted, Removed}
use Rattle.bits.specs.Sets.Places.{same_place, word_below, out_of, clear_of}

-- ---- one region

-- of the m words at a, that of bit v has this bit turned to c, and the others are as they were
record Region (d a m : ℕ) (w w' : List ℕ) (v c : ℕ) : Type 0 where
  turned : Turned d (v % d) (get_or w (a + v / d) 0) c (get_or w' (a + v / d) 0)
  rest : (i : ℕ) → i < m → i ≢ v / d → get_or w' (a + i) 0 ≡ get_or w (a + i) 0

module _ {d a m : ℕ} {w w' : List ℕ} {v c : ℕ} (R : Region d a m w w' v c) where
  region_other : (u : ℕ) → u / d < m → u ≢ v → at d a w' u ≡ at d a w u
  region_other u l g = go (ℕ_discrete (u / d) (v / d))
    where
      go : Dec (u / d ≡ v / d) → at d a w' u ≡ at d a w u
      go (yes e) =
          ap (λ (i : ℕ). bit (get_or w' (a + i) 0) (u % d)) e
          ∙ R.turned.others (u % d) (λ f. g (same_place d u v e f))
          ∙ ap (λ (i : ℕ). bit (get_or w (a + i) 0) (u % d)) (sym e)
      go (no e) = ap (λ (y : ℕ). bit y (u % d)) (R.rest (u / d) l e)

  region_low : ((i : ℕ) → i < m → get_or w (a + i) 0 < 2 ^ d) → (i : ℕ) → i < m → get_or w' (a + i) 0 < 2 ^ d
  region_low low i l = go (ℕ_discrete i (v / d))
    where
      go : Dec (i ≡ v / d) → get_or w' (a + i) 0 < 2 ^ d
      go (yes e) = subst (λ (j : ℕ). get_or w' (a + j) 0 < 2 ^ d) (sym e) R.turned.fits
      go (no e) = subst (λ (y : ℕ). y < 2 ^ d) (sym (R.rest i l e)) (low i l)

-- ---- both regions

-- the bit e of the summary says whether the word x of the bits is 0
abbrev Tells : ℕ → ℕ → Type 0
Tells x e = ((x ≢ 0) × (e ≡ 1)) ⊎ ((x ≡ 0) × (e ≡ 0))

module _ {d n bits summary : ℕ} {w w' : List ℕ} {v c e : ℕ} (B : BitSet d n bits summary w) (hv : v < n)
    (R : Region d bits (bit_words d n) w w' v c) (S : Region d summary (summary_words d n) w w' (v / d) e)
    (tells : Tells (get_or w' (bits + v / d) 0) e) (K : Kept d n bits summary w w') where
  told_here : Tells (get_or w' (bits + v / d) 0) e → get_or w' (bits + v / d) 0 ≢ 0 → at d summary w' (v / d) ≡ 1
  told_here (inl t) h = S.turned.here ∙ t.1
  told_here (inr t) h = absurd (h t.0)

  only_here : Tells (get_or w' (bits + v / d) 0) e → at d summary w' (v / d) ≡ 1 → get_or w' (bits + v / d) 0 ≢ 0
  only_here (inl t) h = t.0
  only_here (inr t) h = absurd (omega (arith, S.turned.here, t.1))

  told_after : (i : ℕ) → i < bit_words d n → get_or w' (bits + i) 0 ≢ 0 → Dec (i ≡ v / d) → at d summary w' i ≡ 1
  told_after i l h (yes q) =
      subst (λ (k : ℕ). at d summary w' k ≡ 1) (sym q) (told_here tells (subst (λ (k : ℕ). get_or w' (bits + k) 0 ≢ 0) q h))
  told_after i l h (no q) =
      region_other S i (word_below d (bit_words d n) i B.room.wide l) q ∙ B.agree.told i l (λ z. h (R.rest i l q ∙ z))

  only_after : (i : ℕ) → i < summary_words d n * d → at d summary w' i ≡ 1 → Dec (i ≡ v / d)
      → (i < bit_words d n) × (get_or w' (bits + i) 0 ≢ 0)
  only_after i l h (yes q) = (
    omega (arith, word_below d n v B.room.wide hv),
    subst (λ (k : ℕ). get_or w' (bits + k) 0 ≢ 0) (sym q) (only_here tells (subst (λ (k : ℕ). at d summary w' k ≡ 1) q h)),
  )
  only_after i l h (no q) =
      let old : (i < bit_words d n) × (get_or w (bits + i) 0 ≢ 0) =
      B.agree.only i l (sym (region_other S i ((div-lt_iff_lt-mul B.room.wide).1 l) q) ∙ h) in
      (old.0, λ z. old.1 (sym (R.rest i old.0 q) ∙ z))

  member_same : (u : ℕ) → u ≢ v → u < n → at d bits w' u ≡ at d bits w u
  member_same u g h = region_other R u (word_below d n u B.room.wide h) g

  changed : Changed d n bits summary w w' v
  changed =
      record {
        valid = record {
          room = subst (λ (l : ℕ). Room d n bits summary l) (sym K.same_length) B.room;
          agree = record {
            low = region_low R B.agree.low;
            summary_low = region_low S B.agree.summary_low;
            over = λ u h l. region_other R u ((div-lt_iff_lt-mul B.room.wide).1 l) (omega arith) ∙ B.agree.over u h l;
            told = λ i l h. told_after i l h (ℕ_discrete i (v / d));
            only = λ i l h. only_after i l h (ℕ_discrete i (v / d));
          };
        };
        stays = λ u g m. record { below = m.below; marked = member_same u g m.below ∙ m.marked };
        was = λ u g m. record { below = m.below; marked = sym (member_same u g m.below) ∙ m.marked };
        kept = K;
      }

-- ---- the code stores v's word of the bits, and then its word of the summary

room_apart : {d n bits summary l : ℕ} → Room d n bits summary l → (i j : ℕ) → i < bit_words d n → j < summary_words d n
    → bits + i ≢ summary + j
room_apart {d} {n} {bits} {summary} R i j hi hj = go R.apart
  where
    go : (bits + bit_words d n ≤ summary) ⊎ (summary + summary_words d n ≤ bits) → bits + i ≢ summary + j
    go (inl h) = omega arith
    go (inr h) = omega arith

module _ {d n bits summary : ℕ} {w : List ℕ} (B : BitSet d n bits summary w) (v : ℕ) (hv : v < n) where
  v_word : v / d < bit_words d n
  v_word = word_below d n v B.room.wide hv

  v_summary : v / d / d < summary_words d n
  v_summary = word_below d (bit_words d n) (v / d) B.room.wide v_word

  -- v's word, and the list with x' in its place
  abbrev old : ℕ
  old = get_or w (bits + v / d) 0

  abbrev stored : ℕ → List ℕ
  stored x' = set w (bits + v / d) x'

  -- the summary's word of it, as it is read after that store, and the list with z' in its place
  abbrev told_by_lem : ℕ → ℕ
  told_by_lem x' = get_or (stored x') (summary + v / d / d) 0

  abbrev both_stored : ℕ → ℕ → List ℕ
  both_stored x' z' = set (stored x') (summary + v / d / d) z'

  summary_read : (x' : ℕ) → told_by_lem x' ≡ get_or w (summary + v / d / d) 0
  summary_read x' =
      let h : bits + v / d ≢ summary + v / d / d = room_apart B.room (v / d) (v / d / d) v_word v_summary in
      get_or-set_other w (bits + v / d) (summary + v / d / d) x' 0 (omega arith)

  stored_kept : (x' z' : ℕ) → Kept d n bits summary w (both_stored x' z')
  stored_kept x' z' =
      record {
        same_length = length-set (stored x') (summary + v / d / d) z' ∙ length-set w (bits + v / d) x';
        outside = λ j o.
            get_or-set_other (stored x') (summary + v / d / d) j z' 0 (λ e. out_of summary (summary_words d n) (v / d / d) j v_summary o.1 (sym e))
            ∙ get_or-set_other w (bits + v / d) j x' 0 (λ e. out_of bits (bit_words d n) (v / d) j v_word o.0 (sym e));
      }

  bits_stored : (x' z' : ℕ) → get_or (both_stored x' z') (bits + v / d) 0 ≡ x'
  bits_stored x' z' =
      get_or-set_other (stored x') (summary + v / d / d) (bits + v / d) z' 0 (room_apart B.room (v / d) (v / d / d) v_word v_summary)
      ∙ get_or-set_same w (bits + v / d) x' 0 (omega (arith, v_word))

  bits_region : {x' c : ℕ} (z' : ℕ) → Turned d (v % d) old c x' → Region d bits (bit_words d n) w (both_stored x' z') v c
  bits_region {x'} {c} z' t =
      record {
        turned = subst (λ (y : ℕ). Turned d (v % d) old c y) (sym (bits_stored x' z')) t;
        rest = λ i l g.
            get_or-set_other (stored x') (summary + v / d / d) (bits + i) z' 0 (room_apart B.room i (v / d / d) l v_summary)
            ∙ get_or-set_other w (bits + v / d) (bits + i) x' 0 (omega arith);
      }

  summary_region : (x' : ℕ) {z' e : ℕ} → Turned d (v / d % d) (told_by_lem x') e z'
      → Region d summary (summary_words d n) w (both_stored x' z') (v / d) e
  summary_region x' {z'} {e} t =
      let q = summary + v / d / d in
      record {
        turned =
            subst (λ (y : ℕ). Turned d (v / d % d) (get_or w q 0) e y)
            (sym (get_or-set_same (stored x') q z' 0 (omega (arith, length-set w (bits + v / d) x', v_summary))))
            (subst (λ (y : ℕ). Turned d (v / d % d) y e z') (summary_read x') t);
        rest = λ j l g.
            let h : bits + v / d ≢ summary + j = room_apart B.room (v / d) j v_word l in
            get_or-set_other (stored x') q (summary + j) z' 0 (omega arith)
            ∙ get_or-set_other w (bits + v / d) (summary + j) x' 0 (omega arith);
      }

  after : {x' c z' e : ℕ} → Turned d (v % d) old c x' → Turned d (v / d % d) (told_by_lem x') e z' → Tells x' e
      → Changed d n bits summary w (both_stored x' z') v
  after {x'} {c} {z'} {e} tx tz tells =
      changed B hv (bits_region z' tx) (summary_region x' tz)
      (subst (λ (y : ℕ). Tells y e) (sym (bits_stored x' z')) tells) (stored_kept x' z')

  inserted : {x' z' : ℕ} → Turned d (v % d) old 1 x' → Turned d (v / d % d) (told_by_lem x') 1 z'
      → Inserted d n bits summary w (both_stored x' z') v
  inserted {x'} {z'} tx tz =
      record {
        changed = after tx tz (inl (nonzero x' (v % d) tx.here, refl));
        here = record { below = hv; marked = (bits_region z' tx).turned.here };
      }

  removed : {x' z' e : ℕ} → Turned d (v % d) old 0 x' → Turned d (v / d % d) (told_by_lem x') e z' → Tells x' e
      → Removed d n bits summary w (both_stored x' z') v
  removed {x'} {z'} tx tz tells =
      record { changed = after tx tz tells; gone = λ m. omega (arith, m.marked, (bits_region z' tx).turned.here) }

  -- no store to the summary leaves what a store of its own word leaves
  one_store : (x' : ℕ) → both_stored x' (told_by_lem x') ≡ stored x'
  one_store x' = set-get_or (stored x') (summary + v / d / d) 0

  -- ---- v's bit, its word's bit of the summary, and the bounds of both words

  place : v % d < d
  place = mod-lt v B.room.wide

  summary_place : v / d % d < d
  summary_place = mod-lt (v / d) B.room.wide

  old_low : old < 2 ^ d
  old_low = B.agree.low (v / d) v_word

  told_low : (x' : ℕ) → told_by_lem x' < 2 ^ d
  told_low x' = subst (λ (y : ℕ). y < 2 ^ d) (sym (summary_read x')) (B.agree.summary_low (v / d / d) v_summary)

  told_bit : (x' c : ℕ) → at d summary w (v / d) ≡ c → bit (told_by_lem x') (v / d % d) ≡ c
  told_bit x' c e = ap (λ (y : ℕ). bit y (v / d % d)) (summary_read x') ∙ e

  told_clear : old ≡ 0 → at d summary w (v / d) ≡ 0
  told_clear z = go (bit_cases (get_or w (summary + v / d / d) 0) (v / d % d))
    where
      go : (at d summary w (v / d) ≡ 0) ⊎ (at d summary w (v / d) ≡ 1) → at d summary w (v / d) ≡ 0
      go (inl e) = e
      go (inr e) = absurd ((B.agree.only (v / d) ((div-lt_iff_lt-mul B.room.wide).0 v_summary) e).1 z)

  told_kept : (x' : ℕ) → old ≢ 0 → Turned d (v / d % d) (told_by_lem x') 1 (told_by_lem x')
  told_kept x' h = keep_bit d (v / d % d) (told_by_lem x') 1 (told_low x') (told_bit x' 1 (B.agree.told (v / d) v_word h))

  -- ---- v, which is not in the set, comes into it

  -- v's word with its bit, and the summary's word then, with the bit of v's word
  abbrev with : ℕ
  with = old + one_bit d (v % d)

  abbrev summary_with : ℕ
  summary_with = told_by_lem with + one_bit d (v / d % d)

  module _ (out : In d n bits w v → ⊥) where
    pub insert_turned : Turned d (v % d) old 1 with
    insert_turned = set_bit d (v % d) old old_low place (clear_of d n bits w v hv out)

    pub insert_told : old ≡ 0 → Turned d (v / d % d) (told_by_lem with) 1 summary_with
    insert_told z = set_bit d (v / d % d) (told_by_lem with) (told_low with) summary_place (told_bit with 0 (told_clear z))

    pub insert_first : old ≡ 0 → Inserted d n bits summary w (both_stored with summary_with) v
    insert_first z = inserted insert_turned (insert_told z)

    pub insert_more : old ≢ 0 → Inserted d n bits summary w (stored with) v
    insert_more h =
        subst (λ (l : List ℕ). Inserted d n bits summary w l v) (one_store with) (inserted insert_turned (told_kept with h))

  -- ---- v, which is in the set, leaves it

  -- v's word without its bit, and the summary's word then, without the bit of v's word
  abbrev without : ℕ
  without = old - one_bit d (v % d)

  abbrev summary_without : ℕ
  summary_without = told_by_lem without - one_bit d (v / d % d)

  module _ (m : In d n bits w v) where
    remove_turned : Turned d (v % d) old 0 without
    remove_turned = clear_bit d (v % d) old old_low place m.marked

    old_some : old ≢ 0
    old_some = nonzero old (v % d) m.marked

    pub remove_le : one_bit d (v % d) ≤ old
    remove_le = clear_le d (v % d) old place m.marked

    pub remove_told_le : one_bit d (v / d % d) ≤ told_by_lem without
    remove_told_le = clear_le d (v / d % d) (told_by_lem without) summary_place (told_kept without old_some).here

    pub remove_last : without ≡ 0 → Removed d n bits summary w (both_stored without summary_without) v
    remove_last z =
        removed remove_turned
        (clear_bit d (v / d % d) (told_by_lem without) (told_low without) summary_place (told_kept without old_some).here)
        (inr (z, refl))

    pub remove_more : without ≢ 0 → Removed d n bits summary w (stored without) v
    remove_more h =
        subst (λ (l : List ℕ). Removed d n bits summary w l v) (one_store without)
        (removed remove_turned (told_kept without old_some) (inl (h, refl)))
