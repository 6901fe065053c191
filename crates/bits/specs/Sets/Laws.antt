-- What a caller's proofs cite: where a set begins, and what it depends on. Assumes nothing.
use Rattle.std.specs.Prelude.{◌≡◌, ◌≢◌, List, ℕ, ◌+◌, ◌*◌, ◌/◌, ◌%◌, ◌^◌, ◌<◌, length, get_or, set}
use Rattle.std.proofs.Common.{sym, ap, ◌∙◌, subst, div-lt_iff_lt-mul, arith, length-set, pow_pos, get_or-set_other}
use Rattle.bits.specs.Word.{bit}
use Rattle.bits.specs.Word.Laws.{bit_of_zero}
use Rattle.bits.specs.Sets.{bit_words, summary_words, at, In, Room, BitSet, Outside, Alike}
use Rattle.bits.specs.Sets.Places.{word_below, out_of}

-- ---- words that are all 0 are the empty set

zero_at : (d : ℕ) (w : List ℕ) → 0 < d → (a m : ℕ) → ((i : ℕ) → i < m → get_or w (a + i) 0 ≡ 0) → (u : ℕ) → u < m * d
    → at d a w u ≡ 0
zero_at d w p a m z u h =
    ap (λ (x : ℕ). bit x (u % d)) (z (u / d) ((div-lt_iff_lt-mul p).1 h)) ∙ bit_of_zero (u % d)

zero_low : (d x : ℕ) → x ≡ 0 → x < 2 ^ d
zero_low d x e = omega (arith, pow_pos d)

module _ {d n bits summary : ℕ} (w : List ℕ) (R : Room d n bits summary (length w))
    (clear : (i : ℕ) → i < bit_words d n → get_or w (bits + i) 0 ≡ 0)
    (summary-clear : (j : ℕ) → j < summary_words d n → get_or w (summary + j) 0 ≡ 0) where
  pub zero_set : BitSet d n bits summary w
  zero_set =
      record {
        room = R;
        agree = record {
          low = λ i h. zero_low d (get_or w (bits + i) 0) (clear i h);
          summary_low = λ j h. zero_low d (get_or w (summary + j) 0) (summary-clear j h);
          over = λ u g h. zero_at d w R.wide bits (bit_words d n) clear u h;
          told = λ i h f. absurd (f (clear i h));
          only = λ i h e.
              let z : at d summary w i ≡ 0 = zero_at d w R.wide summary (summary_words d n) summary-clear i h in absurd (omega arith);
        };
      }

  pub zero_none : (u : ℕ) → In d n bits w u → ⊥
  zero_none u m =
      let z : at d bits w u ≡ 0 =
      zero_at d w R.wide bits (bit_words d n) clear u
      ((div-lt_iff_lt-mul R.wide).0 (word_below d n u R.wide m.below)) in
      omega (arith, m.marked)

-- ---- a set depends on the words of its two regions alone

pub alike_sym : {d n bits summary : ℕ} {w w' : List ℕ} → Alike d n bits summary w w' → Alike d n bits summary w' w
alike_sym A =
    record {
      same_length = sym A.same_length;
      bits_same = λ i h. sym (A.bits_same i h);
      summary_same = λ j h. sym (A.summary_same j h);
    }

pub alike_in : {d n bits summary : ℕ} {w w' : List ℕ} {u : ℕ} → 0 < d → Alike d n bits summary w w' → In d n bits w u
    → In d n bits w' u
alike_in {d} {n} {u = u} p A m =
    record {
      below = m.below;
      marked = ap (λ (x : ℕ). bit x (u % d)) (A.bits_same (u / d) (word_below d n u p m.below)) ∙ m.marked;
    }

same_at : (d : ℕ) (w w' : List ℕ) → 0 < d → (a m : ℕ) → ((i : ℕ) → i < m → get_or w' (a + i) 0 ≡ get_or w (a + i) 0)
    → (u : ℕ) → u < m * d → at d a w' u ≡ at d a w u
same_at d w w' p a m e u h = ap (λ (x : ℕ). bit x (u % d)) (e (u / d) ((div-lt_iff_lt-mul p).1 h))

pub alike_set : {d n bits summary : ℕ} {w w' : List ℕ} → Alike d n bits summary w w' → BitSet d n bits summary w
    → BitSet d n bits summary w'
alike_set {d} {n} {bits} {summary} {w} {w'} A B =
    let p : 0 < d = B.room.wide in
    let summary-at : (i : ℕ) → i < summary_words d n * d → at d summary w' i ≡ at d summary w i =
    same_at d w w' p summary (summary_words d n) A.summary_same in
    record {
      room = subst (λ (l : ℕ). Room d n bits summary l) (sym A.same_length) B.room;
      agree = record {
        low = λ i h. subst (λ (x : ℕ). x < 2 ^ d) (sym (A.bits_same i h)) (B.agree.low i h);
        summary_low = λ j h. subst (λ (x : ℕ). x < 2 ^ d) (sym (A.summary_same j h)) (B.agree.summary_low j h);
        over = λ u g h. same_at d w w' p bits (bit_words d n) A.bits_same u h ∙ B.agree.over u g h;
        told = λ i h f.
            summary-at i ((div-lt_iff_lt-mul p).0 (word_below d (bit_words d n) i p h))
            ∙ B.agree.told i h (λ e. f (A.bits_same i h ∙ e));
        only = λ i h e.
            let o : (i < bit_words d n) × (get_or w (bits + i) 0 ≢ 0) = B.agree.only i h (sym (summary-at i h) ∙ e) in
            (o.0, λ z. o.1 (sym (A.bits_same i o.0) ∙ z));
      };
    }

-- a store outside the two regions
pub alike_store : {d n bits summary : ℕ} (w : List ℕ) (j x : ℕ) → Outside d n bits summary j → Alike d n bits summary w (set w j x)
alike_store {d} {n} {bits} {summary} w j x o =
    record {
      same_length = length-set w j x;
      bits_same = λ i h. get_or-set_other w j (bits + i) x 0 (out_of bits (bit_words d n) i j h o.0);
      summary_same = λ i h. get_or-set_other w j (summary + i) x 0 (out_of summary (summary_words d n) i j h o.1);
    }
