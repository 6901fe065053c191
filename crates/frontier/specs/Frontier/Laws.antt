-- What each change of the words makes of the labelled nodes, where they begin, and what they depend on.
use Rattle.std.specs.Prelude.{ℕ, ◌+◌, ◌*◌, ◌≤◌, ◌<◌, ◌≡◌, refl, ◌⊎◌, ◌≢◌, List, length, get_or, set, replicate, Option, Some, None}
use Rattle.std.proofs.Common.{arith, sym, ◌∙◌, ap, inl, inr, length-set, get_or-set_same, get_or-set_other, get_or-drop, set-set}
use Rattle.std.proofs.lemmas.List.{get_or-replicate}
use Rattle.std.proofs.Math.Decide.{ℕ_discrete}
use Rattle.bits.specs.Sets.{bit_words, summary_words, In, Inhabited, BitSet, Room, Outside, Alike, Kept, Changed, Inserted, Taken}
use Rattle.bits.specs.Sets.Laws.{zero_set, zero_none, alike_sym, alike_in, alike_set, alike_store}
use Rattle.buckets.specs.Words.{places, owned, Ours, Other, WordsFit}
use Rattle.buckets.specs.Words.Laws.{places_length}
use Rattle.buckets.specs.Links.{Linked, Moved}
use Rattle.buckets.specs.Links.Laws.{linked_words, linked_zero, linked_mark, moved_here, moved_other}
use Rattle.buckets.specs.Answer.{FirstTaken}
use Rattle.model.specs.declared.Node.{Node}
use Rattle.frontier.specs.Frontier.{Frontier, Placed, Current, FirstCurrent, FirstLeft}

-- The bits take at most n words, and the summary four.
bits_few : (n : ℕ) → 1 ≤ n → bit_words 32 n ≤ n
bits_few n h = omega arith

summary_few : (n : ℕ) → n ≤ 4096 → summary_words 32 n ≤ 4
summary_few n h = omega arith

abbrev BitsAlike : ℕ → List ℕ → List ℕ → Type 0
BitsAlike n w w' = Alike 32 n (3 * n) (4 * n + 24) w w'

module _ {n slots segments : ℕ} {w : List ℕ} (F : Frontier n slots segments w) where
  -- The lists' words are none of the bits', and the other way round.
  outside : (j : ℕ) → Ours n (owned slots segments) j → Outside 32 n (3 * n) (4 * n + 24) j
  outside j (inl h) = (inl (omega arith), inl (omega arith))
  outside j (inr h) = (inr (omega (arith, bits_few n F.some)), inr (omega (arith, summary_few n F.few)))

  bits_linked : {w' : List ℕ} → Kept 32 n (3 * n) (4 * n + 24) w w' → Linked n slots segments w' × (places n w' ≡ places n w)
  bits_linked k = linked_words F.linked k.same_length (λ j o. k.outside j (outside j o))

  words_alike : {w' : List ℕ} → length w' ≡ length w → ((j : ℕ) → Other n (owned slots segments) j → get_or w' j 0 ≡ get_or w j 0) → BitsAlike n w w'
  words_alike size same = record {
    same_length = size;
    bits_same = λ i h. same (3 * n + i) (inl (omega (arith, bits_few n F.some)));
    summary_same = λ j h. same (4 * n + 24 + j) (inl (omega (arith, summary_few n F.few)));
  }

  -- A node that is not in the bits gets a place word that does not say so.
  pub moved_placed : {w' : List ℕ} {v x : ℕ} → Moved n slots segments w w' v x → v < n → get_or (places n w) v 0 ≢ 1 → x ≢ 1 → Placed n slots segments w w' v x
  moved_placed {w'} {v} {x} m hv free new =
      let A = words_alike m.kept.same_length m.kept.same in
      record {
        frontier = record {
          some = F.some;
          few = F.few;
          linked = m.linked;
          bits = alike_set A F.bits;
          current = λ u h e. alike_in (omega arith) A (F.current u h (was u h e (ℕ_discrete u v)));
          only = λ u i. let old = F.only u (alike_in (omega arith) (alike_sym A) i) in moved_other F.linked m u (λ e. free (rw e at old)) ∙ old;
        };
        place = m.place;
        same_length = m.kept.same_length;
        bounds = λ i h. simp get_or-drop (m.kept.same (4 * n + i) (inl (omega arith)));
      }
    where
      was : (u : ℕ) → u < n → get_or (places n w') u 0 ≡ 1 → Dec (u ≡ v) → get_or (places n w) u 0 ≡ 1
      was u h e (yes q) = absurd (new (sym (moved_here F.linked m hv) ∙ (rw q at e)))
      was u h e (no q) = sym (moved_other F.linked m u q) ∙ e

  -- The first node of a slot, if there is one, is in no list.
  pub first_left : (w' : List ℕ) (slot : ℕ) (r : Option Node) → FirstTaken n slots segments slot w w' r → FirstLeft n slots segments slot w w' r
  first_left w' slot (Some v) t = (t.0, moved_placed t.1 t.0.0 (λ e. omega (arith, t.0.1)) (omega arith))
  first_left w' slot None t = t

  -- The word of a node that is in no list is stored after its bit was changed.
  module _ {w₁ : List ℕ} {v : ℕ} (hv : v < n) (free : get_or (places n w) v 0 < 512) (C : Changed 32 n (3 * n) (4 * n + 24) w w₁ v) (x : ℕ) (low : x < 512)
      (here : (x ≡ 1 → In 32 n (3 * n) w₁ v) × (In 32 n (3 * n) w₁ v → x ≡ 1)) where
    between : Linked n slots segments w₁ × (places n w₁ ≡ places n w)
    between = bits_linked C.kept

    marked : Moved n slots segments w₁ (set w₁ (2 * n + v) x) v x
    marked = linked_mark between.0 v hv x (rw between.1 free) low

    after_alike : BitsAlike n w₁ (set w₁ (2 * n + v) x)
    after_alike = alike_store w₁ (2 * n + v) x (inl (omega arith), inl (omega arith))

    pub changed_placed : Placed n slots segments w (set w₁ (2 * n + v) x) v x
    changed_placed = record {
      frontier = record {
        some = F.some;
        few = F.few;
        linked = marked.linked;
        bits = alike_set after_alike C.valid;
        current = λ u h e. alike_in (omega arith) after_alike (in_bits u h e (ℕ_discrete u v));
        only = λ u i. told u (alike_in (omega arith) (alike_sym after_alike) i) (ℕ_discrete u v);
      };
      place = marked.place ∙ ap (λ (l : List ℕ). set l v x) between.1;
      same_length = length-set w₁ (2 * n + v) x ∙ C.kept.same_length;
      bounds = λ i h. simp get_or-drop (get_or-set_other w₁ (2 * n + v) (4 * n + i) x 0 (omega arith)
          ∙ C.kept.outside (4 * n + i) (inr (omega (arith, bits_few n F.some)), inl (omega arith)));
    }
      where
        in_bits : (u : ℕ) → u < n → get_or (places n (set w₁ (2 * n + v) x)) u 0 ≡ 1 → Dec (u ≡ v) → In 32 n (3 * n) w₁ u
        in_bits u h e (yes q) = rw q (here.0 (sym (moved_here between.0 marked hv) ∙ (rw q at e)))
        in_bits u h e (no q) = C.stays u q (F.current u h (rw between.1 at (sym (moved_other between.0 marked u q) ∙ e)))

        told : (u : ℕ) → In 32 n (3 * n) w₁ u → Dec (u ≡ v) → get_or (places n (set w₁ (2 * n + v) x)) u 0 ≡ 1
        told u i (yes q) = rw q (moved_here between.0 marked hv ∙ here.1 (rw q at i))
        told u i (no q) = moved_other between.0 marked u q ∙ ap (λ (l : List ℕ). get_or l u 0) between.1 ∙ F.only u (C.was u q i)

  pub absent : (v : ℕ) → get_or (places n w) v 0 ≢ 1 → In 32 n (3 * n) w v → ⊥
  absent v free i = free (F.only v i)

  -- The bits are not empty if some node has place word 1.
  pub inhabited : Current n w → Inhabited 32 n (3 * n) w
  inhabited c = record { node = c.node; member = F.current c.node c.below c.place }

  pub set_bits : BitSet 32 n (3 * n) (4 * n + 24) w
  set_bits = F.bits

  pub taken_first : {w₁ : List ℕ} {v : ℕ} → Taken 32 n (3 * n) (4 * n + 24) w w₁ v → FirstCurrent n slots segments w (set w₁ (2 * n + v) 2) v
  taken_first {w₁} {v} T =
      let was = F.only v T.smallest.member in
      let hv = T.smallest.member.below in
      record {
        below = hv;
        was = was;
        least = λ u h e. T.smallest.least u (F.current u h e);
        placed = changed_placed hv (omega arith) T.removed.changed 2 (omega arith) (λ e. absurd (omega arith), λ i. absurd (T.removed.gone i));
      }

  pub inserted_placed : {w₁ : List ℕ} {v : ℕ} → v < n → get_or (places n w) v 0 ≡ 0 → Inserted 32 n (3 * n) (4 * n + 24) w w₁ v → Placed n slots segments w (set w₁ (2 * n + v) 1) v 1
  inserted_placed hv free I = changed_placed hv (omega arith) I.changed 1 (omega arith) (λ e. I.here, λ i. refl)

  -- The bounds are words of neither: whatever is stored there leaves the frontier as it is.
  pub bounds_kept : {w' : List ℕ} → length w' ≡ length w → ((j : ℕ) → (j < 4 * n) ⊎ (4 * n + 24 ≤ j) → get_or w' j 0 ≡ get_or w j 0)
      → Frontier n slots segments w' × (places n w' ≡ places n w)
  bounds_kept {w'} size same =
      let A : BitsAlike n w w' = record {
        same_length = size;
        bits_same = λ i h. same (3 * n + i) (inl (omega (arith, bits_few n F.some)));
        summary_same = λ j h. same (4 * n + 24 + j) (inr (omega arith));
      } in
      let L = linked_words F.linked size (λ j o. same j (lists j o)) in (
        record {
          some = F.some;
          few = F.few;
          linked = L.0;
          bits = alike_set A F.bits;
          current = λ u h e. alike_in (omega arith) A (F.current u h (rw L.1 at e));
          only = λ u i. rw L.1 (F.only u (alike_in (omega arith) (alike_sym A) i));
        },
        L.1,
      )
    where
      lists : (j : ℕ) → Ours n (owned slots segments) j → (j < 4 * n) ⊎ (4 * n + 24 ≤ j)
      lists j (inl h) = inl (omega arith)
      lists j (inr h) = inr (omega arith)

-- Two changes of one node are one.
pub placed_again : {n slots segments : ℕ} {w w' w'' : List ℕ} {v x y : ℕ} → Placed n slots segments w w' v x → Placed n slots segments w' w'' v y
    → Placed n slots segments w w'' v y
placed_again {n} {w = w} {v = v} {x = x} {y = y} a b = record {
  frontier = b.frontier;
  place = b.place ∙ ap (λ (l : List ℕ). set l v y) a.place ∙ set-set (places n w) v x y;
  same_length = b.same_length ∙ a.same_length;
  bounds = λ i h. b.bounds i h ∙ a.bounds i h;
}

-- The place words after a change.
module _ {n slots segments : ℕ} {w w' : List ℕ} {v x : ℕ} (F : Frontier n slots segments w) (P : Placed n slots segments w w' v x) where
  pub placed_here : v < n → get_or (places n w') v 0 ≡ x
  placed_here h = ap (λ (l : List ℕ). get_or l v 0) P.place
      ∙ get_or-set_same (places n w) v x 0 (omega (arith, places_length n w (omega (arith, F.linked.fits.long))))

  pub placed_other : (u : ℕ) → u ≢ v → get_or (places n w') u 0 ≡ get_or (places n w) u 0
  placed_other u d = ap (λ (l : List ℕ). get_or l u 0) P.place ∙ get_or-set_other (places n w) v u x 0 d

-- A place word as it stands in the words.
-- Words that are all 0: no node is labelled.
pub frontier_zero : (n slots segments : ℕ) (w : List ℕ) → 1 ≤ n → n ≤ 4096 → WordsFit n slots segments (length w) → ((j : ℕ) → get_or w j 0 ≡ 0)
    → Frontier n slots segments w × (places n w ≡ replicate n 0)
frontier_zero n slots segments w some few fits zero =
    let L = linked_zero n slots segments w fits (λ j o. zero j) in
    let R : Room 32 n (3 * n) (4 * n + 24) (length w) = record {
      wide = omega arith;
      few = summary_few n few;
      bits_in = omega (arith, fits.long, bits_few n some);
      summary_in = omega (arith, fits.long, summary_few n few);
      apart = inl (omega (arith, bits_few n some));
    } in (
      record {
        some = some;
        few = few;
        linked = L.0;
        bits = zero_set w R (λ i h. zero (3 * n + i)) (λ j h. zero (4 * n + 24 + j));
        current = λ v h e. let z : get_or (places n w) v 0 ≡ 0 = (rw L.1 (get_or-replicate n v 0 0 h)) in absurd (omega arith);
        only = λ v i. absurd (zero_none w R (λ i h. zero (3 * n + i)) (λ j h. zero (4 * n + 24 + j)) v i);
      },
      L.1,
    )
