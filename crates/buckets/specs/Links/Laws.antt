-- What a caller's proofs cite: what `Linked` depends on, where it begins, what a place word tells, and what `Moved` says of each node.
-- Assumes nothing.
use Rattle.std.specs.Prelude.{◌≡◌, ◌≢◌, List, [], ℕ, ◌+◌, ◌*◌, ◌≤◌, ◌<◌, length, get_or, set, replicate}
use Rattle.std.proofs.Common.{sym, ap, ◌∙◌, subst, inl, inr, arith, length-set, get_or-set_same, get_or-set_other, set-set}
use Rattle.std.proofs.lemmas.List.{length-replicate, get_or-replicate}
use Rattle.buckets.specs.Answer.{InSlot, InBucket}
use Rattle.buckets.specs.Tally.{tally}
use Rattle.buckets.specs.Tally.Laws.{tally_stay, tally_zero}
use Rattle.buckets.specs.Words.{place_word, place_bucket, place_slot, Held, Free, Named, places, heads, slot_bucket, bucket_count, count_at, owned, Ours, Other, WordsFit}
use Rattle.buckets.specs.Words.Laws.{named_bucket, kept_trans, place_word_lem, places_length, places_are, places_same, places_moved}
use Rattle.buckets.specs.Links.{Slot, Counted, Linked, Moved}
use Rattle.buckets.specs.Links.Chain.{frame, slot_other, chains_again, chains_same}

-- ---- what it depends on

module _ {n slots segments : ℕ} {words : List ℕ} (L : Linked n slots segments words) where
  long : 3 * n ≤ length words
  long = omega (arith, L.fits.long)

  -- the next, before, place, head and count words alone
  pub linked_words : {words' : List ℕ} → length words' ≡ length words
      → ((j : ℕ) → Ours n (owned slots segments) j → get_or words' j 0 ≡ get_or words j 0)
      → Linked n slots segments words' × (places n words' ≡ places n words)
  linked_words {words'} size same = (
    record {
      fits = subst (λ (k : ℕ). WordsFit n slots segments k) (sym size) L.fits;
      chains = chains_same L.chains (λ j o. same j (wider j o));
      counted = λ bucket hb hc.
          same (count_at n slots bucket) (inr (omega arith)) ∙ L.counted bucket hb hc
          ∙ ap (λ (l : List ℕ). tally place_bucket bucket l) (sym place);
    },
    place,
  )
    where
      wider : (j : ℕ) → Ours n slots j → Ours n (owned slots segments) j
      wider j (inl o) = inl o
      wider j (inr o) = inr (omega arith)

      place : places n words' ≡ places n words
      place = places_same n words words' long size (λ v h. same (2 * n + v) (inl (omega arith)))

  -- ---- what a place word tells

  -- a node of a slot is in the slot's bucket
  pub slot_bucket_lem : (s u : ℕ) → s < slots → InSlot n segments s words u → InBucket n (slot_bucket segments s) words u
  slot_bucket_lem s u hs p = (p.0, omega (arith, p.1, L.fits.few))

  module _ (v : ℕ) (hv : v < n) where
    -- v's place word
    abbrev place : ℕ
    place = get_or (places n words) v 0

    -- a node that is held is held by the slot that its place word names
    pub held_named : Held place → Named slots segments place
    held_named h =
        let e : get_or words (2 * n + v) 0 ≡ place = sym (place_word_lem n words v hv) in
        subst (λ (k : ℕ). Named slots segments k) e (L.chains.named v hv (omega arith))

    -- and its bucket is one of the buckets, and the slot's
    pub held_bucket : Held place
        → (0 < place_bucket place) × (place_bucket place ≤ bucket_count slots segments)
        × (place_bucket place ≡ slot_bucket segments (place_slot place))
    held_bucket h = named_bucket L.fits.few L.fits.whole (held_named h)

    -- a node of a bucket is in one of the bucket's slots
    pub bucket_slot : (bucket : ℕ) → 0 < bucket → place_bucket place ≡ bucket
        → (s : ℕ) × (s < slots) × (slot_bucket segments s ≡ bucket) × InSlot n segments s words v
    bucket_slot bucket hb e =
        let h : Held place = omega arith in
        (place_slot place, (held_named h).0, omega (arith, (held_bucket h).2), (hv, (held_named h).1))

    -- ---- a mark

    module _ (x : ℕ) where
      -- the words with x for v's place word
      abbrev marked : List ℕ
      marked = set words (2 * n + v) x

      mark_length : length marked ≡ length words
      mark_length = length-set words (2 * n + v) x

      mark_here : get_or marked (2 * n + v) 0 ≡ x
      mark_here = get_or-set_same words (2 * n + v) x 0 (omega (arith, long))

      mark_off : (j : ℕ) → j ≢ 2 * n + v → get_or marked j 0 ≡ get_or words j 0
      mark_off j d = get_or-set_other words (2 * n + v) j x 0 d

      mark_other : (j : ℕ) → Other n (owned slots segments) j → get_or marked j 0 ≡ get_or words j 0
      mark_other j (inl o) = mark_off j (omega arith)
      mark_other j (inr o) = mark_off j (omega arith)

      mark_places : (y : ℕ) → y < n → y ≢ v → get_or marked (2 * n + y) 0 ≡ get_or words (2 * n + y) 0
      mark_places y h d = mark_off (2 * n + y) (omega arith)

      mark_place : places n marked ≡ set (places n words) v x
      mark_place = places_moved n words marked long mark_length v x hv mark_here mark_places

      module _ (free : Free place) (free-x : Free x) where
        mark_slot : (t : ℕ) → t < slots → Slot n segments marked t
        mark_slot t ht =
            let a : Slot n segments words t = L.chains.slot t ht in
            slot_other n words marked v x mark_here mark_places segments t a
            (frame n words marked (heads n + t) a.nodes (mark_off (heads n + t) (omega arith))
            (λ y h i. (mark_off y (omega arith), mark_off (n + y) (omega arith)))
            a.chain)
            (λ i. let g : get_or words (2 * n + v) 0 ≡ place_word segments t = a.held v i in omega (arith, place_word_lem n words v hv))
            (omega arith)

        mark_counted : Counted n slots segments marked (places n marked)
        mark_counted bucket hb hc =
            mark_off (count_at n slots bucket) (omega arith) ∙ L.counted bucket hb hc
            ∙ sym (tally_stay place_bucket bucket (places n words) v x (omega (arith, places_length n words long)) (omega arith) (omega arith))
            ∙ ap (λ (l : List ℕ). tally place_bucket bucket l) (sym mark_place)

        -- a node that no slot holds can be given any place word that says so
        pub linked_mark : Moved n slots segments words (set words (2 * n + v) x) v x
        linked_mark =
            record {
              linked = record {
                fits = subst (λ (k : ℕ). WordsFit n slots segments k) (sym mark_length) L.fits;
                chains = chains_again n words marked v x mark_here mark_places slots segments L.chains (λ h. absurd (omega arith)) mark_slot;
                counted = mark_counted;
              };
              place = mark_place;
              kept = record { same_length = mark_length; same = mark_other };
            }

-- ---- the beginning

-- words that are all 0: every slot is empty, and no node is held
pub linked_zero : (n slots segments : ℕ) (words : List ℕ) → WordsFit n slots segments (length words)
    → ((j : ℕ) → Ours n (owned slots segments) j → get_or words j 0 ≡ 0)
    → Linked n slots segments words × (places n words ≡ replicate n 0)
linked_zero n slots segments words F clear = (
  record {
    fits = F;
    chains = record {
      slot = λ s hs.
          record {
            nodes = [];
            chain = clear (heads n + s) (inr (omega arith));
            once = tt;
            held = λ x i. absurd i;
            all = λ x h e. absurd (omega (arith, free x h));
          };
      named = λ x h g. absurd (omega (arith, free x h));
    };
    counted = λ bucket hb hc.
        clear (count_at n slots bucket) (inr (omega arith))
        ∙ sym (tally_zero place_bucket bucket (places n words) (λ i h e. omega (arith, place_word_lem n words i (below i h), free i (below i h))));
  },
  place,
)
  where
    free : (x : ℕ) → x < n → get_or words (2 * n + x) 0 ≡ 0
    free x h = clear (2 * n + x) (inl (omega arith))

    place : places n words ≡ replicate n 0
    place =
        places_are n words (replicate n 0) (omega (arith, F.long)) (length-replicate n 0)
        (λ v h. free v h ∙ sym (get_or-replicate n v 0 0 h))

    below : (i : ℕ) → i < length (places n words) → i < n
    below i h = omega (arith, places_length n words (omega (arith, F.long)))

-- ---- what `Moved` says

module _ {n slots segments : ℕ} {words words' : List ℕ} {v x : ℕ} (L : Linked n slots segments words)
    (m : Moved n slots segments words words' v x) where
  pub moved_here : v < n → get_or (places n words') v 0 ≡ x
  moved_here h =
      ap (λ (l : List ℕ). get_or l v 0) m.place
      ∙ get_or-set_same (places n words) v x 0 (omega (arith, places_length n words (long L)))

  pub moved_other : (u : ℕ) → u ≢ v → get_or (places n words') u 0 ≡ get_or (places n words) u 0
  moved_other u d = ap (λ (l : List ℕ). get_or l u 0) m.place ∙ get_or-set_other (places n words) v u x 0 d

  -- two moves of one node are one
  pub moved_again : {words'' : List ℕ} {y : ℕ} → Moved n slots segments words' words'' v y → Moved n slots segments words words'' v y
  moved_again {words''} {y} b =
      record {
        linked = b.linked;
        place = b.place ∙ ap (λ (l : List ℕ). set l v y) m.place ∙ set-set (places n words) v x y;
        kept = kept_trans m.kept b.kept;
      }
