-- A removal in the words is the step's: of a node at the current key, and of the least node of the lowest slot.
use Prim.Native.Nat.{ℕ, suc, ◌+◌, ◌*◌, ◌≤◌, ◌<◌}
use native.Mathlib.Omega.{arith}
use mathlib.Core.Path.{◌≡◌, refl, sym, ◌∙◌, ap}
use mathlib.Core.Bool.{cond}
use mathlib.Core.Logic.{◌≢◌, inl, inr, ⊎_elim}
use mathlib.Core.List.{List, [], ◌∷◌, ◌++◌, append_assoc}
use lib.Dec.{ltb}
use lib.ListN.{length, get_or, set, drop, length-append}
use lib.Seq.{drop-cons, set-append_seam}
use borrow.Author.Tests.{eq-eqb, ne_eqb, lt-ltb, le-ltb}
use Rattle.model.specs.Answers.{words_after}
use Rattle.std.specs.Prelude.{Ok}
use Rattle.theory.specs.Sums.{sum_below}
use Rattle.theory.specs.Shape.{Shape}
use Rattle.theory.specs.Search.{Mark, unlabelled, labelled, scanned, mark, remove}
use Rattle.theory.specs.Heap.{Heap, bound, bucket_of, key_of, bucket_from, reads_from, segment_of, bounds_after, heap_remove}
use Rattle.theory.proofs.Cases.{split, same?, labelled≢scanned, labelled≢unlabelled, mark_cases}
use Rattle.theory.proofs.Sums.{sum_change, sum_same}
use Rattle.theory.specs.Invariants.{Labelled, Least, AtRest, Fits, seg, HeapInv}
use Rattle.theory.proofs.Search.Invariant.{scans_fewer}
use Rattle.theory.proofs.Heap.Bounds.{after_same}
use Rattle.theory.proofs.Heap.Shift.{bounds_after_lem}
use Rattle.theory.proofs.Heap.Remove.{falls}
use Rattle.bounds.specs.Words.{bounds_of, segment_number, segment_looks}
use Rattle.bounds.proofs.Bucket.{bucket_from_same, reads_same}
use Rattle.buckets.specs.Words
use Rattle.buckets.specs.Answer.{InSlot, InBucket}
use Rattle.buckets.specs.Answer as Answer
use Rattle.frontier.specs.Frontier.{Frontier, FirstCurrent}
use Rattle.frontier.specs.Frontier.Laws.{placed_here, placed_other}
use Rattle.state.specs.declared.Layout.{Layout}
use Rattle.state.specs.declared.State.{State}
use Rattle.state.specs.Places.{place_of, is_word, with_word}
use Rattle.state.specs.Slots.{slot_of, slot_word, key_word, SlotFits, Enters}
use Rattle.state.specs.Stands.{Setting, Lists, Stands}
use Rattle.state.specs.Tallies.{after_removal}
use Rattle.state.proofs.Tallies.{same_tally, same_insertions, same_decreases, same_shifts, same_looks, same_reads}
use Rattle.state.proofs.Places.Label.{place_is}
use Rattle.state.proofs.Places.Remove.{removed_scanned, removed_unlabelled, removed_poured, removed_other, removed_current, first_equal, shifts_first, shifts_sum, reads_first, reads_sum, poured}
use Rattle.state.proofs.Slots.{word_far, same_slot, key_fits}
use Rattle.state.proofs.Find.{current_least, current_fits, later, listed_word, slot_word_lem, slot_fits, listed_least, listed_fits, listed_segment}

-- One more node on the roster.
roster_next : (hr before : List ℕ) (v : ℕ) → length hr < length before
    → set (hr ++ drop (length hr) before) (length hr) v ≡ (hr ++ (v ∷ [])) ++ drop (length (hr ++ (v ∷ []))) before
roster_next hr before v h =
    let e : length (hr ++ (v ∷ [])) ≡ suc (length hr) = length-append hr (v ∷ []) ∙ omega arith in
    ap (λ (t : List ℕ). set (hr ++ t) (length hr) v) (drop-cons before (length hr) 0 h)
    ∙ set-append_seam hr (get_or before (length hr) 0) (drop (suc (length hr)) before) v
    ∙ sym (append_assoc hr (v ∷ []) (drop (suc (length hr)) before))
    ∙ ap (λ (i : ℕ). (hr ++ (v ∷ [])) ++ drop i before) (sym e)

-- The numbers after a removal at distance d, with these shifts, looks and reads.
pub record Removing (d shifted looked read : ℕ) (s s' : State) : Type 0 where
  pub front : s'.front ≡ d
  pub reached : s'.reached ≡ s.reached + 1
  pub tally : s'.tally ≡ after_removal shifted looked read s.tally

module _ {layout : Layout} {sizes : List ℕ} (X : Setting layout sizes) {before : List ℕ} {h : Heap} {l : Lists} {s : State} (T : Stands layout X.shape before h l s)
    (rest : AtRest X.network X.ceiling s.front h.search) (inv : HeapInv X.network X.shape s.front h) (long : layout.nodes ≤ length before) where
  abbrev n : ℕ
  n = layout.nodes

  abbrev K : ℕ
  K = layout.segments

  abbrev B : ℕ
  B = layout.buckets

  abbrev sh : Shape
  sh = X.shape

  abbrev place : ℕ → ℕ
  place v = get_or (Words.places n l.words) v 0

  roster_after : (j k d v : ℕ) → Labelled h.search v → set l.roster s.reached v
      ≡ words_after (Ok tt) (heap_remove sh j k d v h).search.roster before
  unfolding heap_remove remove
  roster_after j k d v on =
      rw (T.roster, T.reached) (roster_next h.search.roster before v (omega (arith, scans_fewer rest v on, X.nodes, long)))

  reached_after : (j k d v : ℕ) → length (heap_remove sh j k d v h).search.roster ≡ length h.search.roster + 1
  unfolding heap_remove remove
  reached_after j k d v = length-append h.search.roster (v ∷ [])

  -- A node at the current key.
  module _ {w' : List ℕ} {v : ℕ} (F : FirstCurrent n layout.slots K l.words w' v) where
    abbrev d : ℕ
    d = s.front

    abbrev k : ℕ
    k = seg sh h.bounds 1 d

    min : Least h.search v d
    min = current_least X T rest inv F

    fit : Fits sh h.bounds 1 d
    fit = current_fits X T rest inv v min.member min.key

    here : get_or (Words.places n w') v 0 ≡ 2
    here = placed_here T.frontier F.placed F.below

    there : (w : ℕ) → w ≢ v → get_or (Words.places n w') w 0 ≡ place w
    there = placed_other T.frontier F.placed

    other_place : (w : ℕ) → w < n → w ≢ v → place w ≡ place_of (slot_word K) sh d (heap_remove sh 1 k d v h) w
    other_place w low q = T.places w low ∙ sym (mark_cases (mark h.search w)
        (λ e. removed_unlabelled X.lawful rest inv fit min (slot_word K) w q (λ z. labelled≢unlabelled (sym z ∙ e)))
        (λ e. removed_current X.lawful rest inv fit min (slot_word K) w e q refl)
        (λ e. removed_unlabelled X.lawful rest inv fit min (slot_word K) w q (λ z. labelled≢scanned (sym z ∙ e))))

    looks_is : s.tally.looks + (1 + segment_looks K (segment_number B K sizes 1 (bound (bounds_of n l.words) 1) d)) ≡ (heap_remove sh 1 k d v h).looks
    unfolding heap_remove
    looks_is =
        let u = T.bounds 1 (omega arith) (omega (arith, X.agrees.sized.two)) in
        let a : segment_number B K sizes 1 (bound h.bounds 1) d ≡ k = sym (X.agrees.segment 1 (bound h.bounds 1) d) in
        let b : segment_looks K k ≡ sh.looks k = sym (X.agrees.looks k) in
        rw (u, a, b, same_looks T.tally)

    pub current_stands : {s' : State} → Removing d 0 (1 + segment_looks K (segment_number B K sizes 1 (bound (bounds_of n l.words) 1) d)) 0 s s' → s'.current + 1 ≡ s.current
        → Stands layout sh before (heap_remove sh 1 k d v h)
        (record { words = w'; distances = l.distances; parents = l.parents; roster = set l.roster s.reached v }) s'
    current_stands {s'} c one = record {
      frontier = F.placed.frontier;
      places = λ w low. rw c.front (⊎_elim
          (λ e. rw e (here ∙ sym (removed_scanned X.lawful rest inv fit min (slot_word K))))
          (λ q. there w q ∙ other_place w low q)
          (same? w v));
      bounds = unfold heap_remove in (λ i low high. F.placed.bounds i (omega (arith, X.agrees.sized.few)) ∙ T.bounds i low high ∙ sym (after_same sh 1 k d h.bounds (omega arith) i low));
      distances = unfold heap_remove remove in T.distances;
      parents = unfold heap_remove remove in T.parents;
      roster = roster_after 1 k d v min.member;
      current = omega (
        arith,
        one,
        T.current,
        sum_change n v (λ w. is_word 1 (place w)) (λ w. is_word 1 (get_or (Words.places n w') w 0)) F.below (λ w q. ap (is_word 1) (there w q)),
        ap (is_word 1) here,
        ap (is_word 1) F.was,
      );
      reached = omega (arith, c.reached, T.reached, reached_after 1 k d v);
      tally = c.tally ∙ same_tally (unfold heap_remove remove in same_insertions T.tally) (unfold heap_remove remove in same_decreases T.tally)
          (omega (arith, same_shifts T.tally, shifts_first X.lawful rest inv fit min (slot_word K) refl)) looks_is
          (omega (arith, same_reads T.tally, reads_first X.lawful rest inv fit min (slot_word K) refl));
    }

  -- The least node of the lowest slot, where no node is at the current key.
  module _ (none_current : (v : ℕ) → v < n → place v ≢ 1) {j k v : ℕ} (slot : SlotFits B K j k)
      (lower : (b w : ℕ) → 1 ≤ b → b < j → InBucket n b l.words w → ⊥)
      (earlier : (m w : ℕ) → 1 ≤ m → m < k → InSlot n K (slot_of K j m) l.words w → ⊥)
      (found : Answer.LeastIn n K (slot_of K j k) l.words l.distances v) where
    abbrev key : ℕ
    key = key_of h v

    abbrev after : List ℕ
    after = bounds_after sh j (seg sh h.bounds j key) key h.bounds

    abbrev h' : Heap
    h' = heap_remove sh j (seg sh h.bounds j key) key v h

    pub listed_min : Least h.search v key
    listed_min = listed_least X T rest inv none_current slot lower earlier found

    pub listed_fit : Fits sh h.bounds j key
    listed_fit = listed_fits X T rest inv none_current slot lower earlier found

    pub listed_seg : k ≡ seg sh h.bounds j key
    listed_seg = listed_segment X T rest inv none_current slot lower earlier found

    listed_looks : (looked : ℕ) → looked ≡ j + segment_looks K k → s.tally.looks + looked ≡ h'.looks
    unfolding heap_remove
    listed_looks looked e =
        let b : segment_looks K k ≡ sh.looks (seg sh h.bounds j key) = sym (X.agrees.looks k) ∙ ap sh.looks listed_seg in
        rw (e, b, same_looks T.tally)

    in_segment_lem : (w : ℕ) → w < n → place w ≡ slot_word K j k → Labelled h.search w × (bucket_of h w ≡ j) × (segment_of sh h w ≡ seg sh h.bounds j key)
    in_segment_lem w low e = let r = slot_word_lem X T rest inv w j k slot low e in (r.0, r.2, r.3 ∙ listed_seg)

    -- In bucket 1 all nodes of the segment have the smallest key.
    pub listed_equal : j ≤ 1 → (w : ℕ) → w < n → w ≢ v → place w ≡ slot_word K j k → key_of h w ≡ key
    listed_equal near w low q e =
        let r = in_segment_lem w low e in
        first_equal X.lawful rest inv listed_fit listed_min (slot_word K) w r.0 q (omega (arith, slot.first)) r.1 r.2

    -- The word that a node of the segment is given, by words whose bounds are the new ones.
    module _ (u : List ℕ) (bounds : (i : ℕ) → 1 ≤ i → i ≤ B → bound u i ≡ bound after i) where
      moved_bucket_lem : (w : ℕ) → bucket_from u (key_of h w) j ≡ bucket_from after (key_of h w) j
      moved_bucket_lem w = bucket_from_same u after (key_of h w) j (λ i low high. bounds i low (omega (arith, slot.last)))

      -- A node of another key than the smallest falls to a lower bucket.
      moved_low : (w : ℕ) → w < n → w ≢ v → place w ≡ slot_word K j k → key_of h w ≢ key
          → Fits sh after (bucket_from after (key_of h w) j) (key_of h w) × (bucket_from after (key_of h w) j < j)
      moved_low w low q e z =
          let r = in_segment_lem w low e in
          elim (split 1 j) [
            | inl far ↦ rw r.1 at (falls X.lawful rest inv listed_fit listed_min w r.0 (record { bucket = far; there = r.1; segment = r.2; other = q }))
            | inr near ↦ absurd (z (listed_equal near w low q e))
          ]

      moved_word : (w : ℕ) → w < n → w ≢ v → place w ≡ slot_word K j k
          → key_word B K sizes u key (key_of h w) (bucket_from u (key_of h w) j) ≡ poured X.lawful rest inv listed_fit listed_min (slot_word K) (key_of h w)
      moved_word w low q e = ⊎_elim
          (λ z. rw (eq-eqb (key_of h w) key z))
          (λ z. rw (ne_eqb (key_of h w) key z) (apart z))
          (same? (key_of h w) key)
        where
          apart : key_of h w ≢ key → slot_word K (bucket_from u (key_of h w) j) (segment_number B K sizes (bucket_from u (key_of h w) j) (bound u (bucket_from u (key_of h w) j)) (key_of h w))
              ≡ slot_word K (bucket_from after (key_of h w) j) (sh.segment (bucket_from after (key_of h w) j) (bound after (bucket_from after (key_of h w) j)) (key_of h w))
          apart z =
              let b = bucket_from after (key_of h w) j in
              let f = moved_low w low q e z in
              let c = bounds b f.0.low (omega (arith, f.1, slot.last)) in
              let g : segment_number B K sizes b (bound after b) (key_of h w) ≡ sh.segment b (bound after b) (key_of h w) = sym (X.agrees.segment b (bound after b) (key_of h w)) in
              rw (moved_bucket_lem w, c, g)

      -- So the word is one that can be stored, and is not that of the segment.
      late : s.front ≤ key
      late = rest.ahead v listed_min.member

      moved_fits : (w : ℕ) → w < n → w ≢ v → place w ≡ slot_word K j k → key_of h w ≢ key
          → SlotFits B K (bucket_from u (key_of h w) j) (segment_number B K sizes (bucket_from u (key_of h w) j) (bound u (bucket_from u (key_of h w) j)) (key_of h w))
      moved_fits w low q e z =
          let b = bucket_from after (key_of h w) j in
          let f = moved_low w low q e z in
          let c = bounds b f.0.low (omega (arith, f.1, slot.last)) in
          let g : segment_number B K sizes b (bound after b) (key_of h w) ≡ sh.segment b (bound after b) (key_of h w) = sym (X.agrees.segment b (bound after b) (key_of h w)) in
          rw (moved_bucket_lem w, c, g)
          (key_fits X.lawful X.agrees (bounds_after_lem X.lawful inv.bounds listed_fit late) f.0 (listed_min.least w (in_segment_lem w low e).0))

      pub moved_enters : (w : ℕ) → w < n → w ≢ v → place w ≡ slot_word K j k → Enters B K sizes u key (key_of h w) (bucket_from u (key_of h w) j)
      moved_enters w low q e = record {
        fits = moved_fits w low q e;
        under = λ z.
            let f = moved_low w low q e z in
            let c = bounds (bucket_from after (key_of h w) j) f.0.low (omega (arith, f.1, slot.last)) in
            rw (moved_bucket_lem w, c) f.0.under;
      }

      pub moved_apart : (w : ℕ) → w < n → w ≢ v → place w ≡ slot_word K j k → key_word B K sizes u key (key_of h w) (bucket_from u (key_of h w) j) ≢ slot_word K j k
      moved_apart w low q e = ⊎_elim
          (λ z. rw (eq-eqb (key_of h w) key z) (λ same. omega (arith, word_far K j k)))
          (λ z. rw (ne_eqb (key_of h w) key z) (λ same.
          let f = moved_low w low q e z in
          omega (arith, (same_slot (moved_fits w low q e z) slot (omega (arith, X.slots, T.frontier.linked.fits.few)) same).0, moved_bucket_lem w, f.1)))
          (same? (key_of h w) key)

    -- How many shifts there are: the nodes that still have the segment's word when v has left it, where j is not 1.
    module _ (word : ℕ → ℕ) (here : word v ≡ 2) (other : (w : ℕ) → w < n → w ≢ v → word w ≡ place w) where
      one_slot : (w : ℕ) → Labelled h.search w → slot_word K (bucket_of h w) (segment_of sh h w) ≡ slot_word K j (seg sh h.bounds j key)
          → (bucket_of h w ≡ j) × (segment_of sh h w ≡ seg sh h.bounds j key)
      one_slot w on e =
          let q = same_slot (slot_fits X T rest inv w on) slot (omega (arith, X.slots, T.frontier.linked.fits.few)) (e ∙ ap (slot_word K j) (sym listed_seg)) in
          (q.0, q.1 ∙ listed_seg)

      pub listed_shifts : h'.shifts ≡ h.shifts + cond (ltb 1 j) (sum_below n (λ w. is_word (slot_word K j k) (word w))) 0
      listed_shifts = elim (split 1 j) [
        | inl far ↦
            rw (lt-ltb 1 j far)
            (shifts_sum X.lawful rest inv listed_fit listed_min (slot_word K) (λ b m. omega (arith, word_far K b m)) one_slot (later X T rest inv none_current)
            word here (λ w low q. other w (omega (arith, X.nodes)) q ∙ T.places w (omega (arith, X.nodes))) far
            ∙ ap (λ (c : ℕ). h.shifts + c)
            (ap (λ (m : ℕ). sum_below m (λ w. is_word (slot_word K j (seg sh h.bounds j key)) (word w))) X.nodes
            ∙ ap (λ (i : ℕ). sum_below n (λ w. is_word (slot_word K j i) (word w))) (sym listed_seg)))
        | inr near ↦ rw (le-ltb 1 j near) (omega (arith, shifts_first X.lawful rest inv listed_fit listed_min (slot_word K) (omega (arith, slot.first))))
      ]

      -- How many bounds are read for them, by words whose bounds are the new ones.
      module _ (u : List ℕ) (bounds : (i : ℕ) → 1 ≤ i → i ≤ B → bound u i ≡ bound after i) where
        abbrev read : ℕ → ℕ
        read w = is_word (slot_word K j k) (word w) * reads_from u (key_of h w) j

        read_is : (w : ℕ) → is_word (slot_word K j (seg sh h.bounds j key)) (word w) * reads_from after (key_of h w) j ≡ read w
        read_is w =
            let q = reads_same u after (key_of h w) j (λ i low high. bounds i low (omega (arith, slot.last))) in
            ap (λ (i : ℕ). is_word (slot_word K j i) (word w) * reads_from after (key_of h w) j) (sym listed_seg)
            ∙ ap (λ (c : ℕ). is_word (slot_word K j k) (word w) * c) (sym q)

        pub listed_reads : h'.reads ≡ h.reads + cond (ltb 1 j) (sum_below n read) 0
        listed_reads = elim (split 1 j) [
          | inl far ↦
              rw (lt-ltb 1 j far)
              (reads_sum X.lawful rest inv listed_fit listed_min (slot_word K) (λ b m. omega (arith, word_far K b m)) one_slot (later X T rest inv none_current)
              word here (λ w low q. other w (omega (arith, X.nodes)) q ∙ T.places w (omega (arith, X.nodes))) far
              ∙ ap (λ (c : ℕ). h.reads + c)
              (ap (λ (m : ℕ). sum_below m (λ w. is_word (slot_word K j (seg sh h.bounds j key)) (word w) * reads_from after (key_of h w) j)) X.nodes
              ∙ sum_same n (λ w. is_word (slot_word K j (seg sh h.bounds j key)) (word w) * reads_from after (key_of h w) j) read (λ w _. read_is w)))
          | inr near ↦ rw (le-ltb 1 j near) (omega (arith, reads_first X.lawful rest inv listed_fit listed_min (slot_word K) (omega (arith, slot.first))))
        ]

    -- The words after the removal.
    module _ (u : List ℕ) {w' : List ℕ} (frontier : Frontier n layout.slots K w') (here : get_or (Words.places n w') v 0 ≡ 2)
        (bounds : (i : ℕ) → 1 ≤ i → i ≤ B → bound u i ≡ bound after i) (same_bounds : (i : ℕ) → 1 ≤ i → i ≤ B → bound (bounds_of n w') i ≡ bound after i)
        (moved : (w : ℕ) → w < n → w ≢ v → place w ≡ slot_word K j k → get_or (Words.places n w') w 0 ≡ key_word B K sizes u key (key_of h w) (bucket_from u (key_of h w) j))
        (kept : (w : ℕ) → w < n → w ≢ v → place w ≢ slot_word K j k → get_or (Words.places n w') w 0 ≡ place w) where
      plain_place : (w : ℕ) → w < n → w ≢ v → mark h.search w ≢ labelled → place w ≤ 2 → get_or (Words.places n w') w 0 ≡ place_of (slot_word K) sh key h' w
      plain_place w low q not small =
          kept w low q (λ e. omega (arith, word_far K j k)) ∙ T.places w low ∙ sym (removed_unlabelled X.lawful rest inv listed_fit listed_min (slot_word K) w q not)

      plain_word : (w : ℕ) → w < n → (m : Mark) → mark h.search w ≡ m → m ≢ labelled → place w ≤ 2
      plain_word w low unlabelled e not = omega (arith, T.places w low ∙ place_is (slot_word K) sh s.front h w e refl refl refl)
      plain_word w low labelled e not = absurd (not refl)
      plain_word w low scanned e not = omega (arith, T.places w low ∙ place_is (slot_word K) sh s.front h w e refl refl refl)

      labelled_place : (w : ℕ) → w < n → w ≢ v → Labelled h.search w → get_or (Words.places n w') w 0 ≡ place_of (slot_word K) sh key h' w
      labelled_place w low q on = ⊎_elim
          (λ e. let r = in_segment_lem w low e in
          moved w low q e ∙ moved_word u bounds w low q e ∙ sym (removed_poured X.lawful rest inv listed_fit listed_min (slot_word K) w on q r.1 r.2))
          (λ e. kept w low q e ∙ T.places w low
          ∙ sym (removed_other X.lawful rest inv listed_fit listed_min (slot_word K) w on q (λ r. e (out r)) (later X T rest inv none_current w on)))
          (same? (place w) (slot_word K j k))
        where
          out : (bucket_of h w ≡ j) × (segment_of sh h w ≡ seg sh h.bounds j key) → place w ≡ slot_word K j k
          out r = listed_word X T rest inv w on (later X T rest inv none_current w on) ∙ cc (r.0, r.1, listed_seg)

      pub listed_stands : {s' : State} (shifted looked read : ℕ) → h'.shifts ≡ h.shifts + shifted → looked ≡ j + segment_looks K k → h'.reads ≡ h.reads + read
          → Removing key shifted looked read s s' → s'.current ≡ with_word n w' 1
          → Stands layout sh before h' (record { words = w'; distances = l.distances; parents = l.parents; roster = set l.roster s.reached v }) s'
      listed_stands {s'} shifted looked read shifts-are looks_are reads-are c count = record {
        frontier = frontier;
        places = λ w low. rw c.front (⊎_elim
            (λ e. rw e (here ∙ sym (removed_scanned X.lawful rest inv listed_fit listed_min (slot_word K))))
            (λ q. mark_cases (mark h.search w)
            (λ e. plain_place w low q (λ z. labelled≢unlabelled (sym z ∙ e)) (plain_word w low unlabelled e (λ z. labelled≢unlabelled (sym z))))
            (λ e. labelled_place w low q e)
            (λ e. plain_place w low q (λ z. labelled≢scanned (sym z ∙ e)) (plain_word w low scanned e (λ z. labelled≢scanned (sym z)))))
            (same? w v));
        bounds = unfold heap_remove in same_bounds;
        distances = unfold heap_remove remove in T.distances;
        parents = unfold heap_remove remove in T.parents;
        roster = roster_after j (seg sh h.bounds j key) key v listed_min.member;
        current = count;
        reached = omega (arith, c.reached, T.reached, reached_after j (seg sh h.bounds j key) key v);
        tally = c.tally ∙ same_tally (unfold heap_remove remove in same_insertions T.tally) (unfold heap_remove remove in same_decreases T.tally)
            (omega (arith, same_shifts T.tally, shifts-are)) (listed_looks looked looks_are) (omega (arith, same_reads T.tally, reads-are));
      }
