-- What the place word of a node tells when its key falls, and that the words then stand for the step.
use Prim.Native.Nat.{ℕ, ◌+◌, ◌*◌, ◌≤◌, ◌<◌}
use native.Mathlib.Omega.{arith}
use mathlib.Core.Path.{◌≡◌, refl, sym, ◌∙◌, ap, ap₂}
use mathlib.Core.Logic.{◌≢◌}
use mathlib.Core.List.{List}
use lib.ListN.{length, get_or, set}
use lib.Seq.{set-get_or}
use borrow.Author.Tests.{ne_eqb, ltb-true}
use Rattle.theory.specs.Shape.{Shape}
use Rattle.theory.specs.Search.{Mark, unlabelled, labelled, mark}
use Rattle.theory.specs.Heap.{Heap, bound, bucket_of, key_of, bucket_from, reads_from, segment_of, search_start, heap_label}
use Rattle.theory.proofs.Cases.{mark_cases}
use Rattle.bounds.specs.Words.{bounds_of}
use Rattle.bounds.proofs.Bucket.{reads_most}
use Rattle.bounds.proofs.Segments.{number_whole}
use Rattle.buckets.specs.Words.{places, heads, place_bucket, Held}
use Rattle.frontier.specs.Frontier.{Frontier, Placed}
use Rattle.frontier.specs.Frontier.Laws.{placed_again, placed_here}
use Rattle.state.specs.declared.Layout.{Layout}
use Rattle.state.specs.declared.Tally.{Tally}
use Rattle.state.specs.declared.State.{State}
use Rattle.state.specs.Places.{is_word}
use Rattle.state.specs.Slots.{slot_word, key_word, SlotFits, Enters}
use Rattle.state.specs.Stands.{Setting, Lists, Stands}
use Rattle.state.specs.Tallies.{insertion, decrease, reads, after_event, after_label}
use Rattle.state.proofs.Places.Label.{place_is}
use Rattle.state.proofs.Slots.{word_far, slot_bucket_lem, slot_below, key_fits, key_end, same_word, same_enters}
use Rattle.state.proofs.Find.{words_few, is_word_low, is_word_other}
use Rattle.state.proofs.Label.{label_enters, label_stands}
use Rattle.placing.specs.Placing.{Formed, Entering, Entered, Standing, Stays, lists, Labels}
use Rattle.state.proofs.Tallies.{label_insertion, label_decrease}

-- Words that stay as they are: each node has the place word that it had.
placed_same : {n slots K : ℕ} {w : List ℕ} → Frontier n slots K w → (v : ℕ) → Placed n slots K w w v (get_or (places n w) v 0)
placed_same {n} {w = w} F v = record { frontier = F; place = sym (set-get_or (places n w) v 0); same_length = refl; bounds = λ i h. refl }

pub formed : {layout : Layout} {sizes : List ℕ} → Setting layout sizes → Formed layout sizes
formed X = record { sized = X.agrees.sized; slots = X.slots }

pub entered_low : {layout : Layout} {sizes words words' : List ℕ} {front v key b r : ℕ} → Entered layout sizes words words' front v key b r → r ≤ 1
entered_low {layout} {sizes} {words} {front = front} {key = key} {b = b} E =
    omega (arith, E.counted, is_word_low 1 (key_word layout.buckets layout.segments sizes (bounds_of layout.nodes words) front key b))

module _ {layout : Layout} {sizes : List ℕ} {X : Setting layout sizes} {before : List ℕ} {h : Heap} {l : Lists} {s : State} {v x : ℕ} (L : Labels X before h l s v x) where
  abbrev n : ℕ
  n = layout.nodes

  abbrev K : ℕ
  K = layout.segments

  abbrev B : ℕ
  B = layout.buckets

  abbrev sh : Shape
  sh = X.shape

  abbrev T : Stands layout X.shape before h l s
  T = L.stands

  pub node : v < n
  node = omega (arith, L.labelling.node, X.nodes)

  pub distances_long : length l.distances ≡ n
  distances_long = ap length T.distances ∙ L.labelling.distances ∙ X.nodes

  pub words_long : heads n ≤ length l.words
  words_long = omega (arith, T.frontier.linked.fits.long)

  pub current_few : s.current ≤ 4096
  current_few = omega (arith, T.current, words_few n 1 (λ w. get_or (places n l.words) w 0), T.frontier.few)

  abbrev pub place : ℕ
  place = get_or (places n l.words) v 0

  marked_place : {m : Mark} → mark h.search v ≡ m → place ≡ Rattle.state.specs.Places.word_of (slot_word K) s.front m (bucket_of h v) (segment_of sh h v) (key_of h v)
  marked_place e = T.places v node ∙ place_is (slot_word K) sh s.front h v e refl refl refl

  held_word : mark h.search v ≡ labelled → place ≡ slot_word K (bucket_of h v) (segment_of sh h v)
  held_word on =
      let less : x < key_of h v = ltb-true x (key_of h v) (rw on at L.labelling.less) in
      marked_place on ∙ (rw (ne_eqb (key_of h v) s.front (λ e. omega (arith, L.late))))

  -- The place word is 0 exactly if the node is unlabelled.
  pub fresh : place ≡ 0 → mark h.search v ≡ unlabelled
  fresh e = mark_cases (mark h.search v) (λ q. q)
      (λ q. absurd (omega (arith, held_word q, word_far K (bucket_of h v) (segment_of sh h v)))) (λ q. absurd (L.labelling.unscanned q))

  pub held : place ≢ 0 → mark h.search v ≡ labelled
  held e = mark_cases (mark h.search v) (λ q. absurd (e (marked_place q))) (λ q. q) (λ q. absurd (L.labelling.unscanned q))

  pub held_far : place ≢ 0 → Held place
  held_far e = omega (arith, held_word (held e), word_far K (bucket_of h v) (segment_of sh h v))

  abbrev u : List ℕ
  u = bounds_of n l.words

  start_fresh : mark h.search v ≡ unlabelled → search_start sh (mark h.search v) (bucket_of h v) ≡ B
  start_fresh e = rw e X.agrees.buckets

  start_held : mark h.search v ≡ labelled → search_start sh (mark h.search v) (bucket_of h v) ≡ bucket_of h v
  start_held e = rw e

  -- The search for an unlabelled node's bucket begins at B.
  pub fresh_read : (4 * n + B < length l.words) × (B ≤ 32)
  fresh_read = (omega (arith, words_long, X.agrees.sized.few), omega (arith, X.agrees.sized.few))

  -- So many bounds can be added to those that were read.
  pub read_few : {k start : ℕ} → start ≤ B → k ≡ reads_from u x start → s.tally.reads + k < 4294967296
  read_few {start = start} low e = omega (arith, L.reads_few, reads_most u x start, X.agrees.sized.few)

  module _ (e : place ≡ 0) {b k : ℕ} (found : (b ≡ bucket_from u x B) × (k ≡ reads_from u x B)) where
    pub fresh_entering : Entering layout sizes l.words s.front v x b
    fresh_entering = record {
      formed = formed X;
      frontier = T.frontier;
      node = node;
      unlabelled = e;
      enters = rw found.0 (rw (start_fresh (fresh e)) at (label_enters X T L.inv L.labelling L.late u T.bounds));
    }

    pub fresh_stands : {w' : List ℕ} {r : ℕ} → Entered layout sizes l.words w' s.front v x b r → {s' : State} (a : ℕ)
        → s'.front ≡ s.front → s'.current ≡ s.current + r → s'.reached ≡ s.reached → s'.tally ≡ after_event (reads k) (after_event insertion s.tally)
        → Stands layout sh before (heap_label sh v x a h) (lists w' (set l.distances v x) (set l.parents v a) l.roster) s'
    fresh_stands {w'} {r} E {s'} a f c q t =
        let on = fresh e in
        let st = start_fresh on in
        let there : b ≡ bucket_from u x (search_start sh (mark h.search v) (bucket_of h v)) = found.0 ∙ ap (bucket_from u x) (sym st) in
        label_stands X T L.inv L.labelling L.late u T.bounds (rw there at E.placed) a
        (record {
          front = f;
          current = c ∙ ap (λ (k : ℕ). s.current + k) (E.counted ∙ ap (λ (i : ℕ). is_word 1 (key_word B K sizes u s.front x i)) there);
          reached = q;
          tally = t ∙ label_insertion k s.tally ∙ ap₂ (λ (m : Mark) (i : ℕ). after_label m i s.tally) (sym on) (found.1 ∙ ap (reads_from u x) (sym st));
        })

  -- A labelled node stands in its slot, and its key falls below the end of its segment.
  module _ (e : place ≢ 0) where
    on : mark h.search v ≡ labelled
    on = held e

    less : x < key_of h v
    less = ltb-true x (key_of h v) (rw on at L.labelling.less)

    slot_is : SlotFits B K (bucket_of h v) (segment_of sh h v)
    slot_is = key_fits X.lawful X.agrees L.inv.bounds (L.inv.fits v on) (omega (arith, L.late, less))

    held_bucket : place_bucket place ≡ bucket_of h v
    held_bucket = rw (held_word on) (omega (arith, slot_bucket_lem slot_is, slot_below slot_is, X.slots, T.frontier.linked.fits.few))

    -- The search for its bucket begins at the one that its place word names.
    module _ {start : ℕ} (from : start ≡ place_bucket place) where
      at_bucket : start ≡ bucket_of h v
      at_bucket = from ∙ held_bucket

      pub held_start : (1 ≤ start) × (start ≤ B)
      held_start = (omega (arith, at_bucket, slot_is.first), omega (arith, at_bucket, slot_is.last))

      bound_is : bound u start ≡ bound h.bounds (bucket_of h v)
      bound_is = ap (bound u) at_bucket ∙ T.bounds (bucket_of h v) slot_is.first slot_is.last

      pub held_read : (4 * n + start < length l.words) × ((1 ≤ start) × (start ≤ 32)) × (x ≤ bound u start)
      held_read = (
        omega (arith, held_start, words_long, X.agrees.sized.few),
        (held_start.0, omega (arith, held_start.1, X.agrees.sized.few)),
        omega (arith, bound_is, less, (L.inv.fits v on).under),
      )

      module _ {y b k : ℕ} (found : (y ≡ bound u start) × (b ≡ bucket_from u x start) × (k ≡ reads_from u x start)) where
        pub standing : Standing layout sizes y place x
        standing = record {
          formed = formed X;
          few = T.frontier.linked.fits.few;
          bucket = bucket_of h v;
          segment = segment_of sh h v;
          fits = slot_is;
          whole = λ t. X.agrees.segment (bucket_of h v) (bound h.bounds (bucket_of h v)) (key_of h v) ∙ number_whole B K sizes (bucket_of h v) (bound h.bounds (bucket_of h v)) (key_of h v) t;
          word = held_word on;
          below = rw (found.0 ∙ bound_is)
              (omega (arith, less, key_end X.lawful X.agrees L.inv.bounds (L.inv.fits v on) (omega (arith, L.late, less))));
        }

        same_start : search_start sh (mark h.search v) (bucket_of h v) ≡ start
        same_start = start_held on ∙ sym at_bucket

        there : b ≡ bucket_from u x (search_start sh (mark h.search v) (bucket_of h v))
        there = found.1 ∙ ap (bucket_from u x) (sym same_start)

        tally_is : {t : Tally} → t ≡ after_event (reads k) (after_event decrease s.tally)
            → t ≡ after_label (mark h.search v) (reads_from u x (search_start sh (mark h.search v) (bucket_of h v))) s.tally
        tally_is t = t ∙ label_decrease k s.tally ∙ ap₂ (λ (m : Mark) (i : ℕ). after_label m i s.tally) (sym on) (found.2 ∙ ap (reads_from u x) (sym same_start))

        -- A labelled node whose place word is still that of its key: the words stay as they are.
        pub stays_stands : Stays layout sizes s.front place x y b → {s' : State} (a : ℕ)
            → s'.front ≡ s.front → s'.current ≡ s.current → s'.reached ≡ s.reached → s'.tally ≡ after_event (reads k) (after_event decrease s.tally)
            → Stands layout sh before (heap_label sh v x a h) (lists l.words (set l.distances v x) (set l.parents v a) l.roster) s'
        stays_stands S {s'} a f c q t =
            let same_bound : y ≡ bound u b = found.0 ∙ ap (bound u) (from ∙ sym S.bucket) in
            let word : key_word B K sizes u s.front x b ≡ place = rw (ne_eqb x s.front S.later, ← same_bound) S.word in
            let P : Placed n layout.slots K l.words l.words v place = placed_same T.frontier v in
            label_stands X T L.inv L.labelling L.late u T.bounds (rw (← there, word) P) a
            (record {
              front = f;
              current = omega (
                arith,
                c,
                ap (is_word 1) (ap (key_word B K sizes u s.front x) (sym there) ∙ word),
                is_word_other 1 place (λ z. omega (arith, held_far e)),
              );
              reached = q;
              tally = tally_is t;
            })

        -- When it has left its slot.
        module _ {w₁ : List ℕ} (P : Placed n layout.slots K l.words w₁ v 0) where
          enters : Enters B K sizes u s.front x b
          enters = rw there (label_enters X T L.inv L.labelling L.late u T.bounds)

          same_bounds : (i : ℕ) → 1 ≤ i → i ≤ B → bound u i ≡ bound (bounds_of n w₁) i
          same_bounds i low high = sym (P.bounds i (omega (arith, X.agrees.sized.few)))

          pub held_entering : Entering layout sizes w₁ s.front v x b
          held_entering = record {
            formed = formed X;
            frontier = P.frontier;
            node = node;
            unlabelled = placed_here T.frontier P node;
            enters = same_enters enters (bounds_of n w₁) same_bounds;
          }

          pub held_stands : {w₂ : List ℕ} {r : ℕ} → Entered layout sizes w₁ w₂ s.front v x b r → {s' : State} (a : ℕ)
              → s'.front ≡ s.front → s'.current ≡ s.current + r → s'.reached ≡ s.reached → s'.tally ≡ after_event (reads k) (after_event decrease s.tally)
              → Stands layout sh before (heap_label sh v x a h) (lists w₂ (set l.distances v x) (set l.parents v a) l.roster) s'
          held_stands {w₂} {r} E {s'} a f c q t =
              let word : key_word B K sizes (bounds_of n w₁) s.front x b ≡ key_word B K sizes u s.front x (bucket_from u x (search_start sh (mark h.search v) (bucket_of h v))) =
              sym (same_word enters (bounds_of n w₁) same_bounds) ∙ ap (key_word B K sizes u s.front x) there in
              label_stands X T L.inv L.labelling L.late u T.bounds (rw word at (placed_again P E.placed)) a
              (record {
                front = f;
                current = c ∙ ap (λ (k : ℕ). s.current + k) (E.counted ∙ ap (is_word 1) word);
                reached = q;
                tally = tally_is t;
              })
