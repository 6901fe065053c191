-- An insertion or a decrease in the words is the step's.
use Prim.Native.Nat.{ℕ, ◌+◌, ◌≤◌, ◌<◌}
use native.Mathlib.Omega.{arith}
use mathlib.Core.Path.{◌≡◌, refl, sym, ◌∙◌, ap}
use mathlib.Core.Bool.{true, cond}
use mathlib.Core.Logic.{◌≢◌, ⊎_elim}
use mathlib.Core.List.{List}
use lib.Dec.{eqb}
use lib.ListN.{get_or, set}
use borrow.Author.Tests.{ne_eqb, ltb-true}
use Rattle.theory.specs.Shape.{Shape}
use Rattle.theory.specs.Search.{Mark, unlabelled, labelled, scanned, mark, below, label}
use Rattle.theory.specs.Heap.{Heap, bound, bucket_of, key_of, bucket_from, reads_from, search_start, bucket_for, reads_for, heap_label}
use Rattle.theory.proofs.Cases.{same?}
use Rattle.theory.proofs.Sums.{sum_change}
use Rattle.theory.specs.Invariants.{HeapInv, Labelling}
use Rattle.theory.proofs.Heap.Label.{put}
use Rattle.bounds.specs.Words.{segment_number}
use Rattle.bounds.proofs.Bucket.{bucket_from_same, reads_same}
use Rattle.buckets.specs.Words
use Rattle.frontier.specs.Frontier.{Placed}
use Rattle.frontier.specs.Frontier.Laws.{placed_here, placed_other}
use Rattle.state.specs.declared.Layout.{Layout}
use Rattle.state.specs.declared.State.{State}
use Rattle.state.specs.Places.{is_word}
use Rattle.state.specs.Slots.{slot_word, key_word, Enters}
use Rattle.state.specs.Stands.{Setting, Lists, Stands}
use Rattle.state.specs.Tallies.{after_label}
use Rattle.state.proofs.Places.Label.{place_is, label_here, label_other}
use Rattle.state.proofs.Slots.{word_far, key_fits}

-- Which numbers change: the labelled nodes at the current key, and the tallies; so many bounds were read.
pub record Counting (m : Mark) (word read : ℕ) (s s' : State) : Type 0 where
  pub front : s'.front ≡ s.front
  pub current : s'.current ≡ s.current + is_word 1 word
  pub reached : s'.reached ≡ s.reached
  pub tally : s'.tally ≡ after_label m read s.tally

module _ {layout : Layout} {sizes : List ℕ} (X : Setting layout sizes) {before : List ℕ} {h : Heap} {l : Lists} {s : State} (T : Stands layout X.shape before h l s)
    (inv : HeapInv X.network X.shape s.front h) {v x : ℕ} (lab : Labelling X.network X.shape h v x) (late : s.front ≤ x)
    (u : List ℕ) (read : (i : ℕ) → 1 ≤ i → i ≤ layout.buckets → bound u i ≡ bound h.bounds i) where
  abbrev n : ℕ
  n = layout.nodes

  abbrev K : ℕ
  K = layout.segments

  abbrev B : ℕ
  B = layout.buckets

  abbrev sh : Shape
  sh = X.shape

  abbrev start : ℕ
  start = search_start sh (mark h.search v) (bucket_of h v)

  abbrev found : ℕ
  found = bucket_from u x start

  abbrev word : ℕ
  word = key_word B K sizes u s.front x found

  pub start_low : start ≤ B
  start_low = go (mark h.search v) refl lab.unscanned
    where
      go : (m : Mark) → mark h.search v ≡ m → m ≢ scanned → search_start sh m (bucket_of h v) ≤ B
      go unlabelled e n = omega (arith, X.agrees.buckets)
      go labelled e n = omega (arith, X.agrees.buckets, (inv.fits v e).high)
      go scanned e n = absurd (n refl)

  -- The word that is stored is that of the step.
  same_bucket : found ≡ bucket_for sh v x h
  same_bucket = bucket_from_same u h.bounds x start (λ i low high. read i low (omega (arith, start_low)))

  same_reads : reads_from u x start ≡ reads_for sh v x h
  same_reads = reads_same u h.bounds x start (λ i low high. read i low (omega (arith, start_low)))

  bucket_low : (1 ≤ bucket_for sh v x h) × (bucket_for sh v x h ≤ B)
  bucket_low = let f = (put X.lawful inv lab).0 in (f.low, omega (arith, f.high, X.agrees.buckets))

  word_is : word ≡ cond (eqb x s.front) 1 (slot_word K (bucket_for sh v x h) (sh.segment (bucket_for sh v x h) (bound h.bounds (bucket_for sh v x h)) x))
  word_is = let b = bucket_for sh v x h in
      let r = read b bucket_low.0 bucket_low.1 in
      let g : segment_number B K sizes b (bound h.bounds b) x ≡ sh.segment b (bound h.bounds b) x = sym (X.agrees.segment b (bound h.bounds b) x) in
      rw (same_bucket, r, g)

  -- The key can be placed.
  pub label_enters : Enters B K sizes u s.front x found
  label_enters =
      let b = bucket_for sh v x h in
      let f = (put X.lawful inv lab).0 in
      let r = read b bucket_low.0 bucket_low.1 in
      let g : segment_number B K sizes b (bound h.bounds b) x ≡ sh.segment b (bound h.bounds b) x = sym (X.agrees.segment b (bound h.bounds b) x) in
      record {
        fits = λ _. rw (same_bucket, r, g) (key_fits X.lawful X.agrees inv.bounds f late);
        under = λ _. rw (same_bucket, r) f.under;
      }

  pub node : v < n
  node = omega (arith, lab.node, X.nodes)

  module _ {w' : List ℕ} (P : Placed n layout.slots K l.words w' v word) where
    new_here : get_or (Words.places n w') v 0 ≡ word
    new_here = placed_here T.frontier P node

    new_other : (w : ℕ) → w ≢ v → get_or (Words.places n w') w 0 ≡ get_or (Words.places n l.words) w 0
    new_other = placed_other T.frontier P

    -- The node was not at the current key.
    old_word : is_word 1 (get_or (Words.places n l.words) v 0) ≡ 0
    old_word = go (mark h.search v) refl lab.less lab.unscanned
      where
        plain : (y : ℕ) → get_or (Words.places n l.words) v 0 ≡ y → y ≢ 1 → is_word 1 (get_or (Words.places n l.words) v 0) ≡ 0
        plain y e q = rw (e, ne_eqb y 1 q)

        go : (m : Mark) → mark h.search v ≡ m → below m x (key_of h v) ≡ true → m ≢ scanned → is_word 1 (get_or (Words.places n l.words) v 0) ≡ 0
        go unlabelled e less q = plain 0 (T.places v node ∙ place_is (slot_word K) sh s.front h v e refl refl refl) (omega arith)
        go labelled e less q =
            let far : key_of h v ≢ s.front = λ z. omega (arith, ltb-true x (key_of h v) less) in
            let k = sh.segment (bucket_of h v) (bound h.bounds (bucket_of h v)) (key_of h v) in
            plain (slot_word K (bucket_of h v) k) (T.places v node ∙ place_is (slot_word K) sh s.front h v e refl refl refl ∙ (rw (ne_eqb (key_of h v) s.front far)))
            (omega (arith, word_far K (bucket_of h v) k))
        go scanned e less q = absurd (q refl)

    pub label_stands : {s' : State} (a : ℕ) → Counting (mark h.search v) word (reads_from u x start) s s'
        → Stands layout sh before (heap_label sh v x a h)
        (record { words = w'; distances = set l.distances v x; parents = set l.parents v a; roster = l.roster }) s'
    label_stands {s'} a c = record {
      frontier = P.frontier;
      places = λ w low. rw c.front (⊎_elim
          (λ e. rw e (new_here ∙ word_is ∙ sym (label_here inv lab a (slot_word K) s.front)))
          (λ q. new_other w q ∙ T.places w low ∙ sym (label_other inv lab a (slot_word K) s.front w q))
          (same? w v));
      bounds = unfold heap_label in (λ i low high. P.bounds i (omega (arith, X.agrees.sized.few)) ∙ T.bounds i low high);
      distances = unfold heap_label label in ap (λ (d : List ℕ). set d v x) T.distances;
      parents = unfold heap_label label in ap (λ (d : List ℕ). set d v a) T.parents;
      roster = unfold heap_label label in T.roster;
      current = c.current ∙ omega (
        arith,
        T.current,
        old_word,
        sum_change n v (λ w. is_word 1 (get_or (Words.places n l.words) w 0)) (λ w. is_word 1 (get_or (Words.places n w') w 0)) node (λ w q. ap (is_word 1) (new_other w q)),
        ap (is_word 1) new_here,
      );
      reached = unfold heap_label label in (c.reached ∙ T.reached);
      tally = unfold heap_label label in (c.tally ∙ (rw (T.tally, same_reads)));
    }
