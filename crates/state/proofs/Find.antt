-- What the place words tell: which nodes are labelled and where, and that the lowest slot's least node is the one to scan.
use Prim.Native.Nat.{ℕ, zero, suc, ◌+◌, ◌-◌, ◌*◌, ◌≤◌, ◌<◌}
use native.Mathlib.Omega.{arith}
use mathlib.Core.Path.{◌≡◌, refl, sym, ◌∙◌, ap}
use mathlib.Core.Bool.{Bool, true, false, cond}
use mathlib.Core.Logic.{◌≢◌, ◌⊎◌, inl, inr, ⊎_elim}
use mathlib.Core.List.{List}
use lib.Dec.{eqb}
use lib.ListN.{get_or}
use borrow.Author.Tests.{eq-eqb, ne_eqb, eqb-true}
use Rattle.theory.specs.Sums.{sum_below}
use Rattle.theory.specs.Shape.{Shape}
use Rattle.theory.specs.Search.{mark}
use Rattle.theory.specs.Heap.{Heap, bound, bucket_of, key_of, segment_of}
use Rattle.theory.proofs.Sums.{sum_mono, sum_ones}
use Rattle.theory.proofs.Cases.{split, same?, mark_cases}
use Rattle.theory.proofs.Lists.{get_d_inside}
use Rattle.theory.specs.Invariants.{Labelled, Least, AtRest, Fits, HeapInv}
use Rattle.theory.proofs.Search.Invariant.{labelled_node}
use Rattle.theory.proofs.Heap.Buckets.{fits_order}
use Rattle.theory.proofs.Heap.Invariant.{nearest_first}
use Rattle.buckets.specs.Words.{place_bucket}
use Rattle.buckets.specs.Words
use Rattle.buckets.specs.Answer.{InSlot, InBucket}
use Rattle.buckets.specs.Answer as Answer
use Rattle.frontier.specs.Frontier.{FirstCurrent}
use Rattle.state.specs.declared.Layout.{Layout}
use Rattle.state.specs.declared.State.{State}
use Rattle.state.specs.Places.{is_word}
use Rattle.state.specs.Slots.{slot_of, slot_word, SlotFits}
use Rattle.state.specs.Stands.{Setting, Lists, Stands}
use Rattle.state.proofs.Places.Label.{place_is}
use Rattle.state.proofs.Slots.{word_far, slot_bucket_lem, slot_below, same_slot, key_fits}

-- A sum that is not 0 has a term that is not.
pub sum_some : (n : ℕ) (f : ℕ → ℕ) → 0 < sum_below n f → (v : ℕ) × (v < n) × (0 < f v)
sum_some zero f h = absurd (omega arith)
sum_some (suc n) f h = elim (split 0 (f n)) [
  | inl l ↦ (n, omega arith, l)
  | inr l ↦ let r = sum_some n f (omega arith) in (r.0, omega (arith, r.1), r.2)
]

pub is_word_low : (c x : ℕ) → is_word c x ≤ 1
is_word_low c x = go (eqb x c)
  where
    go : (t : Bool) → cond t 1 0 ≤ 1
    go true = omega arith
    go false = omega arith

-- No more nodes have a word than there are.
pub words_few : (n c : ℕ) (word : ℕ → ℕ) → sum_below n (λ w. is_word c (word w)) ≤ n
words_few n c word = omega (arith, sum_mono n (λ w. is_word c (word w)) (λ w. 1) (λ w _. is_word_low c (word w)), sum_ones n)

pub is_word_same : (c : ℕ) → is_word c c ≡ 1
is_word_same c = rw (eq-eqb c c refl)

pub is_word_other : (c x : ℕ) → x ≢ c → is_word c x ≡ 0
is_word_other c x q = rw (ne_eqb x c q)

pub counted_word : (c x : ℕ) → 0 < is_word c x → x ≡ c
counted_word c x h = go (eqb x c) refl h
  where
    go : (t : Bool) → eqb x c ≡ t → 0 < cond t 1 0 → x ≡ c
    go true e l = eqb-true x c e
    go false e l = absurd (omega arith)

module _ {layout : Layout} {sizes : List ℕ} (X : Setting layout sizes) {before : List ℕ} {h : Heap} {l : Lists} {s : State} (T : Stands layout X.shape before h l s)
    (rest : AtRest X.network X.ceiling s.front h.search) (inv : HeapInv X.network X.shape s.front h) where
  abbrev n : ℕ
  n = layout.nodes

  abbrev K : ℕ
  K = layout.segments

  abbrev sh : Shape
  sh = X.shape

  abbrev place : ℕ → ℕ
  place v = get_or (Words.places n l.words) v 0

  pub node : (v : ℕ) → Labelled h.search v → v < n
  node v on = omega (arith, labelled_node rest v on, X.nodes)

  -- The word of a labelled node.
  labelled_word : (v : ℕ) → Labelled h.search v → place v ≡ cond (eqb (key_of h v) s.front) 1 (slot_word K (bucket_of h v) (segment_of sh h v))
  labelled_word v on = T.places v (node v on) ∙ place_is (slot_word K) sh s.front h v on refl refl refl

  pub current_word : (v : ℕ) → Labelled h.search v → key_of h v ≡ s.front → place v ≡ 1
  current_word v on e = labelled_word v on ∙ (rw (eq-eqb (key_of h v) s.front e))

  pub listed_word : (v : ℕ) → Labelled h.search v → key_of h v ≢ s.front → place v ≡ slot_word K (bucket_of h v) (segment_of sh h v)
  listed_word v on e = labelled_word v on ∙ (rw (ne_eqb (key_of h v) s.front e))

  -- A word that is neither 0 nor 2 is a labelled node's.
  pub word_labelled : (v : ℕ) → v < n → place v ≢ 0 → place v ≢ 2 → Labelled h.search v
  word_labelled v low a b = mark_cases (mark h.search v)
      (λ e. absurd (a (T.places v low ∙ place_is (slot_word K) sh s.front h v e refl refl refl)))
      (λ e. e)
      (λ e. absurd (b (T.places v low ∙ place_is (slot_word K) sh s.front h v e refl refl refl)))

  pub word_current : (v : ℕ) → v < n → place v ≡ 1 → Labelled h.search v × (key_of h v ≡ s.front)
  word_current v low e =
      let on = word_labelled v low (omega arith) (omega arith) in
      (on, ⊎_elim (λ q. q) (λ q. absurd (omega (arith, listed_word v on q, word_far K (bucket_of h v) (segment_of sh h v)))) (same? (key_of h v) s.front))

  pub word_listed : (v : ℕ) → v < n → 512 ≤ place v → Labelled h.search v × (key_of h v ≢ s.front)
  word_listed v low e =
      let on = word_labelled v low (omega arith) (omega arith) in
      (on, λ q. omega (arith, current_word v on q))

  pub slot_fits : (v : ℕ) → Labelled h.search v → SlotFits layout.buckets K (bucket_of h v) (segment_of sh h v)
  slot_fits v on = key_fits X.lawful X.agrees inv.bounds (inv.fits v on) (rest.ahead v on)

  slots_few : (layout.buckets - 1) * K + 1 < 512
  slots_few = omega (arith, X.slots, T.frontier.linked.fits.few)

  -- The bucket that a word names is the node's.
  pub word_bucket : (v : ℕ) → Labelled h.search v → key_of h v ≢ s.front → place_bucket (place v) ≡ bucket_of h v
  word_bucket v on q =
      let f = slot_fits v on in
      rw (listed_word v on q) (omega (arith, slot_bucket_lem f, slot_below f, slots_few))

  -- A node with the word of a slot stands in that segment.
  pub slot_word_lem : (v b k : ℕ) → SlotFits layout.buckets K b k → v < n → place v ≡ slot_word K b k → Labelled h.search v × (key_of h v ≢ s.front) × (bucket_of h v ≡ b) × (segment_of sh h v ≡ k)
  slot_word_lem v b k f low e =
      let r = word_listed v low (omega (arith, word_far K b k)) in
      let q = same_slot (slot_fits v r.0) f slots_few (sym (listed_word v r.0 r.1) ∙ e) in
      (r.0, r.1, q.0, q.1)

  -- The nodes at the current key: the smallest number among them is the node to scan.
  pub current_least : {w' : List ℕ} {v : ℕ} → FirstCurrent n layout.slots K l.words w' v → Least h.search v s.front
  current_least {v = v} F =
      let r = word_current v F.below F.was in
      record {
        member = r.0;
        key = r.1;
        least = λ w on. rest.ahead w on;
        first = λ w on e. F.least w (node w on) (current_word w on e);
      }

  pub current_fits : (v : ℕ) → Labelled h.search v → key_of h v ≡ s.front → Fits sh h.bounds 1 s.front
  current_fits v on e = rw (nearest_first X.lawful rest inv v on e, e) at (inv.fits v on)

  -- Where no node is at the current key, the least node of the lowest slot is the node to scan.
  module _ (none_current : (v : ℕ) → v < n → place v ≢ 1) where
    pub later : (v : ℕ) → Labelled h.search v → key_of h v ≢ s.front
    later v on e = none_current v (node v on) (current_word v on e)

    pub key_word_lem : (v : ℕ) → v < n → get_or l.distances v 0 ≡ key_of h v
    key_word_lem v low = ap (λ (d : List ℕ). get_or d v 0) T.distances ∙ get_d_inside h.search.distances v 0 _ (omega (arith, rest.distances_length, X.nodes))

    module _ {j k v : ℕ} (fit : SlotFits layout.buckets K j k)
        (lower : (b w : ℕ) → 1 ≤ b → b < j → InBucket n b l.words w → ⊥)
        (earlier : (m w : ℕ) → 1 ≤ m → m < k → InSlot n K (slot_of K j m) l.words w → ⊥)
        (found : Answer.LeastIn n K (slot_of K j k) l.words l.distances v) where
      v_is : Labelled h.search v × (key_of h v ≢ s.front) × (bucket_of h v ≡ j) × (segment_of sh h v ≡ k)
      v_is = slot_word_lem v j k fit found.in_slot.0 found.in_slot.1

      bucket_up : (w : ℕ) → Labelled h.search w → j ≤ bucket_of h w
      bucket_up w on = elim (split (bucket_of h w) j) [
        | inl l ↦ absurd (lower (bucket_of h w) w (inv.fits w on).low l (node w on, word_bucket w on (later w on)))
        | inr l ↦ l
      ]

      segment_up : (w : ℕ) → Labelled h.search w → bucket_of h w ≡ j → k ≤ segment_of sh h w
      segment_up w on e = elim (split (segment_of sh h w) k) [
        | inl l ↦ absurd (earlier (segment_of sh h w) w (slot_fits w on).low l (node w on, listed_word w on (later w on) ∙ ap (λ (b : ℕ). slot_word K b (segment_of sh h w)) e))
        | inr l ↦ l
      ]

      in_slot_lem : (w : ℕ) → Labelled h.search w → bucket_of h w ≡ j → segment_of sh h w ≡ k → InSlot n K (slot_of K j k) l.words w
      in_slot_lem w on e q = (node w on, listed_word w on (later w on) ∙ cc (e, q))

      ordered : (w : ℕ) → InSlot n K (slot_of K j k) l.words w → (key_of h v < key_of h w) ⊎ ((key_of h v ≡ key_of h w) × (v ≤ w))
      ordered w i = rw (key_word_lem v found.in_slot.0, key_word_lem w i.0) at (found.before w i)

      same_seg : (w : ℕ) → Labelled h.search w → bucket_of h w ≡ j → key_of h w ≤ key_of h v → segment_of sh h w ≤ k
      same_seg w on e q =
          let r : sh.segment j (bound h.bounds j) (key_of h w) ≤ sh.segment j (bound h.bounds j) (key_of h v) = X.lawful.rising j (bound h.bounds j) (key_of h w) (key_of h v) q in
          let a : segment_of sh h w ≡ sh.segment j (bound h.bounds j) (key_of h w) = cc (e) in
          let b : k ≡ sh.segment j (bound h.bounds j) (key_of h v) = cc (v_is.2, v_is.3) in
          omega arith

      key_up : (w : ℕ) → Labelled h.search w → key_of h v ≤ key_of h w
      key_up w on = elim (split (key_of h w) (key_of h v)) [
        | inl l ↦
            let b : bucket_of h w ≡ j = let o = fits_order (inv.fits w on) (inv.fits v v_is.0) (omega arith) in omega (arith, bucket_up w on, v_is.2) in
            let q : segment_of sh h w ≡ k = omega (arith, segment_up w on b, same_seg w on b (omega arith)) in
            ⊎_elim (λ z. absurd (omega arith)) (λ z. absurd (omega (arith, z.0))) (ordered w (in_slot_lem w on b q))
        | inr l ↦ l
      ]

      pub listed_least : Least h.search v (key_of h v)
      listed_least = record {
        member = v_is.0;
        key = refl;
        least = key_up;
        first = λ w on e.
            let f = inv.fits w on in
            let g = inv.fits v v_is.0 in
            let b : bucket_of h w ≡ j = omega (arith, fits_order f g (omega arith), fits_order g f (omega arith), v_is.2) in
            let q : segment_of sh h w ≡ k = omega (arith, segment_up w on b, same_seg w on b (omega arith)) in
            ⊎_elim (λ z. absurd (omega arith)) (λ z. z.1) (ordered w (in_slot_lem w on b q));
      }

      pub listed_fits : Fits sh h.bounds j (key_of h v)
      listed_fits = rw v_is.2 at (inv.fits v v_is.0)

      pub listed_segment : k ≡ sh.segment j (bound h.bounds j) (key_of h v)
      listed_segment = cc (v_is.2, v_is.3)
