-- A node of the segment that is used is moved; and all of them, one after the other.
use Prim.Native.Nat.{ℕ, ◌+◌, ◌*◌, ◌≤◌, ◌<◌}
use native.Mathlib.Omega.{arith}
use mathlib.Core.Path.{◌≡◌, refl, sym, ◌∙◌, ap}
use mathlib.Core.Bool.{Bool, true, false, cond}
use mathlib.Core.Logic.{◌≢◌, ◌⊎◌, inl, inr, ⊎_elim}
use mathlib.Core.List.{List}
use lib.Dec.{ltb}
use lib.ListN.{length, get_or}
use borrow.Author.Tests.{lt-ltb}
use Rattle.theory.specs.Heap.{bound}
use Rattle.theory.proofs.Cases.{same?}
use Rattle.theory.proofs.Sums.{sum_at, sum_change, sum_zero}
use Rattle.bounds.specs.Words.{bounds_of}
use Rattle.bounds.proofs.Bucket.{bucket_from_same, reads_same}
use Rattle.buckets.specs.Words.{places, place_word}
use Rattle.buckets.specs.Answer.{InSlot}
use Rattle.frontier.specs.Frontier.{Frontier, Placed}
use Rattle.frontier.specs.Frontier.Laws.{placed_again, placed_here, placed_other}
use Rattle.state.specs.declared.Layout.{Layout}
use Rattle.state.specs.declared.State.{State}
use Rattle.state.specs.Places.{is_word, with_word}
use Rattle.state.specs.Slots.{key_word, Enters}
use Rattle.state.proofs.Slots.{same_word, same_enters}
use Rattle.state.proofs.Find.{words_few, is_word_same, is_word_other}
use Rattle.state.specs.Tallies.{after_shifts}
use Rattle.state.proofs.Tallies.{same_tally, same_insertions, same_decreases, same_shifts, same_looks, same_reads}
use Rattle.placing.specs.Placing.{Formed}
use Rattle.shifting.specs.Moving.{shifts_of, moved_bucket, node_reads, moved_word_lem, Settles, Settled, in_slot, reads_in, Distributes, Distributed}

-- The key of node v can be placed (document 01, "One-level heap").
pub record Moves (layout : Layout) (sizes words distances : List ℕ) (s : State) (bucket v : ℕ) : Type 0 where
  pub formed : Formed layout sizes
  pub frontier : Frontier layout.nodes layout.slots layout.segments words
  pub node : v < layout.nodes
  pub within : bucket ≤ layout.buckets
  pub long : layout.nodes ≤ length distances
  pub enters : Enters layout.buckets layout.segments sizes (bounds_of layout.nodes words) s.front (get_or distances v 0) (moved_bucket layout words distances bucket v)
  pub equal : bucket ≤ 1 → get_or distances v 0 ≡ s.front
  pub current_few : s.current ≤ 4096
  pub shifts_few : s.tally.shifts < 4294967295
  pub reads_few : 1 < bucket → s.tally.reads + node_reads (bounds_of layout.nodes words) distances bucket v < 4294967296

-- Node v has moved (document 01, "One-level heap").
pub record Moved (layout : Layout) (sizes words words' distances : List ℕ) (s s' : State) (bucket v : ℕ) : Type 0 where
  pub placed : Placed layout.nodes layout.slots layout.segments words words' v (moved_word_lem layout sizes words distances s.front bucket v)
  pub front : s'.front ≡ s.front
  pub current : s'.current ≡ s.current + is_word 1 (moved_word_lem layout sizes words distances s.front bucket v)
  pub reached : s'.reached ≡ s.reached
  pub tally : s'.tally ≡ after_shifts (shifts_of bucket 1) (shifts_of bucket (node_reads (bounds_of layout.nodes words) distances bucket v)) s.tally

-- The bounds are as they were after a change of a place word.
pub bounds_same : {n slots K B : ℕ} {w w' : List ℕ} {v x : ℕ} → B ≤ 22 → Placed n slots K w w' v x → (i : ℕ) → 1 ≤ i → i ≤ B → bound (bounds_of n w) i ≡ bound (bounds_of n w') i
bounds_same few P i low high = sym (P.bounds i (omega arith))

-- A node's search depends on the bounds of the buckets alone.
module _ (layout : Layout) (words words' distances : List ℕ) (bucket v : ℕ) (within : bucket ≤ layout.buckets)
    (same : (i : ℕ) → 1 ≤ i → i ≤ layout.buckets → bound (bounds_of layout.nodes words) i ≡ bound (bounds_of layout.nodes words') i) where
  same_found : moved_bucket layout words distances bucket v ≡ moved_bucket layout words' distances bucket v
  same_found = bucket_from_same (bounds_of layout.nodes words) (bounds_of layout.nodes words') (get_or distances v 0) bucket (λ i low high. same i low (omega (arith, within)))

  same_read : node_reads (bounds_of layout.nodes words) distances bucket v ≡ node_reads (bounds_of layout.nodes words') distances bucket v
  same_read = reads_same (bounds_of layout.nodes words) (bounds_of layout.nodes words') (get_or distances v 0) bucket (λ i low high. same i low (omega (arith, within)))

  module _ {sizes : List ℕ} {front : ℕ} (E : Enters layout.buckets layout.segments sizes (bounds_of layout.nodes words) front (get_or distances v 0) (moved_bucket layout words distances bucket v)) where
    again_enters : Enters layout.buckets layout.segments sizes (bounds_of layout.nodes words') front (get_or distances v 0) (moved_bucket layout words' distances bucket v)
    again_enters = rw same_found at (same_enters E (bounds_of layout.nodes words') same)

    again_word : moved_word_lem layout sizes words distances front bucket v ≡ moved_word_lem layout sizes words' distances front bucket v
    again_word = same_word E (bounds_of layout.nodes words') same
        ∙ ap (key_word layout.buckets layout.segments sizes (bounds_of layout.nodes words') front (get_or distances v 0)) same_found

module _ {layout : Layout} {sizes words distances : List ℕ} {s : State} {bucket v : ℕ} (M : Moves layout sizes words distances s bucket v) {w₁ : List ℕ}
    (P : Placed layout.nodes layout.slots layout.segments words w₁ v 0) where
  same_bounds : (i : ℕ) → 1 ≤ i → i ≤ layout.buckets → bound (bounds_of layout.nodes words) i ≡ bound (bounds_of layout.nodes w₁) i
  same_bounds = bounds_same M.formed.sized.few P

  read_is : node_reads (bounds_of layout.nodes words) distances bucket v ≡ node_reads (bounds_of layout.nodes w₁) distances bucket v
  read_is = same_read layout words w₁ distances bucket v M.within same_bounds

  pub settles : Settles layout sizes w₁ distances s bucket v
  settles = record {
    entering = record {
      formed = M.formed;
      frontier = P.frontier;
      node = M.node;
      unlabelled = placed_here M.frontier P M.node;
      enters = again_enters layout words w₁ distances bucket v M.within same_bounds M.enters;
    };
    within = M.within;
    equal = M.equal;
    long = M.long;
    current_few = M.current_few;
    shifts_few = M.shifts_few;
    reads_few = λ far. omega (arith, M.reads_few far, read_is);
  }

  pub moved : {w₂ : List ℕ} {s' : State} → Settled layout sizes w₁ w₂ distances s s' bucket v → Moved layout sizes words w₂ distances s s' bucket v
  moved S =
      let e = again_word layout words w₁ distances bucket v M.within same_bounds M.enters in
      record {
        placed = rw e (placed_again P S.entered.placed);
        front = S.front;
        current = S.current ∙ ap (λ (k : ℕ). s.current + k) (S.entered.counted ∙ ap (is_word 1) (sym e));
        reached = S.reached;
        tally = S.tally ∙ ap (λ (r : ℕ). after_shifts (shifts_of bucket 1) (shifts_of bucket r) s.tally) (sym read_is);
      }

-- Some of the slot's nodes have moved.
pub record Distributing (layout : Layout) (sizes words₀ distances : List ℕ) (s₀ : State) (bucket slot : ℕ) (words : List ℕ) (s : State) : Type 0 where
  pub frontier : Frontier layout.nodes layout.slots layout.segments words
  pub each : (w : ℕ) → w < layout.nodes → (get_or (places layout.nodes words) w 0 ≡ get_or (places layout.nodes words₀) w 0)
      ⊎ ((get_or (places layout.nodes words₀) w 0 ≡ place_word layout.segments slot) × (get_or (places layout.nodes words) w 0 ≡ moved_word_lem layout sizes words₀ distances s₀.front bucket w))
  pub bounds : (i : ℕ) → i < 24 → bound (bounds_of layout.nodes words) i ≡ bound (bounds_of layout.nodes words₀) i
  pub same_length : length words ≡ length words₀
  pub front : s.front ≡ s₀.front
  pub current : s.current ≡ with_word layout.nodes words 1
  pub reached : s.reached ≡ s₀.reached
  pub tally : after_shifts (shifts_of bucket (in_slot layout words slot)) (shifts_of bucket (reads_in layout words (bounds_of layout.nodes words₀) distances bucket slot)) s.tally
      ≡ after_shifts (shifts_of bucket (in_slot layout words₀ slot)) (shifts_of bucket (reads_in layout words₀ (bounds_of layout.nodes words₀) distances bucket slot)) s₀.tally

shifts_next : (bucket a b c : ℕ) → shifts_of bucket (a + b) + c ≡ shifts_of bucket a + (c + shifts_of bucket b)
shifts_next bucket a b c = go (ltb 1 bucket)
  where
    go : (t : Bool) → cond t (a + b) 0 + c ≡ cond t a 0 + (c + cond t b 0)
    go true = omega arith
    go false = omega arith

pub shifts_of_low : (bucket a : ℕ) → shifts_of bucket a ≤ a
shifts_of_low bucket a = go (ltb 1 bucket)
  where
    go : (t : Bool) → cond t a 0 ≤ a
    go true = omega arith
    go false = omega arith

module _ {layout : Layout} {sizes words₀ distances : List ℕ} {s₀ : State} {bucket slot : ℕ} (Q : Distributes layout sizes words₀ distances s₀ bucket slot) where
  abbrev n : ℕ
  n = layout.nodes

  abbrev from : ℕ
  from = place_word layout.segments slot

  -- The bounds that are read for node w.
  abbrev read : ℕ → ℕ
  read = node_reads (bounds_of n words₀) distances bucket

  pub distributing_start : Distributing layout sizes words₀ distances s₀ bucket slot words₀ s₀
  distributing_start = record {
    frontier = Q.frontier;
    each = λ w l. inl refl;
    bounds = λ i l. refl;
    same_length = refl;
    front = refl;
    current = Q.current;
    reached = refl;
    tally = refl;
  }

  module _ {words : List ℕ} {s : State} (P : Distributing layout sizes words₀ distances s₀ bucket slot words s) where
    abbrev place : ℕ → ℕ
    place w = get_or (places n words) w 0

    -- A node that still has the slot's word had it at first.
    first_word : (w : ℕ) → w < n → place w ≡ from → get_or (places n words₀) w 0 ≡ from
    first_word w l e = ⊎_elim (λ q. sym q ∙ e) (λ q. q.0) (P.each w l)

    bounds_from_lem : (i : ℕ) → 1 ≤ i → i ≤ layout.buckets → bound (bounds_of n words₀) i ≡ bound (bounds_of n words) i
    bounds_from_lem i low high = sym (P.bounds i (omega (arith, Q.formed.sized.few)))

    same_moved : (w : ℕ) → w < n → place w ≡ from → moved_word_lem layout sizes words₀ distances s₀.front bucket w ≡ moved_word_lem layout sizes words distances s.front bucket w
    same_moved w l e = again_word layout words₀ words distances bucket w Q.high bounds_from_lem (Q.enters w l (first_word w l e))
        ∙ ap (λ (f : ℕ). moved_word_lem layout sizes words distances f bucket w) (sym P.front)

    read_same : (w : ℕ) → read w ≡ node_reads (bounds_of n words) distances bucket w
    read_same w = same_read layout words₀ words distances bucket w Q.high bounds_from_lem

    one_read : (v : ℕ) → place v ≡ from → is_word from (place v) * read v ≡ read v
    one_read v e = ap (λ (c : ℕ). c * read v) (ap (is_word from) e ∙ is_word_same from) ∙ omega arith

    -- What is read for a node of the slot is a part of what is read for all.
    read_there : (v : ℕ) → v < n → place v ≡ from → read v ≤ reads_in layout words (bounds_of n words₀) distances bucket slot
    read_there v l e = omega (arith, one_read v e, sum_at n v (λ w. is_word from (place w) * read w) l)

    pub distributing_moves : (v : ℕ) → v < n → place v ≡ from → Moves layout sizes words distances s bucket v
    distributing_moves v l e = record {
      formed = Q.formed;
      frontier = P.frontier;
      node = l;
      within = Q.high;
      long = Q.long;
      enters = rw P.front (again_enters layout words₀ words distances bucket v Q.high bounds_from_lem (Q.enters v l (first_word v l e)));
      equal = λ low. Q.equal low v l (first_word v l e) ∙ sym P.front;
      current_few = omega (arith, P.current, words_few n 1 place, Q.frontier.few);
      shifts_few = omega (arith, same_shifts P.tally, Q.shifts_few, shifts_of_low bucket (in_slot layout words₀ slot), words_few n from (λ w. get_or (places n words₀) w 0));
      reads_few = λ far.
          let whole : shifts_of bucket (reads_in layout words (bounds_of n words₀) distances bucket slot) ≡ reads_in layout words (bounds_of n words₀) distances bucket slot = rw (lt-ltb 1 bucket far) in
          omega (arith, same_reads P.tally, Q.reads_few, read_there v l e, read_same v);
    }

    module _ {v : ℕ} (l : v < n) (e : place v ≡ from) {words' : List ℕ} {s' : State} (M : Moved layout sizes words words' distances s s' bucket v) where
      word : ℕ
      word = moved_word_lem layout sizes words distances s.front bucket v

      here : get_or (places n words') v 0 ≡ moved_word_lem layout sizes words₀ distances s₀.front bucket v
      here = placed_here P.frontier M.placed l ∙ sym (same_moved v l e)

      there : (w : ℕ) → w ≢ v → get_or (places n words') w 0 ≡ place w
      there w q = placed_other P.frontier M.placed w q

      new_apart : get_or (places n words') v 0 ≢ from
      new_apart q = Q.apart v l (first_word v l e) (sym here ∙ q)

      count : (c : ℕ) → with_word n words' c + is_word c from ≡ with_word n words c + is_word c (get_or (places n words') v 0)
      count c = ap (λ (x : ℕ). with_word n words' c + is_word c x) (sym e)
          ∙ sum_change n v (λ w. is_word c (place w)) (λ w. is_word c (get_or (places n words') w 0)) l (λ w q. ap (is_word c) (there w q))

      one_fewer : in_slot layout words slot ≡ in_slot layout words' slot + 1
      one_fewer = omega (arith, count from, is_word_same from, is_word_other from (get_or (places n words') v 0) new_apart)

      less_read : reads_in layout words (bounds_of n words₀) distances bucket slot ≡ reads_in layout words' (bounds_of n words₀) distances bucket slot + read v
      less_read =
          let gone : is_word from (get_or (places n words') v 0) * read v ≡ 0 =
          ap (λ (c : ℕ). c * read v) (is_word_other from (get_or (places n words') v 0) new_apart) ∙ omega arith in
          omega (
            arith,
            gone,
            one_read v e,
            sum_change n v (λ w. is_word from (place w) * read w) (λ w. is_word from (get_or (places n words') w 0) * read w) l (λ w q. ap (λ (x : ℕ). is_word from x * read w) (there w q)),
          )

      pub distributing_next : Distributing layout sizes words₀ distances s₀ bucket slot words' s' × (in_slot layout words' slot < in_slot layout words slot)
      distributing_next = (
        record {
          frontier = M.placed.frontier;
          each = λ w low. ⊎_elim
              (λ q. rw q (inr (first_word v l e, here)))
              (λ q. ⊎_elim (λ z. inl (there w q ∙ z)) (λ z. inr (z.0, there w q ∙ z.1)) (P.each w low))
              (same? w v);
          bounds = λ i low. M.placed.bounds i low ∙ P.bounds i low;
          same_length = M.placed.same_length ∙ P.same_length;
          front = M.front ∙ P.front;
          current = omega (arith, M.current, P.current, count 1, is_word_other 1 from (omega arith), ap (is_word 1) (placed_here P.frontier M.placed l));
          reached = M.reached ∙ P.reached;
          tally = same_tally (same_insertions M.tally ∙ same_insertions P.tally) (same_decreases M.tally ∙ same_decreases P.tally)
              (omega (arith, same_shifts P.tally, same_shifts M.tally, shifts_next bucket (in_slot layout words' slot) 1 s.tally.shifts, ap (shifts_of bucket) one_fewer))
              (same_looks M.tally ∙ same_looks P.tally)
              (omega (
                arith,
                same_reads P.tally,
                same_reads M.tally,
                ap (shifts_of bucket) (read_same v),
                shifts_next bucket (reads_in layout words' (bounds_of n words₀) distances bucket slot) (read v) s.tally.reads,
                ap (shifts_of bucket) less_read,
              ));
        },
        omega (arith, one_fewer),
      )

    -- A node that has left the slot can be placed; once it is, one node fewer is to be moved.
    module _ {v : ℕ} {w₁ : List ℕ} (H : InSlot n layout.segments slot words v × Placed n layout.slots layout.segments words w₁ v 0) where
      pub distribute_settles : Settles layout sizes w₁ distances s bucket v
      distribute_settles = settles (distributing_moves v H.0.0 H.0.1) H.1

      pub distribute_next : {w₂ : List ℕ} {s' : State} → Settled layout sizes w₁ w₂ distances s s' bucket v
          → Distributing layout sizes words₀ distances s₀ bucket slot w₂ s' × (in_slot layout w₂ slot < in_slot layout words slot)
      distribute_next S = distributing_next H.0.0 H.0.1 (moved (distributing_moves v H.0.0 H.0.1) H.1 S)

    pub distributing_end : ((w : ℕ) → (w < n) × (place w ≡ from) → ⊥) → Distributed layout sizes words₀ words distances s₀ s bucket slot
    distributing_end none = record {
      frontier = P.frontier;
      moved = λ w l e. ⊎_elim (λ q. absurd (none w (l, q ∙ e))) (λ q. q.1) (P.each w l);
      kept = λ w l e. ⊎_elim (λ q. q) (λ q. absurd (e q.0)) (P.each w l);
      bounds = P.bounds;
      same_length = P.same_length;
      front = P.front;
      current = P.current;
      reached = P.reached;
      tally = same_tally (same_insertions P.tally) (same_decreases P.tally)
          (omega (arith, same_shifts P.tally, ap (shifts_of bucket) zero_left, shifts_of_low bucket 0)) (same_looks P.tally)
          (omega (arith, same_reads P.tally, ap (shifts_of bucket) none_read, shifts_of_low bucket 0));
    }
      where
        zero_left : in_slot layout words slot ≡ 0
        zero_left = sum_zero n (λ w. is_word from (place w)) (λ w l. is_word_other from (place w) (λ e. none w (l, e)))

        none_read : reads_in layout words (bounds_of n words₀) distances bucket slot ≡ 0
        none_read = sum_zero n (λ w. is_word from (place w) * read w)
            (λ w l. ap (λ (c : ℕ). c * read w) (is_word_other from (place w) (λ e. none w (l, e))) ∙ omega arith)
