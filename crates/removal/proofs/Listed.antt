-- A removal of the least node of the lowest slot, where no node is at the current key.
use Prim.Native.Nat.{ℕ, ◌+◌, ◌-◌, ◌*◌, ◌≤◌, ◌<◌}
use native.Mathlib.Omega.{arith}
use native.Mathlib.Nat.{mul-le-mul}
use mathlib.Core.Path.{◌≡◌, refl, sym, ◌∙◌, ap, subst}
use mathlib.Core.Logic.{◌≢◌, ◌⊎◌, ⊎_elim}
use mathlib.Core.List.{List}
use lib.ListN.{length, get_or, set}
use Rattle.theory.specs.Heap.{Heap, bound, key_of, bucket_from, reads_from, bounds_after, heap_remove}
use Rattle.theory.proofs.Sums.{sum_at, sum_same, sum_most, sum_zero}
use Rattle.theory.specs.Invariants.{Least, Fits, seg}
use Rattle.theory.proofs.Cases.{same?}
use Rattle.bounds.specs.Words.{bounds_of, segment_end, rebound_words}
use Rattle.bounds.proofs.Words.{rebound_words_length, rebound_words_before, rebound_words_after}
use Rattle.bounds.proofs.Bucket.{reads_most}
use Rattle.bounds.proofs.Agreement.{after_words_agree}
use Rattle.buckets.specs.Words.{places, place_word, heads}
use Rattle.buckets.specs.Answer as Answer
use Rattle.frontier.specs.Frontier.{Frontier, Placed}
use Rattle.frontier.specs.Frontier.Laws.{bounds_kept, placed_here, placed_other}
use Rattle.state.specs.declared.Layout.{Layout}
use Rattle.state.specs.declared.State.{State}
use Rattle.state.specs.Places.{is_word}
use Rattle.state.specs.Slots.{slot_of, slot_word, key_word}
use Rattle.state.specs.Stands.{Setting, Lists, Stands}
use Rattle.state.proofs.Slots.{word_far, slot_bucket_lem, slot_below, key_end}
use Rattle.state.specs.Tallies.{looks, after_event}
use Rattle.state.proofs.Tallies.{same_tally, same_insertions, same_decreases, same_shifts, same_looks, same_reads}
use Rattle.state.proofs.Find.{is_word_low, is_word_same, is_word_other, node, listed_word, later, key_word_lem}
use Rattle.state.proofs.Remove.{Removing, listed_min, listed_fit, listed_seg, listed_equal, moved_enters, moved_apart, listed_shifts, listed_reads, listed_stands}
use Rattle.placing.specs.Placing.{Formed, lists}
use Rattle.finding.specs.Finding.{Holds, LowestBucket, InBucketSome, LowestSegment, looks_of}
use Rattle.shifting.specs.Renewing.{Renews, renewed}
use Rattle.shifting.specs.Moving.{shifts_of, node_reads, in_slot, reads_in, Distributes, Distributed}
use Rattle.shifting.proofs.Moving.{shifts_of_low}
use Rattle.removal.specs.Removing.{Rests, Removal}
use Rattle.removal.proofs.Counts.{nodes_few, shifts_few, reads_few}

-- The numbers once the node of key x is removed with its looks, and nothing is moved yet.
pub record Taken (x looked : ℕ) (s s₁ : State) : Type 0 where
  pub front : s₁.front ≡ x
  pub current : s₁.current ≡ 0
  pub reached : s₁.reached ≡ s.reached + 1
  pub tally : s₁.tally ≡ after_event (looks looked) s.tally

module _ {layout : Layout} {sizes : List ℕ} {X : Setting layout sizes} {before : List ℕ} {h : Heap} {l : Lists} {s : State} (R : Rests X before h l s) (empty : s.current ≡ 0) where
  abbrev n : ℕ
  n = layout.nodes

  abbrev B : ℕ
  B = layout.buckets

  abbrev K : ℕ
  K = layout.segments

  abbrev place : ℕ → ℕ
  place w = get_or (places n l.words) w 0

  none_current : (v : ℕ) → v < n → place v ≢ 1
  none_current v low e = omega (arith, sum_at n v (λ w. is_word 1 (place w)) low, R.stands.current, empty, ap (is_word 1) e, is_word_same 1)

  pub formed : Formed layout sizes
  formed = record { sized = X.agrees.sized; slots = X.slots }

  pub listed_holds : Holds layout l.words
  listed_holds =
      let on = R.labelled in
      record {
        frontier = R.stands.frontier;
        slots = X.slots;
        two = X.agrees.sized.two;
        few = X.agrees.sized.few;
        node = R.node;
        below = node X R.stands R.resting.rest R.resting.inv R.node on;
        held = rw (listed_word X R.stands R.resting.rest R.resting.inv R.node on (later X R.stands R.resting.rest R.resting.inv none_current R.node on)) (word_far K _ _);
      }

  pub distances_long : n ≤ length l.distances
  distances_long = omega (arith, ap length R.stands.distances, R.resting.rest.distances_length, X.nodes)

  pub slot_in : {j k : ℕ} → LowestSegment layout l.words j k → slot_of K j k < layout.slots
  slot_in g = rw X.slots (slot_below g.slot)

  pub bucket_some : {j : ℕ} → LowestBucket layout l.words j → InBucketSome layout l.words j
  bucket_some b = record { frontier = R.stands.frontier; slots = X.slots; low = b.low; high = b.high; few = X.agrees.sized.few; some = b.some }

  -- The slot that is used, and its least node.
  module _ {j k v : ℕ} (b : LowestBucket layout l.words j) (g : LowestSegment layout l.words j k) (found : Answer.LeastIn n K (slot_of K j k) l.words l.distances v) where
    abbrev key : ℕ
    key = key_of h v

    abbrev slot : ℕ
    slot = slot_of K j k

    low : v < n
    low = found.in_slot.0

    min : Least h.search v key
    min = listed_min X R.stands R.resting.rest R.resting.inv R.long none_current g.slot b.lower g.earlier found

    fit : Fits X.shape h.bounds j key
    fit = listed_fit X R.stands R.resting.rest R.resting.inv R.long none_current g.slot b.lower g.earlier found

    segment_is : k ≡ seg X.shape h.bounds j key
    segment_is = listed_seg X R.stands R.resting.rest R.resting.inv R.long none_current g.slot b.lower g.earlier found

    key_of_lem : (w : ℕ) → w < n → get_or l.distances w 0 ≡ key_of h w
    key_of_lem = key_word_lem X R.stands R.resting.rest R.resting.inv none_current

    pub held : 512 ≤ place v
    held = rw found.in_slot.1 (word_far K j k)

    after_front : s.front < key
    after_front =
        let q = later X R.stands R.resting.rest R.resting.inv none_current v min.member in
        omega (arith, R.resting.rest.ahead v min.member, q)

    -- v has left its slot.
    module _ {w₁ : List ℕ} (P : Placed n layout.slots K l.words w₁ v 2) where
      bound_same : (i : ℕ) → 1 ≤ i → i ≤ B → bound (bounds_of n w₁) i ≡ bound h.bounds i
      bound_same i lo hi = P.bounds i (omega (arith, X.agrees.sized.few)) ∙ R.stands.bounds i lo hi

      end_is : segment_end B K sizes j (bound (bounds_of n w₁) j) k ≡ segment_end B K sizes j (bound h.bounds j) k
      end_is = ap (λ (u : ℕ). segment_end B K sizes j u k) (bound_same j b.low b.high)

      words_long : heads n ≤ length w₁
      words_long = omega (arith, P.frontier.linked.fits.long)

      pub renews : Renews layout sizes w₁ j k (get_or l.distances v 0)
      renews = record {
        formed = formed;
        long = words_long;
        low = b.low;
        high = b.high;
        segment = g.slot.high;
        positive = rw (key_of_lem v low) (omega (arith, after_front));
        end = rw (key_of_lem v low, end_is)
            (omega (arith, ap (segment_end B K sizes j (bound h.bounds j)) segment_is, key_end X.lawful X.agrees R.resting.inv.bounds fit (omega (arith, after_front))));
      }

      -- The bounds are set anew.
      abbrev w₂ : List ℕ
      w₂ = renewed layout sizes w₁ j k (get_or l.distances v 0)

      words_kept : (i : ℕ) → (i < 4 * n) ⊎ (4 * n + 24 ≤ i) → get_or w₂ i 0 ≡ get_or w₁ i 0
      words_kept i = ⊎_elim
          (λ q. rebound_words_before n sizes _ _ 1 j w₁ (omega (arith, words_long)) i (omega arith))
          (λ q. rebound_words_after n sizes _ _ 1 j w₁ (omega (arith, words_long)) i b.low (omega (arith, b.high, X.agrees.sized.few)))

      renewed_frontier : Frontier n layout.slots K w₂ × (places n w₂ ≡ places n w₁)
      renewed_frontier = bounds_kept P.frontier (rebound_words_length n sizes _ _ 1 j w₁ (omega (arith, words_long))) words_kept

      here : get_or (places n w₂) v 0 ≡ 2
      here = ap (λ (p : List ℕ). get_or p v 0) renewed_frontier.1 ∙ placed_here R.stands.frontier P low

      other : (w : ℕ) → w ≢ v → get_or (places n w₂) w 0 ≡ place w
      other w q = ap (λ (p : List ℕ). get_or p w 0) renewed_frontier.1 ∙ placed_other R.stands.frontier P w q

      -- A node that still has the slot's word is another one than v.
      left : (w : ℕ) → get_or (places n w₂) w 0 ≡ place_word K slot → (w ≢ v) × (place w ≡ slot_word K j k)
      left w e =
          let q : w ≢ v = λ z. omega (arith, word_far K j k, sym e ∙ ap (λ (i : ℕ). get_or (places n w₂) i 0) z ∙ here) in
          (q, sym (other w q) ∙ e)

      abbrev u : List ℕ
      u = bounds_of n w₂

      abbrev after : List ℕ
      after = bounds_after X.shape j (seg X.shape h.bounds j key) key h.bounds

      bounds_are : (i : ℕ) → 1 ≤ i → i ≤ B → bound u i ≡ bound after i
      bounds_are i lo hi =
          let a = after_words_agree X.agrees n w₁ (omega (arith, words_long, X.agrees.sized.few)) j k key h.bounds b.high (omega (arith, R.resting.inv.bounds.long, X.agrees.buckets))
          bound_same i lo hi in
          ap (λ (x : ℕ). bound (bounds_of n (renewed layout sizes w₁ j k x)) i) (key_of_lem v low)
          ∙ ap (λ (e : ℕ). bound (bounds_of n (rebound_words n sizes e (key - 1) 1 j w₁)) i) end_is
          ∙ a ∙ ap (λ (m : ℕ). bound (bounds_after X.shape j m key h.bounds) i) segment_is

      none_left : (w : ℕ) → w < n → is_word 1 (get_or (places n w₂) w 0) ≡ 0
      none_left w lo = is_word_other 1 (get_or (places n w₂) w 0) (⊎_elim
          (λ e. λ z. omega (arith, sym z ∙ ap (λ (i : ℕ). get_or (places n w₂) i 0) e ∙ here))
          (λ q. rw (other w q) (none_current w lo))
          (same? w v))

      -- For no node are more bounds read than there are.
      read_most : reads_in layout w₂ u l.distances j slot ≤ n * 22
      read_most = sum_most n 22 (λ w. is_word (place_word K slot) (get_or (places n w₂) w 0) * node_reads u l.distances j w) (λ w lo.
          let few : node_reads u l.distances j w ≤ 22 = omega (arith, reads_most u (get_or l.distances w 0) j, b.high, X.agrees.sized.few) in
          omega (arith, mul-le-mul (is_word_low (place_word K slot) (get_or (places n w₂) w 0)) few))

      -- The others of the slot can be moved.
      module _ {s₁ : State} (taken : Taken (get_or l.distances v 0) (looks_of K j k) s s₁) where
        front_is : s₁.front ≡ key
        front_is = taken.front ∙ key_of_lem v low

        distributes : Distributes layout sizes w₂ l.distances s₁ j slot
        distributes = record {
          formed = formed;
          frontier = renewed_frontier.0;
          below = slot_in g;
          within = sym (slot_bucket_lem g.slot);
          high = b.high;
          long = distances_long;
          enters = λ w lo e. let q = left w e in
              rw (front_is, key_of_lem w lo)
              (moved_enters X R.stands R.resting.rest R.resting.inv R.long none_current g.slot b.lower g.earlier found u bounds_are w lo q.0 q.1);
          equal = λ near w lo e. let q = left w e in
              key_of_lem w lo ∙ listed_equal X R.stands R.resting.rest R.resting.inv R.long none_current g.slot b.lower g.earlier found near w lo q.0 q.1 ∙ sym front_is;
          apart = λ w lo e. let q = left w e in
              rw (front_is, key_of_lem w lo)
              (moved_apart X R.stands R.resting.rest R.resting.inv R.long none_current g.slot b.lower g.earlier found u bounds_are w lo q.0 q.1);
          current = taken.current ∙ sym (sum_zero n (λ w. is_word 1 (get_or (places n w₂) w 0)) none_left);
          shifts_few = omega (arith, same_shifts taken.tally, shifts_few R, nodes_few R);
          reads_few = omega (arith, same_reads taken.tally, reads_few R, read_most, shifts_of_low j (reads_in layout w₂ u l.distances j slot));
        }

        -- They have moved.
        module _ {w₃ : List ℕ} {s' : State} (D : Distributed layout sizes w₂ w₃ l.distances s₁ s' j slot) where
          abbrev h' : Heap
          h' = heap_remove X.shape j (seg X.shape h.bounds j key) key v h

          moved_is : (w : ℕ) → w < n → w ≢ v → place w ≡ slot_word K j k → get_or (places n w₃) w 0 ≡ key_word B K sizes u key (key_of h w) (bucket_from u (key_of h w) j)
          moved_is w lo q e = rw (← front_is, ← (key_of_lem w lo)) (D.moved w lo (other w q ∙ e))

          kept_is : (w : ℕ) → w < n → w ≢ v → place w ≢ slot_word K j k → get_or (places n w₃) w 0 ≡ place w
          kept_is w lo q e = D.kept w lo (λ z. e (sym (other w q) ∙ z)) ∙ other w q

          here_is : get_or (places n w₃) v 0 ≡ 2
          here_is = D.kept v low (λ z. omega (arith, word_far K j k, here, z)) ∙ here

          bounds_left_lem : (i : ℕ) → 1 ≤ i → i ≤ B → bound (bounds_of n w₃) i ≡ bound after i
          bounds_left_lem i lo hi = D.bounds i (omega (arith, X.agrees.sized.few)) ∙ bounds_are i lo hi

          shifted : h'.shifts ≡ h.shifts + shifts_of j (in_slot layout w₂ slot)
          shifted = listed_shifts X R.stands R.resting.rest R.resting.inv R.long none_current g.slot b.lower g.earlier found
              (λ w. get_or (places n w₂) w 0) here (λ w lo q. other w q)

          -- The keys that were read are the distances.
          read : h'.reads ≡ h.reads + shifts_of j (reads_in layout w₂ u l.distances j slot)
          read =
              listed_reads X R.stands R.resting.rest R.resting.inv R.long none_current g.slot b.lower g.earlier found
              (λ w. get_or (places n w₂) w 0) here (λ w lo q. other w q) u bounds_are
              ∙ ap (λ (c : ℕ). h.reads + shifts_of j c)
              (sum_same n (λ w. is_word (slot_word K j k) (get_or (places n w₂) w 0) * reads_from u (key_of h w) j) (λ w. is_word (place_word K slot) (get_or (places n w₂) w 0) * node_reads u l.distances j w)
              (λ w lo. ap (λ (x : ℕ). is_word (slot_word K j k) (get_or (places n w₂) w 0) * reads_from u x j) (sym (key_of_lem w lo))))

          removing : Removing key (shifts_of j (in_slot layout w₂ slot)) (looks_of K j k) (shifts_of j (reads_in layout w₂ u l.distances j slot)) s s'
          removing = record {
            front = D.front ∙ front_is;
            reached = D.reached ∙ taken.reached;
            tally = same_tally (same_insertions D.tally ∙ same_insertions taken.tally) (same_decreases D.tally ∙ same_decreases taken.tally)
                (omega (arith, same_shifts D.tally, same_shifts taken.tally)) (same_looks D.tally ∙ same_looks taken.tally)
                (omega (arith, same_reads D.tally, same_reads taken.tally));
          }

          listed_removal : Removal X before h (lists w₃ l.distances l.parents (set l.roster s.reached v)) s' v
          listed_removal = record {
            bucket = j;
            fit = rw (D.front, front_is) fit;
            least = rw (D.front, front_is) min;
            stands = subst (λ (d : ℕ). Stands layout X.shape before (heap_remove X.shape j (seg X.shape h.bounds j d) d v h) (lists w₃ l.distances l.parents (set l.roster s.reached v)) s')
                (sym (D.front ∙ front_is))
                (listed_stands X R.stands R.resting.rest R.resting.inv R.long none_current g.slot b.lower g.earlier found
                u D.frontier here_is bounds_are bounds_left_lem moved_is kept_is _ (looks_of K j k) _ shifted refl read removing D.current);
          }

      -- The same of words that are known to be those.
      module _ {w : List ℕ} (e : w ≡ w₂) {s₁ : State} (taken : Taken (get_or l.distances v 0) (looks_of K j k) s s₁) where
        pub words_distribute : Distributes layout sizes w l.distances s₁ j slot
        words_distribute = rw e (distributes taken)

        pub words_removed : {w₃ : List ℕ} {s' : State} → Distributed layout sizes w w₃ l.distances s₁ s' j slot
            → Removal X before h (lists w₃ l.distances l.parents (set l.roster s.reached v)) s' v
        words_removed D = listed_removal taken (rw e at D)
