-- What a removal makes of the place words: the node removed is scanned, the other nodes of its segment go where their keys belong,
-- and no other place word changes.
use Prim.Native.Nat.{ℕ, ◌+◌, ◌*◌, ◌≤◌, ◌<◌}
use native.Mathlib.Omega.{arith}
use mathlib.Core.Path.{◌≡◌, refl, sym, ◌∙◌, ap}
use mathlib.Core.Bool.{Bool, true, false, cond}
use mathlib.Core.Logic.{◌≢◌, inl, inr, ⊎_elim}
use mathlib.Core.List.{List}
use lib.Dec.{eqb}
use lib.ListN.{length}
use borrow.Author.Tests.{eq-eqb, ne_eqb}
use Rattle.theory.specs.Sums.{sum_below}
use Rattle.theory.specs.Network.{Network}
use Rattle.theory.specs.Search.{Mark, unlabelled, labelled, scanned, mark, remove}
use Rattle.theory.specs.Shape.{Shape}
use Rattle.theory.specs.Heap.{Heap, bound, bucket_of, key_of, bucket_from, reads_from, segment_of, shifts?, move_marked, move_labelled, move, moved_reads, heap_remove}
use Rattle.theory.proofs.Cases.{split, same?, labelled≢scanned, labelled≢unlabelled, mark_cases}
use Rattle.theory.proofs.Sums.{sum_same, sum_zero}
use Rattle.theory.specs.Lawful.{Lawful}
use Rattle.theory.specs.Invariants.{Labelled, Least, AtRest, Fits, seg, after, HeapInv}
use Rattle.theory.proofs.Search.Invariant.{labelled_node}
use Rattle.theory.proofs.Search.Scanning.{remove_here, remove_other}
use Rattle.theory.proofs.Heap.Bounds.{after_same}
use Rattle.theory.proofs.Heap.Buckets.{fits_order}
use Rattle.theory.proofs.Heap.Invariant.{first_keys}
use Rattle.theory.proofs.Heap.Remove.{Shifts, shifts_true, shifts_false, move_labelled_lem, removed_bucket}
use Rattle.state.specs.Places.{place_of, is_word}
use Rattle.state.proofs.Places.Label.{place_is}

shifts?_true : {j k w v b l : ℕ} → Shifts j k w v b l → shifts? j k w v b l ≡ true
shifts?_true {j} {k} {w} {v} {b} {l} s = go (shifts? j k w v b l) refl
  where
    go : (t : Bool) → shifts? j k w v b l ≡ t → t ≡ true
    go true e = refl
    go false e = absurd (shifts_false e s)

shifts?_false : {j k w v b l : ℕ} → (Shifts j k w v b l → ⊥) → shifts? j k w v b l ≡ false
shifts?_false {j} {k} {w} {v} {b} {l} s = go (shifts? j k w v b l) refl
  where
    go : (t : Bool) → shifts? j k w v b l ≡ t → t ≡ false
    go true e = absurd (s (shifts_true e))
    go false e = refl

-- The removal of v, with the smallest key d, from bucket j.
module _ {N : Network} {sh : Shape} {C S : ℕ} (law : Lawful sh C S) {last : ℕ} {h : Heap} (rest : AtRest N C last h.search) (inv : HeapInv N sh last h)
    {j d v : ℕ} (fit : Fits sh h.bounds j d) (min : Least h.search v d) (slot : ℕ → ℕ → ℕ) where
  abbrev u' : List ℕ
  u' = after sh h.bounds j d

  abbrev k : ℕ
  k = seg sh h.bounds j d

  abbrev h' : Heap
  h' = heap_remove sh j k d v h

  -- The place word of a key that is put below bucket j by the new bounds.
  abbrev pub poured : ℕ → ℕ
  poured key = cond (eqb key d) 1 (slot (bucket_from u' key j) (sh.segment (bucket_from u' key j) (bound u' (bucket_from u' key j)) key))

  same_keys : (w : ℕ) → key_of h' w ≡ key_of h w
  unfolding heap_remove remove
  same_keys w = refl

  new_bounds : h'.bounds ≡ u'
  unfolding heap_remove
  new_bounds = refl

  removed_mark : h'.search ≡ remove v h.search
  unfolding heap_remove
  removed_mark = refl

  pub removed_scanned : place_of slot sh d h' v ≡ 2
  removed_scanned = let e : mark h'.search v ≡ scanned = rw removed_mark (remove_here rest min) in place_is slot sh d h' v e refl refl refl

  other_mark : (w : ℕ) → w ≢ v → mark h'.search w ≡ mark h.search w
  other_mark w n = rw removed_mark (remove_other rest min w n)

  -- Unlabelled and scanned nodes keep their words.
  pub removed_unlabelled : (w : ℕ) → w ≢ v → mark h.search w ≢ labelled → place_of slot sh d h' w ≡ place_of slot sh last h w
  removed_unlabelled w n not = mark_cases (mark h.search w)
      (λ e. place_is slot sh d h' w (other_mark w n ∙ e) refl refl refl ∙ sym (place_is slot sh last h w e refl refl refl))
      (λ e. absurd (not e))
      (λ e. place_is slot sh d h' w (other_mark w n ∙ e) refl refl refl ∙ sym (place_is slot sh last h w e refl refl refl))

  module _ (w : ℕ) (on : Labelled h.search w) (n : w ≢ v) where
    node : w < N.nodes
    node = labelled_node rest w on

    shifted_place : Shifts j k v w (bucket_of h w) (segment_of sh h w) → place_of slot sh d h' w ≡ poured (key_of h w)
    shifted_place s =
        let e : move sh u' j k v h w ≡ move_labelled true (bucket_of h w) (bucket_from u' (key_of h w) (bucket_of h w)) =
        move_labelled_lem sh u' j k v h w on ∙ ap (λ (t : Bool). move_labelled t (bucket_of h w) (bucket_from u' (key_of h w) (bucket_of h w))) (shifts?_true s) in
        let b : bucket_of h' w ≡ bucket_from u' (key_of h w) j =
        removed_bucket law rest inv fit min w node ∙ ap (λ m. m.bucket) e ∙ ap (λ (i : ℕ). bucket_from u' (key_of h w) i) s.there in
        place_is slot sh d h' w (other_mark w n ∙ on) b (same_keys w) new_bounds

    -- A node that is not shifted stands in its bucket and segment as before.
    stayed_place : (Shifts j k v w (bucket_of h w) (segment_of sh h w) → ⊥) → place_of slot sh d h' w ≡ cond (eqb (key_of h w) d) 1 (slot (bucket_of h w) (segment_of sh h w))
    stayed_place s =
        let e : move sh u' j k v h w ≡ move_labelled false (bucket_of h w) (bucket_from u' (key_of h w) (bucket_of h w)) =
        move_labelled_lem sh u' j k v h w on ∙ ap (λ (t : Bool). move_labelled t (bucket_of h w) (bucket_from u' (key_of h w) (bucket_of h w))) (shifts?_false s) in
        let b : bucket_of h' w ≡ bucket_of h w = removed_bucket law rest inv fit min w node ∙ ap (λ m. m.bucket) e in
        let up : j ≤ bucket_of h w = fits_order fit (inv.fits w on) (min.least w on) in
        let q : bound u' (bucket_of h w) ≡ bound h.bounds (bucket_of h w) = after_same sh j k d h.bounds fit.low (bucket_of h w) up in
        place_is slot sh d h' w (other_mark w n ∙ on) b (same_keys w) new_bounds
        ∙ ap (λ (x : ℕ). cond (eqb (key_of h w) d) 1 (slot (bucket_of h w) (sh.segment (bucket_of h w) x (key_of h w)))) q

    -- Keys equal to d stand in d's bucket and segment.
    key_bucket : key_of h w ≡ d → bucket_of h w ≡ j
    key_bucket e = let f = inv.fits w on in omega (arith, fits_order fit f (omega arith), fits_order f fit (omega arith))

    key_segment : key_of h w ≡ d → segment_of sh h w ≡ k
    key_segment e =
        let q = key_bucket e in
        let s : seg sh h.bounds (bucket_of h w) (key_of h w) ≡ k = rw (q, e) refl in s

    -- In bucket 1 the other nodes of the segment that is used have its key.
    pub first_equal : j ≡ 1 → bucket_of h w ≡ j → segment_of sh h w ≡ k → key_of h w ≡ d
    first_equal one b s =
        let v-one : bucket_of h v ≡ 1 = let f = inv.fits v min.member in omega (arith, fits_order fit f (omega (arith, min.key)), fits_order f fit (omega (arith, min.key))) in
        let sv : seg sh h.bounds 1 (key_of h w) ≡ k = let z : seg sh h.bounds (bucket_of h w) (key_of h w) ≡ k = s in (rw (b ∙ one) at z) in
        let kv : seg sh h.bounds 1 (key_of h v) ≡ k = rw (min.key, one) refl in
        first_keys law rest inv w v on min.member (b ∙ one) v-one (sv ∙ sym kv) ∙ min.key

    -- The other nodes of the segment that is used.
    pub removed_poured : bucket_of h w ≡ j → segment_of sh h w ≡ k → place_of slot sh d h' w ≡ poured (key_of h w)
    removed_poured b s = elim (split 1 j) [
      | inl l ↦ shifted_place (record { bucket = l; there = b; segment = s; other = n })
      | inr l ↦ stayed_place (λ x. omega (arith, x.bucket)) ∙ (rw (eq-eqb (key_of h w) d (first_equal (omega (arith, fit.low)) b s)))
    ]

    -- Every other labelled node.
    pub removed_other : ((bucket_of h w ≡ j) × (segment_of sh h w ≡ k) → ⊥) → key_of h w ≢ last → place_of slot sh d h' w ≡ place_of slot sh last h w
    removed_other out ne =
        stayed_place (λ x. out (x.there, x.segment))
        ∙ (rw (ne_eqb (key_of h w) d (λ e. out (key_bucket e, key_segment e))) (sym (place_is slot sh last h w on refl refl refl ∙ (rw (ne_eqb (key_of h w) last ne)))))

    -- Where the smallest key is the one scanned last, nothing moves.
    pub removed_current : j ≡ 1 → place_of slot sh d h' w ≡ place_of slot sh d h w
    removed_current one = stayed_place (λ x. omega (arith, x.bucket)) ∙ sym (place_is slot sh d h w on refl refl refl)

  -- A node that is shifted leaves bucket j.
  moved_from : (w : ℕ) (f : ℕ → ℕ) → (move sh u' j k v h w).shifts * f (bucket_of h w) ≡ (move sh u' j k v h w).shifts * f j
  unfolding move
  moved_from w f = go (mark h.search w) (shifts? j k v w (bucket_of h w) (segment_of sh h w)) refl
    where
      go : (m : Mark) (t : Bool) → shifts? j k v w (bucket_of h w) (segment_of sh h w) ≡ t
          → (move_marked m t (bucket_of h w) (bucket_from u' (key_of h w) (bucket_of h w))).shifts * f (bucket_of h w)
          ≡ (move_marked m t (bucket_of h w) (bucket_from u' (key_of h w) (bucket_of h w))).shifts * f j
      go unlabelled t e = omega arith
      go labelled true e = let s : Shifts j k v w (bucket_of h w) (segment_of sh h w) = shifts_true e in ap (λ (b : ℕ). 1 * f b) s.there
      go labelled false e = omega arith
      go scanned t e = omega arith

  -- The shifts are the other nodes of the segment that is used, where j is not 1: a count of place words.
  module _ (far : (b l : ℕ) → 2 < slot b l) (one_slot : (w : ℕ) → Labelled h.search w → slot (bucket_of h w) (segment_of sh h w) ≡ slot j k → (bucket_of h w ≡ j) × (segment_of sh h w ≡ k))
      (later : (w : ℕ) → Labelled h.search w → key_of h w ≢ last)
      (word : ℕ → ℕ) (here : word v ≡ 2) (other : (w : ℕ) → w < N.nodes → w ≢ v → word w ≡ place_of slot sh last h w) where
    not_counted : (x : ℕ) → x ≤ 2 → is_word (slot j k) x ≡ 0
    not_counted x l = rw (ne_eqb x (slot j k) (λ e. omega (arith, far j k)))

    unmoved : (m : Mark) (t : Bool) (b b' : ℕ) → (m ≡ labelled → t ≡ false) → (move_marked m t b b').shifts ≡ 0
    unmoved unlabelled t b b' f = refl
    unmoved labelled t b b' f = rw (f refl)
    unmoved scanned t b b' f = refl

    self_shifts : (move sh u' j k v h v).shifts ≡ 0
    unfolding move
    self_shifts = unmoved (mark h.search v) (shifts? j k v v (bucket_of h v) (segment_of sh h v)) (bucket_of h v) (bucket_from u' (key_of h v) (bucket_of h v))
        (λ e. shifts?_false {j = j} {k = k} {w = v} {v = v} {b = bucket_of h v} {l = segment_of sh h v} (λ s. s.other refl))

    plain_shifts : (w : ℕ) → mark h.search w ≢ labelled → (move sh u' j k v h w).shifts ≡ 0
    unfolding move
    plain_shifts w not = unmoved (mark h.search w) (shifts? j k v w (bucket_of h w) (segment_of sh h w)) (bucket_of h w) (bucket_from u' (key_of h w) (bucket_of h w)) (λ e. absurd (not e))

    labelled_shifts : (w : ℕ) → Labelled h.search w → w ≢ v → 1 < j → (move sh u' j k v h w).shifts ≡ is_word (slot j k) (slot (bucket_of h w) (segment_of sh h w))
    labelled_shifts w on n l = ap (λ m. m.shifts) (move_labelled_lem sh u' j k v h w on) ∙ go (shifts? j k v w (bucket_of h w) (segment_of sh h w)) refl
      where
        go : (t : Bool) → shifts? j k v w (bucket_of h w) (segment_of sh h w) ≡ t
            → (move_labelled t (bucket_of h w) (bucket_from u' (key_of h w) (bucket_of h w))).shifts ≡ is_word (slot j k) (slot (bucket_of h w) (segment_of sh h w))
        go true e =
            let s : Shifts j k v w (bucket_of h w) (segment_of sh h w) = shifts_true e in
            let q : slot (bucket_of h w) (segment_of sh h w) ≡ slot j k = cc (s.there, s.segment) in
            rw (eq-eqb (slot (bucket_of h w) (segment_of sh h w)) (slot j k) q)
        go false e =
            rw (ne_eqb (slot (bucket_of h w) (segment_of sh h w)) (slot j k) (λ q. let o = one_slot w on q in shifts_false e (record { bucket = l; there = o.0; segment = o.1; other = n })))

    shifts_at : 1 < j → (w : ℕ) → w < N.nodes → (move sh u' j k v h w).shifts ≡ is_word (slot j k) (word w)
    shifts_at l w lt = ⊎_elim
        (λ e. rw e (self_shifts ∙ sym (not_counted 2 (omega arith)) ∙ ap (is_word (slot j k)) (sym here)))
        (λ n. mark_cases (mark h.search w)
        (λ e. plain_shifts w (λ q. labelled≢unlabelled (sym q ∙ e)) ∙ sym (not_counted 0 (omega arith)) ∙ ap (is_word (slot j k)) (sym (other w lt n ∙ place_is slot sh last h w e refl refl refl)))
        (λ e. labelled_shifts w e n l ∙ ap (is_word (slot j k)) (sym (other w lt n ∙ place_is slot sh last h w e refl refl refl ∙ (rw (ne_eqb (key_of h w) last (later w e))))))
        (λ e. plain_shifts w (λ q. labelled≢scanned (sym q ∙ e)) ∙ sym (not_counted 2 (omega arith)) ∙ ap (is_word (slot j k)) (sym (other w lt n ∙ place_is slot sh last h w e refl refl refl))))
        (same? w v)

    -- The bounds that are read for them: each node is searched for from bucket j.
    reads_at : 1 < j → (w : ℕ) → w < N.nodes → moved_reads sh u' j k v h w ≡ is_word (slot j k) (word w) * reads_from u' (key_of h w) j
    reads_at l w lt = moved_from w (reads_from u' (key_of h w)) ∙ ap (λ (c : ℕ). c * reads_from u' (key_of h w) j) (shifts_at l w lt)

    pub reads_sum : 1 < j → h'.reads ≡ h.reads + sum_below N.nodes (λ w. is_word (slot j k) (word w) * reads_from u' (key_of h w) j)
    unfolding heap_remove
    reads_sum l = ap (λ (x : ℕ). h.reads + x)
        (ap (λ (n : ℕ). sum_below n (λ w. moved_reads sh u' j k v h w)) inv.buckets
        ∙ sum_same N.nodes (λ w. moved_reads sh u' j k v h w) (λ w. is_word (slot j k) (word w) * reads_from u' (key_of h w) j) (reads_at l))

    pub shifts_sum : 1 < j → h'.shifts ≡ h.shifts + sum_below N.nodes (λ w. is_word (slot j k) (word w))
    unfolding heap_remove
    shifts_sum l = ap (λ (x : ℕ). h.shifts + x)
        (ap (λ (n : ℕ). sum_below n (λ w. (move sh u' j k v h w).shifts)) inv.buckets
        ∙ sum_same N.nodes (λ w. (move sh u' j k v h w).shifts) (λ w. is_word (slot j k) (word w)) (shifts_at l))

  first_unmoved : (w : ℕ) → j ≡ 1 → (move sh u' j k v h w).shifts ≡ 0
  unfolding move
  first_unmoved w one = go (mark h.search w)
    where
      go : (m : Mark) → (move_marked m (shifts? j k v w (bucket_of h w) (segment_of sh h w)) (bucket_of h w) (bucket_from u' (key_of h w) (bucket_of h w))).shifts ≡ 0
      go unlabelled = refl
      go labelled = rw (shifts?_false {j = j} {k = k} {w = v} {v = w} {b = bucket_of h w} {l = segment_of sh h w} (λ s. omega (arith, s.bucket)))
      go scanned = refl

  pub shifts_first : j ≡ 1 → h'.shifts ≡ h.shifts
  unfolding heap_remove
  shifts_first one = omega (arith, sum_zero (length h.buckets) (λ w. (move sh u' j k v h w).shifts) (λ w _. first_unmoved w one))

  pub reads_first : j ≡ 1 → h'.reads ≡ h.reads
  unfolding heap_remove
  reads_first one = omega (
    arith,
    sum_zero (length h.buckets) (λ w. moved_reads sh u' j k v h w)
        (λ w _. ap (λ (c : ℕ). c * reads_from u' (key_of h w) (bucket_of h w)) (first_unmoved w one) ∙ omega arith),
  )
