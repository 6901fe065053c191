-- The counts. A labelled node may still be shifted once for each bucket below its own: these, summed, are the potential.
use Prim.Native.Nat.{ℕ, ◌+◌, ◌*◌, ◌≤◌, ◌<◌}
use native.Mathlib.Omega.{arith}
use native.Mathlib.Nat.{mul-le-mul_left}
use mathlib.Core.Path.{◌≡◌, refl, ap}
use mathlib.Core.Bool.{Bool, true, false}
use mathlib.Core.Logic.{◌≢◌, ⊎_elim}
use lib.ListN.{length, length-append}
use lib.Seq.{get_or-set_same, get_or-set_other}
use Rattle.theory.specs.Sums.{sum_below}
use Rattle.theory.specs.Network.{Network}
use Rattle.theory.specs.Shape.{Shape}
use Rattle.theory.specs.Search.{Mark, unlabelled, labelled, scanned, mark, as_labelled, inserted, decreased, label, remove}
use Rattle.theory.specs.Heap.{Heap, bound, bucket_of, key_of, bucket_from, reads_from, search_start, bucket_for, segment_of, shifts?, move_marked, move, moved_reads, heap_label, heap_remove}
use Rattle.theory.proofs.Cases.{same?}
use Rattle.theory.proofs.Sums.{sum_change, sum_add, sum_twice, sum_mono}
use Rattle.theory.specs.Lawful.{Lawful}
use Rattle.theory.specs.Invariants.{Least, AtRest, Fits, seg, after, HeapInv, Labelling, weight, weight_of, potential, Counted}
use Rattle.theory.proofs.Search.Scanning.{remove_here, remove_other}
use Rattle.theory.proofs.Heap.Buckets.{reads_fall, bucket_least}
use Rattle.theory.proofs.Heap.Remove.{Shifts, shifts_true, falls, removed_bucket}
use Rattle.theory.proofs.Heap.Label.{put}

-- Counts that are within their bounds fit a word of 32 bits, with room to spare.
module _ {N : Network} {sh : Shape} {S : ℕ} {h : Heap} (c : Counted N sh S h) (few : sh.buckets ≤ 22) (u : (h.search.insertions ≤ 4096) × (h.search.decreases ≤ 65537)) where
  most : h.search.insertions * sh.buckets ≤ h.search.insertions * 22
  most = mul-le-mul_left h.search.insertions few

  pub shifts_low : h.shifts ≤ 90112
  shifts_low = omega (arith, c.shifts, most, u)

  pub reads_low : h.reads ≤ 524288
  reads_low = omega (arith, c.reads, shifts_low, most, u)

-- An insertion or a decrease.
module _ {N : Network} {sh : Shape} {C S : ℕ} (law : Lawful sh C S) {last : ℕ} {h : Heap} (inv : HeapInv N sh last h) (c : Counted N sh S h)
    {v x : ℕ} (lab : Labelling N sh h v x) (a : ℕ) where
  abbrev labelled_heap : Heap
  labelled_heap = heap_label sh v x a h

  weight_here : weight_of labelled_heap v ≡ weight (as_labelled (mark h.search v)) (bucket_for sh v x h)
  unfolding heap_label label
  weight_here = rw (
    get_or-set_same h.search.marks v (as_labelled (mark h.search v)) unlabelled (omega (arith, lab.marks, lab.node)),
    get_or-set_same h.buckets v (bucket_for sh v x h) 0 (omega (arith, inv.buckets, lab.node)),
  )

  weight_other : (w : ℕ) → w ≢ v → weight_of labelled_heap w ≡ weight_of h w
  unfolding heap_label label
  weight_other w n = rw (get_or-set_other h.search.marks v w (as_labelled (mark h.search v)) unlabelled n, get_or-set_other h.buckets v w (bucket_for sh v x h) 0 n)

  potential_label : potential N labelled_heap + weight_of h v ≡ potential N h + weight (as_labelled (mark h.search v)) (bucket_for sh v x h)
  potential_label = rw weight_here at (sum_change N.nodes v (weight_of h) (weight_of labelled_heap) lab.node weight_other)

  pub count_label : Counted N sh S labelled_heap
  unfolding heap_label label
  count_label = record {
    shifts = go (mark h.search v) (put law inv lab).1 lab.unscanned (potential N labelled_heap) potential_label;
    looks = c.looks;
    reads = reads_go (mark h.search v) refl lab.unscanned (potential N labelled_heap) potential_label;
  }
    where
      reads_go : (m : Mark) → mark h.search v ≡ m → m ≢ scanned → (p : ℕ)
          → p + weight m (bucket_of h v) ≡ potential N h + weight (as_labelled m) (bucket_from h.bounds x (search_start sh m (bucket_of h v)))
          → p + (h.reads + reads_from h.bounds x (search_start sh m (bucket_of h v))) + (h.search.insertions + inserted m)
          ≤ (h.search.insertions + inserted m) * sh.buckets + 2 * (h.search.insertions + inserted m + (h.search.decreases + decreased m) + h.shifts)
      reads_go unlabelled q new p e = omega (arith, c.reads, reads_fall h.bounds x (search_start sh unlabelled (bucket_of h v)), bucket_least h.bounds x (search_start sh unlabelled (bucket_of h v)))
      reads_go labelled q new p e = omega (arith, c.reads, reads_fall h.bounds x (search_start sh labelled (bucket_of h v)), (inv.fits v q).low, bucket_least h.bounds x (search_start sh labelled (bucket_of h v)))
      reads_go scanned q new p e = absurd (new refl)

      go : (m : Mark) → bucket_from h.bounds x (search_start sh m (bucket_of h v)) ≤ search_start sh m (bucket_of h v) → m ≢ scanned → (p : ℕ)
          → p + weight m (bucket_of h v) ≡ potential N h + weight (as_labelled m) (bucket_from h.bounds x (search_start sh m (bucket_of h v)))
          → p + h.shifts + (h.search.insertions + inserted m) ≤ (h.search.insertions + inserted m) * sh.buckets
      go unlabelled f new p e = omega (arith, c.shifts, law.two)
      go labelled f new p e = omega (arith, c.shifts)
      go scanned f new p e = absurd (new refl)

-- What a removal does to one node: a shift takes one from its weight at the least.
one_move : (m : Mark) (t : Bool) (b b' : ℕ) → (m ≡ labelled → t ≡ true → (1 ≤ b') × (b' < b))
    → weight m (move_marked m t b b').bucket + (move_marked m t b b').shifts ≤ weight m b
one_move unlabelled t b b' fall = omega arith
one_move labelled true b b' fall = omega (arith, fall refl refl)
one_move labelled false b b' fall = omega arith
one_move scanned t b b' fall = omega arith

-- The bounds that are read for it: one for each bucket that it falls, and two at the most besides.
one_read : (m : Mark) (t : Bool) (b b' r : ℕ) → (m ≡ labelled → t ≡ true → (1 ≤ b') × (b' < b)) → r + b' ≤ b + 2
    → weight m (move_marked m t b b').bucket + (move_marked m t b b').shifts * r ≤ weight m b + 2 * (move_marked m t b b').shifts
one_read unlabelled t b b' r fall few = omega arith
one_read labelled true b b' r fall few = omega (arith, fall refl refl)
one_read labelled false b b' r fall few = omega arith
one_read scanned t b b' r fall few = omega arith

no_move : (m : Mark) (t : Bool) (b b' : ℕ) → (t ≡ true → ⊥) → (move_marked m t b b').shifts ≡ 0
no_move unlabelled t b b' not = refl
no_move labelled true b b' not = absurd (not refl)
no_move labelled false b b' not = refl
no_move scanned t b b' not = refl

-- A removal: each shift takes one from the potential at the least.
module _ {N : Network} {sh : Shape} {C S : ℕ} (law : Lawful sh C S) {last : ℕ} {h : Heap} (rest : AtRest N C last h.search) (inv : HeapInv N sh last h) (c : Counted N sh S h)
    {j d w : ℕ} (fit : Fits sh h.bounds j d) (min : Least h.search w d) where
  abbrev k : ℕ
  k = seg sh h.bounds j d

  abbrev removed_heap : Heap
  removed_heap = heap_remove sh j k d w h

  abbrev moved : ℕ → ℕ
  moved v = (move sh (after sh h.bounds j d) j k w h v).shifts

  weight_self : weight_of removed_heap w + moved w ≤ weight_of h w
  unfolding heap_remove move
  weight_self = rw (remove_here rest min) (omega (
    arith,
    no_move (mark h.search w) (shifts? j k w w (bucket_of h w) (segment_of sh h w)) (bucket_of h w)
        (bucket_from (after sh h.bounds j d) (key_of h w) (bucket_of h w))
        (λ e. let s : Shifts j k w w (bucket_of h w) (segment_of sh h w) = shifts_true e in s.other refl),
  ))

  weight_other_moved : (v : ℕ) → v < N.nodes → v ≢ w → weight_of removed_heap v + moved v ≤ weight_of h v
  unfolding heap_remove move
  weight_other_moved v l n = rw (removed_bucket law rest inv fit min v l, remove_other rest min v n)
      (one_move (mark h.search v) (shifts? j k w v (bucket_of h v) (segment_of sh h v)) (bucket_of h v)
      (bucket_from (after sh h.bounds j d) (key_of h v) (bucket_of h v))
      (λ on t. let r = falls law rest inv fit min v on (shifts_true t) in (r.0.low, r.1)))

  weight_moved : (v : ℕ) → v < N.nodes → weight_of removed_heap v + moved v ≤ weight_of h v
  weight_moved v l = ⊎_elim (λ e. rw e weight_self) (weight_other_moved v l) (same? v w)

  abbrev read : ℕ → ℕ
  read v = moved_reads sh (after sh h.bounds j d) j k w h v

  read_self : weight_of removed_heap w + read w ≤ weight_of h w + 2 * moved w
  unfolding heap_remove move
  read_self =
      let z : moved w ≡ 0 = unfold move in
      no_move (mark h.search w) (shifts? j k w w (bucket_of h w) (segment_of sh h w)) (bucket_of h w)
      (bucket_from (after sh h.bounds j d) (key_of h w) (bucket_of h w))
      (λ e. let s : Shifts j k w w (bucket_of h w) (segment_of sh h w) = shifts_true e in s.other refl) in
      rw (remove_here rest min, z) (omega arith)

  read_other : (v : ℕ) → v < N.nodes → v ≢ w → weight_of removed_heap v + read v ≤ weight_of h v + 2 * moved v
  unfolding heap_remove move
  read_other v l n = rw (removed_bucket law rest inv fit min v l, remove_other rest min v n)
      (one_read (mark h.search v) (shifts? j k w v (bucket_of h v) (segment_of sh h v)) (bucket_of h v)
      (bucket_from (after sh h.bounds j d) (key_of h v) (bucket_of h v)) (reads_from (after sh h.bounds j d) (key_of h v) (bucket_of h v))
      (λ on t. let r = falls law rest inv fit min v on (shifts_true t) in (r.0.low, r.1))
      (reads_fall (after sh h.bounds j d) (key_of h v) (bucket_of h v)))

  read_moved : (v : ℕ) → v < N.nodes → weight_of removed_heap v + read v ≤ weight_of h v + 2 * moved v
  read_moved v l = ⊎_elim (λ e. rw e read_self) (read_other v l) (same? v w)

  sum_over : (f : ℕ → ℕ) → sum_below (length h.buckets) f ≡ sum_below N.nodes f
  sum_over f = ap (λ (n : ℕ). sum_below n f) inv.buckets

  pub count_remove : Counted N sh S removed_heap
  unfolding heap_remove remove
  count_remove = record {
    shifts = let e : sum_below (length h.buckets) moved ≡ sum_below N.nodes moved = ap (λ (n : ℕ). sum_below n moved) inv.buckets in
        omega (
          arith,
          c.shifts,
          sum_mono N.nodes (λ v. weight_of removed_heap v + moved v) (weight_of h) weight_moved,
          sum_add N.nodes (weight_of removed_heap) moved,
        );
    looks = simp length-append (omega (arith, c.looks, fit.high, law.looked j (bound h.bounds j) d));
    reads = omega (
      arith,
      c.reads,
      sum_over moved,
      sum_over read,
      sum_mono N.nodes (λ v. weight_of removed_heap v + read v) (λ v. weight_of h v + 2 * moved v) read_moved,
      sum_add N.nodes (weight_of removed_heap) read,
      sum_add N.nodes (weight_of h) (λ v. 2 * moved v),
      sum_twice N.nodes moved,
    );
  }
