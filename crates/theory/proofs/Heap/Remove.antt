-- A removal keeps the invariant; every shift goes to a strictly lower bucket, also from the last one.
use Prim.Native.Nat.{ℕ, ◌≤◌, ◌<◌}
use native.Mathlib.Omega.{arith}
use mathlib.Core.Path.{◌≡◌, refl, sym, ◌∙◌}
use mathlib.Core.Bool.{Bool, true, false, ◌&&◌}
use mathlib.Core.Logic.{◌≢◌, ⊎_elim}
use mathlib.Core.List.{List}
use lib.ListN.{length}
use lib.Dec.{ltb, eqb}
use borrow.Author.Tests.{ltb-true, eqb-true, eqb-false, lt-ltb, eq-eqb, ne_eqb, not-true}
use Rattle.theory.specs.Network.{Network}
use Rattle.theory.specs.Shape.{Shape}
use Rattle.theory.specs.Search.{remove}
use Rattle.theory.specs.Heap.{Heap, bucket_of, key_of, bucket_from, segment_of, shifts?, move_labelled, move, heap_remove}
use Rattle.theory.proofs.Cases.{differ, same?, labelled≢scanned}
use Rattle.theory.proofs.Sums.{length_list_below, get_d_list_below}
use Rattle.theory.specs.Lawful.{Lawful}
use Rattle.theory.specs.Invariants.{Labelled, Least, AtRest, Fits, seg, after, HeapInv}
use Rattle.theory.proofs.Search.Invariant.{labelled_node}
use Rattle.theory.proofs.Search.Scanning.{remove_here, remove_other}
use Rattle.theory.proofs.Heap.Shift.{bounds_after_lem, shift_fits, stay_fits}

-- Who is shifted: the nodes of segment k of bucket j but for w, where j is not 1.
pub record Shifts (j k w v b l : ℕ) : Type 0 where
  pub bucket : 1 < j
  pub there : b ≡ j
  pub segment : l ≡ k
  pub other : v ≢ w

both_true : (a b : Bool) → (a && b) ≡ true → (a ≡ true) × (b ≡ true)
both_true true b e = (refl, e)
both_true false b e = differ (cc)

module _ {j k w v b l : ℕ} where
  pub shifts_true : shifts? j k w v b l ≡ true → Shifts j k w v b l
  shifts_true e =
      let far = both_true (ltb 1 j) _ e in
      let here = both_true (eqb b j) _ far.1 in
      let used = both_true (eqb l k) _ here.1 in
      record { bucket = ltb-true 1 j far.0; there = eqb-true b j here.0; segment = eqb-true l k used.0; other = eqb-false v w (not-true (eqb v w) used.1) }

  pub shifts_false : shifts? j k w v b l ≡ false → Shifts j k w v b l → ⊥
  shifts_false e s =
      let q = rw (lt-ltb 1 j s.bucket, eq-eqb b j s.there, eq-eqb l k s.segment, ne_eqb v w s.other) at e in differ (cc)

-- What a removal does to a labelled node.
pub move_labelled_lem : (sh : Shape) (u' : List ℕ) (j k w : ℕ) (h : Heap) (v : ℕ) → Labelled h.search v
    → move sh u' j k w h v ≡ move_labelled (shifts? j k w v (bucket_of h v) (segment_of sh h v)) (bucket_of h v) (bucket_from u' (key_of h v) (bucket_of h v))
unfolding move
move_labelled_lem sh u' j k w h v on = rw on

-- The removal of w, with the smallest key d, from bucket j.
module _ {N : Network} {sh : Shape} {C S : ℕ} (law : Lawful sh C S) {last : ℕ} {h : Heap} (rest : AtRest N C last h.search) (inv : HeapInv N sh last h)
    {j d w : ℕ} (fit : Fits sh h.bounds j d) (min : Least h.search w d) where
  abbrev u' : List ℕ
  u' = after sh h.bounds j d

  abbrev k : ℕ
  k = seg sh h.bounds j d

  late : last ≤ d
  late = omega (arith, rest.ahead w min.member, min.key)

  -- A shifted node falls to a lower bucket, where it fits; any other stays.
  pub falls : (v : ℕ) → Labelled h.search v → Shifts j k w v (bucket_of h v) (segment_of sh h v)
      → Fits sh u' (bucket_from u' (key_of h v) (bucket_of h v)) (key_of h v) × (bucket_from u' (key_of h v) (bucket_of h v) < bucket_of h v)
  falls v on s =
      let e : seg sh h.bounds (bucket_of h v) (key_of h v) ≡ k = s.segment in
      rw s.there
      (shift_fits law inv.bounds fit late (rw s.there at (inv.fits v on)) (omega (arith, rest.window v on, late)) s.bucket (rw s.there at e))

  pub stays : (v : ℕ) → Labelled h.search v → v ≢ w → (Shifts j k w v (bucket_of h v) (segment_of sh h v) → ⊥) → Fits sh u' (bucket_of h v) (key_of h v)
  stays v on ne s = stay_fits law inv.bounds fit late (inv.fits v on) (min.least v on)
      (λ l q m. let e : seg sh h.bounds (bucket_of h v) (key_of h v) ≡ k = rw q m in s (record { bucket = l; there = q; segment = e; other = ne }))

  fits_after : (v : ℕ) → Labelled h.search v → v ≢ w → Fits sh u' (move sh u' j k w h v).bucket (key_of h v)
  fits_after v on ne = rw (move_labelled_lem sh u' j k w h v on) (go (shifts? j k w v (bucket_of h v) (segment_of sh h v)) refl)
    where
      go : (t : Bool) → shifts? j k w v (bucket_of h v) (segment_of sh h v) ≡ t
          → Fits sh u' (move_labelled t (bucket_of h v) (bucket_from u' (key_of h v) (bucket_of h v))).bucket (key_of h v)
      go true q = (falls v on (shifts_true q)).0
      go false q = stays v on ne (shifts_false q)

  -- The buckets after the removal, node by node.
  pub removed_bucket : (v : ℕ) → v < N.nodes → bucket_of (heap_remove sh j k d w h) v ≡ (move sh u' j k w h v).bucket
  unfolding heap_remove
  removed_bucket v l = get_d_list_below (length h.buckets) v (λ v. (move sh u' j k w h v).bucket) 0 (omega (arith, inv.buckets))

  -- Who is labelled after the removal was labelled before, and is not w.
  pub removed_labelled : (v : ℕ) → Labelled (remove w h.search) v → Labelled h.search v × (v ≢ w)
  removed_labelled v on = ⊎_elim
      (λ e. absurd (labelled≢scanned (sym (rw e at on) ∙ remove_here rest min)))
      (λ n. (sym (remove_other rest min v n) ∙ on, n)) (same? v w)

  pub inv_remove : HeapInv N sh d (heap_remove sh j k d w h)
  unfolding heap_remove remove
  inv_remove = record {
    bounds = bounds_after_lem law inv.bounds fit late;
    buckets = length_list_below (length h.buckets) (λ v. (move sh u' j k w h v).bucket) ∙ inv.buckets;
    fits = λ v on. let q = removed_labelled v on in rw (removed_bucket v (labelled_node rest v q.0)) (fits_after v q.0 q.1);
  }
