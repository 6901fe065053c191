-- An insertion or a decrease keeps the invariant, and a decrease never raises the bucket.
use Prim.Native.Nat.{ℕ, ◌+◌, ◌≤◌}
use native.Mathlib.Omega.{arith}
use mathlib.Core.Path.{◌≡◌, refl, ◌∙◌}
use mathlib.Core.Bool.{Bool, true, false, cond}
use mathlib.Core.Logic.{inl, inr, ◌≢◌}
use mathlib.Core.List.{List, [], ◌∷◌}
use lib.ListN.{length-set}
use lib.Seq.{get_or-set_same, get_or-set_other}
use borrow.Author.Tests.{ltb-true}
use Rattle.theory.specs.Network.{Link, Network}
use Rattle.theory.specs.Shape.{Shape}
use Rattle.theory.specs.Search.{Mark, unlabelled, labelled, scanned, mark, below, improves, as_labelled, label, relax, relax_all}
use Rattle.theory.specs.Heap.{Heap, bucket_of, key_of, bucket_from, search_start, bucket_for, heap_label, heap_relax, heap_relax_all}
use Rattle.theory.proofs.Cases.{same?}
use Rattle.theory.specs.Lawful.{Lawful}
use Rattle.theory.specs.Invariants.{Fits, HeapInv, Labelling}
use Rattle.theory.proofs.Heap.Buckets.{bucket_fits}

module _ {N : Network} {sh : Shape} {C S : ℕ} (law : Lawful sh C S) {last : ℕ} {h : Heap} (inv : HeapInv N sh last h) {v x : ℕ} (lab : Labelling N sh h v x) where
  -- The key is put where it fits, and no higher than where the search for its bucket starts.
  pub put : Fits sh h.bounds (bucket_for sh v x h) x × (bucket_for sh v x h ≤ search_start sh (mark h.search v) (bucket_of h v))
  put = go (mark h.search v) (inv.fits v) lab.less lab.unscanned
    where
      go : (m : Mark) → (m ≡ labelled → Fits sh h.bounds (bucket_of h v) (key_of h v)) → below m x (key_of h v) ≡ true → m ≢ scanned
          → Fits sh h.bounds (bucket_from h.bounds x (search_start sh m (bucket_of h v))) x × (bucket_from h.bounds x (search_start sh m (bucket_of h v)) ≤ search_start sh m (bucket_of h v))
      go unlabelled fits less new =
          bucket_fits inv.bounds x sh.buckets sh.buckets (omega (arith, law.two)) (omega arith) (omega arith) (omega (arith, inv.bounds.top, lab.top))
      go labelled fits less new =
          let f = fits refl in bucket_fits inv.bounds x _ _ f.low (omega arith) f.high (omega (arith, f.under, ltb-true x (key_of h v) less))
      go scanned fits less new = absurd (new refl)

  pub inv_label : (a : ℕ) → HeapInv N sh last (heap_label sh v x a h)
  unfolding heap_label label
  inv_label a = record {
    bounds = inv.bounds;
    buckets = rw length-set inv.buckets;
    fits = λ w on. elim (same? w v) [
      | inl e ↦ rw (
        e,
        get_or-set_same h.buckets v (bucket_for sh v x h) 0 (omega (arith, inv.buckets, lab.node)),
        get_or-set_same h.search.distances v x _ (omega (arith, lab.distances, lab.node)),
      ) put.0
      | inr n ↦ rw (get_or-set_other h.buckets v w (bucket_for sh v x h) 0 n, get_or-set_other h.search.distances v w x _ n)
          (inv.fits w (rw (get_or-set_other h.search.marks v w (as_labelled (mark h.search v)) unlabelled n) at on))
    ];
  }

-- The search within the heap does what the search does.
pub relax_search : (sh : Shape) (d : ℕ) (l : Link) (h : Heap) → (heap_relax sh d l h).search ≡ relax d l h.search
unfolding heap_relax relax heap_label
relax_search sh d l h = go (improves d l h.search)
  where
    go : (t : Bool) → (cond t (heap_label sh l.head (d + l.cost) l.arc h) h).search ≡ cond t (label l.head (d + l.cost) l.arc h.search) h.search
    go true = refl
    go false = refl

pub relax_all_search : (sh : Shape) (d : ℕ) (ls : List Link) (h : Heap) → (heap_relax_all sh d ls h).search ≡ relax_all d ls h.search
unfolding heap_relax_all relax_all
relax_all_search sh d [] h = refl
relax_all_search sh d (l ∷ ls) h = relax_all_search sh d ls (heap_relax sh d l h) ∙ (rw relax_search)
