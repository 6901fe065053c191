-- What an insertion or a decrease makes of the place words: the node's own changes, and no other.
use Prim.Native.Nat.{ℕ}
use native.Mathlib.Omega.{arith}
use mathlib.Core.Path.{◌≡◌, refl, ◌∙◌}
use mathlib.Core.List.{List}
use mathlib.Core.Bool.{cond}
use mathlib.Core.Logic.{◌≢◌}
use lib.Dec.{eqb}
use lib.Seq.{get_or-set_same, get_or-set_other}
use Rattle.theory.specs.Network.{Network}
use Rattle.theory.specs.Search.{Mark, unlabelled, labelled, scanned, mark, as_labelled, label}
use Rattle.theory.specs.Shape.{Shape}
use Rattle.theory.specs.Heap.{Heap, bound, bucket_of, key_of, bucket_for, heap_label}
use Rattle.theory.specs.Invariants.{HeapInv, Labelling}
use Rattle.state.specs.Places.{word_of, place_of}

-- The place word of a node whose mark, bucket and key are known.
pub place_is : (slot : ℕ → ℕ → ℕ) (sh : Shape) (front : ℕ) (h : Heap) (v : ℕ) {m : Mark} {b key : ℕ} {u : List ℕ} → mark h.search v ≡ m → bucket_of h v ≡ b → key_of h v ≡ key → h.bounds ≡ u
    → place_of slot sh front h v ≡ word_of slot front m b (sh.segment b (bound u b) key) key
unfolding place_of
place_is slot sh front h v em eb ek eu = cc

module _ {N : Network} {sh : Shape} {last : ℕ} {h : Heap} (inv : HeapInv N sh last h) {v x : ℕ} (lab : Labelling N sh h v x) (a : ℕ) (slot : ℕ → ℕ → ℕ) (front : ℕ) where
  as_labelled_lem : (m : Mark) → m ≢ scanned → as_labelled m ≡ labelled
  as_labelled_lem unlabelled n = refl
  as_labelled_lem labelled n = refl
  as_labelled_lem scanned n = absurd (n refl)

  abbrev h' : Heap
  h' = heap_label sh v x a h

  here_is : (mark h'.search v ≡ labelled) × (bucket_of h' v ≡ bucket_for sh v x h) × (key_of h' v ≡ x) × (h'.bounds ≡ h.bounds)
  unfolding heap_label label
  here_is = (
    get_or-set_same h.search.marks v (as_labelled (mark h.search v)) unlabelled (omega (arith, lab.marks, lab.node)) ∙ as_labelled_lem (mark h.search v) lab.unscanned,
    get_or-set_same h.buckets v (bucket_for sh v x h) 0 (omega (arith, inv.buckets, lab.node)),
    get_or-set_same h.search.distances v x _ (omega (arith, lab.distances, lab.node)),
    refl,
  )

  other_is : (w : ℕ) → w ≢ v → (mark h'.search w ≡ mark h.search w) × (bucket_of h' w ≡ bucket_of h w) × (key_of h' w ≡ key_of h w) × (h'.bounds ≡ h.bounds)
  unfolding heap_label label
  other_is w n = (
    get_or-set_other h.search.marks v w (as_labelled (mark h.search v)) unlabelled n,
    get_or-set_other h.buckets v w (bucket_for sh v x h) 0 n,
    get_or-set_other h.search.distances v w x _ n,
    refl,
  )

  pub label_here : place_of slot sh front h' v
      ≡ cond (eqb x front) 1 (slot (bucket_for sh v x h) (sh.segment (bucket_for sh v x h) (bound h.bounds (bucket_for sh v x h)) x))
  label_here = let e = here_is in place_is slot sh front h' v e.0 e.1 e.2 e.3

  pub label_other : (w : ℕ) → w ≢ v → place_of slot sh front h' w ≡ place_of slot sh front h w
  unfolding place_of
  label_other w n = let e = other_is w n in place_is slot sh front h' w e.0 e.1 e.2 e.3
