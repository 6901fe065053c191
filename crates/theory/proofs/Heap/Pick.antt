-- What a removal picks, in document 01's words: the lowest non-empty bucket, its lowest non-empty segment, the smallest key there.
use Prim.Native.Nat.{ℕ, ◌≤◌}
use native.Mathlib.Omega.{arith}
use mathlib.Core.Path.{◌≡◌, refl, sym}
use mathlib.Core.Logic.{◌↔◌}
use Rattle.theory.specs.Network.{Network}
use Rattle.theory.specs.Shape.{Shape}
use Rattle.theory.specs.Search.{Choice}
use Rattle.theory.specs.Heap.{Heap, bound, bucket_of, key_of, Pick, nothing, picked, pick}
use Rattle.theory.proofs.Cases.{differ}
use Rattle.theory.specs.Lawful.{Lawful}
use Rattle.theory.specs.Invariants.{Labelled, Least, AtRest, Fits, seg, HeapInv}
use Rattle.theory.proofs.Heap.Buckets.{fits_order}
use Rattle.theory.proofs.Heap.Invariant.{Choose, idle, takes, chooses}

-- Bucket j is the lowest that is not empty, k its lowest segment that is not empty, d the smallest key there, and v the
-- smallest number of a node there with key d.
pub record Lowest (sh : Shape) (h : Heap) (j k d v : ℕ) : Type 0 where
  pub on : Labelled h.search v
  pub bucket : bucket_of h v ≡ j
  pub segment : seg sh h.bounds j d ≡ k
  pub key : key_of h v ≡ d
  pub buckets : (w : ℕ) → Labelled h.search w → j ≤ bucket_of h w
  pub segments : (w : ℕ) → Labelled h.search w → bucket_of h w ≡ j → k ≤ seg sh h.bounds j (key_of h w)
  pub keys : (w : ℕ) → Labelled h.search w → bucket_of h w ≡ j → seg sh h.bounds j (key_of h w) ≡ k → d ≤ key_of h w
  pub numbers : (w : ℕ) → Labelled h.search w → bucket_of h w ≡ j → key_of h w ≡ d → v ≤ w

-- Two that stand lowest are the same.
module _ {sh : Shape} {h : Heap} {i j k l d e v w : ℕ} (a : Lowest sh h i k d v) (b : Lowest sh h j l e w) where
  bucket_le : i ≤ j
  bucket_le = omega (arith, a.buckets w b.on, b.bucket)

  segment_le : i ≡ j → k ≤ l
  segment_le q = let s : seg sh h.bounds i (key_of h w) ≡ l = cc in omega (arith, a.segments w b.on (cc))

  key_le : i ≡ j → k ≡ l → d ≤ e
  key_le q r = omega (arith, a.keys w b.on (cc) (cc), b.key)

  number_le : i ≡ j → d ≡ e → v ≤ w
  number_le q r = a.numbers w b.on (cc) (cc)

same_lowest : {sh : Shape} {h : Heap} {i j k l d e v w : ℕ} → Lowest sh h i k d v → Lowest sh h j l e w → picked i k d v ≡ picked j l e w
same_lowest {i} {j} {k} {l} {d} {e} {v} {w} a b =
    let p : i ≡ j = omega (arith, bucket_le a b, bucket_le b a) in
    let q : k ≡ l = omega (arith, segment_le a b p, segment_le b a (sym p)) in
    let r : d ≡ e = omega (arith, key_le a b p q, key_le b a (sym p) (sym q)) in
    let s : v ≡ w = omega (arith, number_le a b p r, number_le b a (sym p) (sym r)) in
    cc

module _ {N : Network} {sh : Shape} {C S : ℕ} (law : Lawful sh C S) {last : ℕ} {h : Heap} (rest : AtRest N C last h.search) (inv : HeapInv N sh last h) where
  -- The minimum of all labelled nodes is what stands lowest in the heap.
  pub lowest_of_min : {j d v : ℕ} → Fits sh h.bounds j d → Least h.search v d → Lowest sh h j (seg sh h.bounds j d) d v
  lowest_of_min {j} {d} {v} f min = record {
    on = min.member;
    bucket = let g = inv.fits v min.member in omega (arith, fits_order f g (omega (arith, min.key)), fits_order g f (omega (arith, min.key)));
    segment = refl;
    key = min.key;
    buckets = λ w on. fits_order f (inv.fits w on) (min.least w on);
    segments = λ w on q. law.rising j (bound h.bounds j) d (key_of h w) (min.least w on);
    keys = λ w on q e. min.least w on;
    numbers = λ w on q e. min.first w on e;
  }

  pub pick_lowest : (j k d v : ℕ) → pick sh h N.nodes ≡ picked j k d v ↔ Lowest sh h j k d v
  pick_lowest j k d v = (λ e. there (chooses law rest inv) e, λ a. back (chooses law rest inv) a)
    where
      there : {p : Pick} {c : Choice} → Choose sh h p c → p ≡ picked j k d v → Lowest sh h j k d v
      there (idle no_one) q = differ (cc)
      there (takes {j = i} {d = e} {v = w} f min) q =
          let qj : j ≡ i = cc in let qk : k ≡ seg sh h.bounds i e = cc in let qd : d ≡ e = cc in let qv : v ≡ w = cc in
          rw (qj, qk, qd, qv) (lowest_of_min f min)

      back : {p : Pick} {c : Choice} → Choose sh h p c → Lowest sh h j k d v → p ≡ picked j k d v
      back (idle no_one) a = absurd (no_one v a.on)
      back (takes f min) a = same_lowest (lowest_of_min f min) a

  -- Nothing is picked exactly when nothing is labelled.
  pub pick_nothing : pick sh h N.nodes ≡ nothing ↔ ((v : ℕ) → Labelled h.search v → ⊥)
  pick_nothing = (λ e. there (chooses law rest inv) e, λ no_one. back (chooses law rest inv) no_one)
    where
      there : {p : Pick} {c : Choice} → Choose sh h p c → p ≡ nothing → (v : ℕ) → Labelled h.search v → ⊥
      there (idle no_one) q = no_one
      there (takes f min) q = differ (cc)

      back : {p : Pick} {c : Choice} → Choose sh h p c → ((v : ℕ) → Labelled h.search v → ⊥) → p ≡ nothing
      back (idle no_one) q = refl
      back (takes {v} f min) q = absurd (q v min.member)
