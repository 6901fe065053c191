-- The heap's invariant beside the search's, and the choice that it makes right: the heap picks the node that the search chooses.
use Prim.Native.Nat.{ℕ, zero, suc, ◌<◌, ◌≤◌}
use native.Mathlib.Omega.{arith}
use mathlib.Core.Path.{◌≡◌, refl, sym}
use mathlib.Core.Bool.{Bool, true, false, cond}
use mathlib.Core.Logic.{inl, inr}
use mathlib.Core.List.{List}
use lib.Dec.{ltb}
use borrow.Author.Tests.{lt-ltb, le-ltb, eq-eqb, ne_eqb}
use Rattle.theory.specs.Network.{Network}
use Rattle.theory.specs.Shape.{Shape}
use Rattle.theory.specs.Search.{Mark, unlabelled, labelled, scanned, mark, Choice, chosen, nearer, consider, nearest}
use Rattle.theory.specs.Heap.{Heap, bound, bucket_of, key_of, Pick, nothing, picked, lower, lowest, consider_pick, segment_of, pick}
use Rattle.theory.proofs.Cases.{split}
use Rattle.theory.proofs.Search.Nearest.{Right, nearest_right}
use Rattle.theory.specs.Lawful.{Lawful}
use Rattle.theory.specs.Invariants.{Labelled, Least, AtRest, Fits, seg, HeapInv}
use Rattle.theory.proofs.Heap.Buckets.{late_range}

lower_is : (a b : ℕ) (t r : Bool) → (a < b → r ≡ true) → (b < a → r ≡ false) → (a ≡ b → t ≡ r) → lower a b t ≡ r
lower_is a b t r less more same = elim (split a b) [
  | inl l ↦ rw (lt-ltb a b l) (sym (less l))
  | inr l ↦ elim (split b a) [
    | inl m ↦ rw (le-ltb a b l, ne_eqb a b (λ q. omega arith)) (sym (more m))
    | inr m ↦ let q : a ≡ b = omega arith in rw (le-ltb a b l, eq-eqb a b q) (same q)
  ]
]

-- The pick of the heap beside the choice without it.
data Same (sh : Shape) (u : List ℕ) : Pick → Choice → Type 0 where
  neither : Same sh u nothing Choice.nothing
  both : {j d v : ℕ} → Fits sh u j d → Same sh u (picked j (seg sh u j d) d v) (chosen v d)

module _ {sh : Shape} {C S : ℕ} (law : Lawful sh C S) {u : List ℕ} where
  -- The order of the heap's pick, bucket then segment then key, is the order of the keys.
  lower_key : {b c x y : ℕ} → Fits sh u b x → Fits sh u c y → lower b c (lower (seg sh u b x) (seg sh u c y) (ltb x y)) ≡ ltb x y
  lower_key {b} {c} {x} {y} f g = lower_is b c _ (ltb x y)
      (λ l. lt-ltb x y (omega (arith, g.over b f.low l, f.under)))
      (λ l. le-ltb x y (omega (arith, f.over c g.low l, g.under)))
      (λ q. rw q (lower_is (seg sh u c x) (seg sh u c y) (ltb x y) (ltb x y)
      (λ l. elim (split x y) [ inl m ↦ lt-ltb x y m | inr m ↦ absurd (omega (arith, law.rising c (bound u c) y x m)) ])
      (λ l. elim (split x y) [ inl m ↦ absurd (omega (arith, law.rising c (bound u c) x y (omega arith))) | inr m ↦ le-ltb x y m ])
      (λ e. refl)))

  same_step : {b d : ℕ} (v : ℕ) {p : Pick} {c : Choice} → Fits sh u b d → Same sh u p c → Same sh u (lowest b (seg sh u b d) d v p) (nearer v d c)
  same_step v f neither = both f
  same_step {b} {d} v f (both {j} {d = e} {v = w} g) = rw (lower_key f g) (go (ltb d e))
    where
      go : (t : Bool) → Same sh u (cond t (picked b (seg sh u b d) d v) (picked j (seg sh u j e) e w)) (cond t (chosen v d) (chosen w e))
      go true = both f
      go false = both g

module _ {sh : Shape} {C S : ℕ} (law : Lawful sh C S) (h : Heap)
    (fits : (v : ℕ) → Labelled h.search v → Fits sh h.bounds (bucket_of h v) (key_of h v)) where
  same_below : (n : ℕ) → Same sh h.bounds (pick sh h n) (nearest h.search n)
  unfolding pick nearest
  same_below zero = neither
  same_below (suc v) = go (mark h.search v) refl (same_below v)
    where
      go : (m : Mark) → mark h.search v ≡ m → Same sh h.bounds (pick sh h v) (nearest h.search v)
          → Same sh h.bounds (consider_pick m (bucket_of h v) (segment_of sh h v) (key_of h v) v (pick sh h v)) (consider m v (key_of h v) (nearest h.search v))
      go unlabelled e s = s
      go labelled e s = same_step law v (fits v e) s
      go scanned e s = s

-- What the heap picks beside what the search chooses.
pub data Choose (sh : Shape) (h : Heap) : Pick → Choice → Type 0 where
  idle : ((v : ℕ) → Labelled h.search v → ⊥) → Choose sh h nothing Choice.nothing
  takes : {j d v : ℕ} → Fits sh h.bounds j d → Least h.search v d → Choose sh h (picked j (seg sh h.bounds j d) d v) (chosen v d)

join : {sh : Shape} {h : Heap} {p : Pick} {c : Choice} → Same sh h.bounds p c → Right h.search c → Choose sh h p c
join neither no_one = idle no_one
join (both {v} f) min = takes {v = v} f min

module _ {N : Network} {sh : Shape} {C S : ℕ} (law : Lawful sh C S) {last : ℕ} {h : Heap} (rest : AtRest N C last h.search) (inv : HeapInv N sh last h) where
  pub chooses : Choose sh h (pick sh h N.nodes) (nearest h.search N.nodes)
  chooses = join (same_below law h inv.fits N.nodes) (nearest_right h.search N.nodes rest.marks_length)

  -- A labelled node's segment is at least 1; keys of one segment of bucket 1 are equal.
  pub segment_low : (v : ℕ) → Labelled h.search v → 1 ≤ segment_of sh h v
  segment_low v on = let f = inv.fits v on in
      law.low (bucket_of h v) (bound h.bounds (bucket_of h v)) (key_of h v) f.low f.under (late_range inv.bounds f (rest.ahead v on))

  first_key : (v : ℕ) → Labelled h.search v → bucket_of h v ≡ 1 → sh.end 1 (bound h.bounds 1) (seg sh h.bounds 1 (key_of h v)) ≡ key_of h v
  first_key v on q =
      let f : Fits sh h.bounds 1 (key_of h v) = rw q at (inv.fits v on) in
      let r = late_range inv.bounds f (rest.ahead v on) law.two in
      omega (arith, law.single (bound h.bounds 1) (key_of h v) f.under r, law.inside 1 (bound h.bounds 1) (key_of h v) (omega arith) law.two f.under r)

  pub first_keys : (v w : ℕ) → Labelled h.search v → Labelled h.search w → bucket_of h v ≡ 1 → bucket_of h w ≡ 1
      → seg sh h.bounds 1 (key_of h v) ≡ seg sh h.bounds 1 (key_of h w) → key_of h v ≡ key_of h w
  first_keys v w on on' q q' e = cc (first_key v on q, first_key w on' q')

  -- A node as near as the last scanned stands in bucket 1.
  pub nearest_first : (v : ℕ) → Labelled h.search v → key_of h v ≡ last → bucket_of h v ≡ 1
  nearest_first v on q = let f = inv.fits v on in elim (split 1 (bucket_of h v)) [
    | inl l ↦ absurd (omega (arith, f.over 1 (omega arith) l, inv.bounds.reach))
    | inr l ↦ omega (arith, f.low)
  ]
