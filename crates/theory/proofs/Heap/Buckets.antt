-- The bucket of a key.
use Prim.Native.Nat.{ℕ, zero, suc, ◌+◌, ◌≤◌, ◌<◌}
use native.Mathlib.Omega.{arith}
use mathlib.Core.Path.{◌≡◌, refl}
use mathlib.Core.Bool.{Bool, true, false, cond}
use mathlib.Core.Logic.{inl, inr}
use mathlib.Core.List.{List}
use lib.Dec.{ltb}
use borrow.Author.Tests.{ltb-true, ltb-false}
use Rattle.theory.specs.Shape.{Shape}
use Rattle.theory.specs.Heap.{bound, bucket_from, reads_from}
use Rattle.theory.proofs.Cases.{split}
use Rattle.theory.specs.Invariants.{Bounds, Fits}

-- What the search for a bucket from i down finds.
record Found (u : List ℕ) (x i b : ℕ) : Type 0 where
  low : 1 ≤ b
  high : b ≤ suc i
  under : b ≤ i → x ≤ bound u b
  over : (p : ℕ) → 1 ≤ p → p < b → bound u p < x

-- A search reads a bound for each bucket that it falls, and two at the most besides.
pub reads_fall : (u : List ℕ) (x i : ℕ) → reads_from u x i + bucket_from u x i ≤ i + 2
unfolding reads_from bucket_from
reads_fall u x zero = omega arith
reads_fall u x (suc i) = go (ltb (bound u (suc i)) x) (reads_fall u x i)
  where
    go : (t : Bool) → reads_from u x i + bucket_from u x i ≤ i + 2 → suc (cond t 0 (reads_from u x i)) + cond t (suc (suc i)) (bucket_from u x i) ≤ suc i + 2
    go true h = omega arith
    go false h = omega arith

-- The search ends at bucket 1 at the lowest.
pub bucket_least : (u : List ℕ) (x i : ℕ) → 1 ≤ bucket_from u x i
unfolding bucket_from
bucket_least u x zero = omega arith
bucket_least u x (suc i) = go (ltb (bound u (suc i)) x) (bucket_least u x i)
  where
    go : (t : Bool) → 1 ≤ bucket_from u x i → 1 ≤ cond t (suc (suc i)) (bucket_from u x i)
    go true h = omega arith
    go false h = h

module _ {sh : Shape} {last : ℕ} {u : List ℕ} (B : Bounds sh last u) where
  found : (x i : ℕ) → i ≤ sh.buckets → Found u x i (bucket_from u x i)
  unfolding bucket_from
  found x zero h = record { low = omega arith; high = omega arith; under = λ l. absurd (omega arith); over = λ p l k. absurd (omega arith) }
  found x (suc i) h = go (ltb (bound u (suc i)) x) refl (found x i (omega arith))
    where
      go : (t : Bool) → ltb (bound u (suc i)) x ≡ t → Found u x i (bucket_from u x i)
          → Found u x (suc i) (cond t (suc (suc i)) (bucket_from u x i))
      go true e f = record {
        low = omega arith;
        high = omega arith;
        under = λ l. absurd (omega arith);
        over = λ p l k. omega (arith, ltb-true (bound u (suc i)) x e, B.rise p (suc i) l (omega arith) h);
      }
      go false e f = record {
        low = f.low;
        high = omega arith;
        over = f.over;
        under = λ l. elim (split (bucket_from u x i) (suc i)) [
          | inl m ↦ f.under (omega arith)
          | inr m ↦ let q : bucket_from u x i ≡ suc i = omega arith in rw q (ltb-false _ _ e)
        ];
      }

  -- A key of at most u(i), searched for from any k ≥ i down, is put where it fits, and no higher than i.
  pub bucket_fits : (x i k : ℕ) → 1 ≤ i → i ≤ k → k ≤ sh.buckets → x ≤ bound u i → Fits sh u (bucket_from u x k) x × (bucket_from u x k ≤ i)
  bucket_fits x i k l m h le = let f = found x k h in elim (split i (bucket_from u x k)) [
    | inl g ↦ absurd (omega (arith, f.over i l g))
    | inr g ↦ (record { low = f.low; high = omega arith; under = f.under (omega arith); over = f.over }, g)
  ]

  -- A key stands within its bucket's size below the bucket's bound: in bucket 1 if it is no smaller than the last scanned.
  pub fits_range : {b x : ℕ} → Fits sh u b x → 1 < b → b < sh.buckets → bound u b < x + sh.size b
  fits_range {b = zero} f l h = absurd (omega arith)
  fits_range {b = suc i} f l h = omega (arith, B.range i (omega arith) h, f.over i (omega arith) (omega arith))

  pub late_range : {b x : ℕ} → Fits sh u b x → last ≤ x → b < sh.buckets → bound u b < x + sh.size b
  late_range {b} f late h = elim (split 1 b) [
    | inl l ↦ fits_range f l h
    | inr l ↦ let q : b ≡ 1 = omega (arith, f.low) in rw q (omega (arith, B.first))
  ]

-- Buckets are ordered as keys are.
pub fits_order : {sh : Shape} {u : List ℕ} {b c x y : ℕ} → Fits sh u b x → Fits sh u c y → x ≤ y → b ≤ c
fits_order {b} {c} f g h = elim (split c b) [ inl l ↦ absurd (omega (arith, f.over c g.low l, g.under)) | inr l ↦ l ]
