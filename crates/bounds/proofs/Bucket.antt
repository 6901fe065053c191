-- The search for the bucket of a key, and the bounds that it reads (document 01, "One-level heap"; document 02, paper 3).
use Prim.Native.Nat.{ℕ, zero, suc, ◌+◌, ◌-◌, ◌≤◌, ◌<◌}
use native.Mathlib.Omega.{arith}
use mathlib.Core.Path.{◌≡◌, refl}
use mathlib.Core.Bool.{Bool, true, false, cond}
use mathlib.Core.List.{List}
use lib.Dec.{ltb}
use borrow.Author.Tests.{lt-ltb, le-ltb}
use Rattle.theory.specs.Heap.{bound, bucket_from, reads_from}

-- Bounds that agree from 1 to where the search starts give the same bucket.
pub bucket_from_same : (u u' : List ℕ) (x start : ℕ) → ((i : ℕ) → 1 ≤ i → i ≤ start → bound u i ≡ bound u' i)
    → bucket_from u x start ≡ bucket_from u' x start
unfolding bucket_from
bucket_from_same u u' x zero same = refl
bucket_from_same u u' x (suc i) same =
    rw (same (suc i) (omega arith) (omega arith), bucket_from_same u u' x i (λ k l h. same k l (omega arith)))

-- The bound of bucket i is below the key.
pub bucket_above : (u : List ℕ) (x i : ℕ) → 1 ≤ i → bound u i < x → bucket_from u x i ≡ i + 1
unfolding bucket_from
bucket_above u x zero l h = absurd (omega arith)
bucket_above u x (suc i) l h = rw (lt-ltb (bound u (suc i)) x h) (omega arith)

-- It is not.
pub bucket_below : (u : List ℕ) (x i : ℕ) → 1 ≤ i → x ≤ bound u i → bucket_from u x (i - 1) ≡ bucket_from u x i
unfolding bucket_from
bucket_below u x zero l h = absurd (omega arith)
bucket_below u x (suc i) l h =
    let e : suc i - 1 ≡ i = omega arith in rw (e, le-ltb (bound u (suc i)) x h)

-- There is no bound to look at.
pub bucket_none : (u : List ℕ) (x i : ℕ) → i ≡ 0 → bucket_from u x i ≡ 1
unfolding bucket_from
bucket_none u x i e = rw e

-- The same of the bounds that are read.
pub reads_same : (u u' : List ℕ) (x start : ℕ) → ((i : ℕ) → 1 ≤ i → i ≤ start → bound u i ≡ bound u' i)
    → reads_from u x start ≡ reads_from u' x start
unfolding reads_from
reads_same u u' x zero same = refl
reads_same u u' x (suc i) same = rw (same (suc i) (omega arith) (omega arith), reads_same u u' x i (λ k l h. same k l (omega arith)))

pub reads_above : (u : List ℕ) (x i : ℕ) → 1 ≤ i → bound u i < x → reads_from u x i ≡ 1
unfolding reads_from
reads_above u x zero l h = absurd (omega arith)
reads_above u x (suc i) l h = rw (lt-ltb (bound u (suc i)) x h)

pub reads_below : (u : List ℕ) (x i : ℕ) → 1 ≤ i → x ≤ bound u i → reads_from u x i ≡ reads_from u x (i - 1) + 1
unfolding reads_from
reads_below u x zero l h = absurd (omega arith)
reads_below u x (suc i) l h =
    let e : suc i - 1 ≡ i = omega arith in rw (e, le-ltb (bound u (suc i)) x h) (omega arith)

pub reads_none : (u : List ℕ) (x i : ℕ) → i ≡ 0 → reads_from u x i ≡ 0
unfolding reads_from
reads_none u x i e = rw e

-- No more bounds are read than there are from where the search starts.
pub reads_most : (u : List ℕ) (x i : ℕ) → reads_from u x i ≤ i
unfolding reads_from
reads_most u x zero = omega arith
reads_most u x (suc i) = go (ltb (bound u (suc i)) x) (reads_most u x i)
  where
    go : (t : Bool) → reads_from u x i ≤ i → suc (cond t 0 (reads_from u x i)) ≤ suc i
    go true h = omega arith
    go false h = omega arith
