-- Document 01's own formulas for both heaps, as corollaries of the one definition over a shape.
use Prim.Native.Nat.{ℕ, zero, suc, ◌+◌, ◌-◌, ◌*◌, ◌^◌, ◌/◌, ◌≤◌, ◌<◌, min, max}
use native.Mathlib.Omega.{arith}
use native.Mathlib.Nat.{pow-zero, pow-suc}
use mathlib.Core.Path.{◌≡◌, refl, ◌∙◌}
use mathlib.Core.List.{List}
use borrow.Author.Tests.{lt-leb, lt-ltb, le-ltb}
use Rattle.theory.specs.Sums.{sum_below}
use Rattle.theory.specs.Shape.{ceil_log, one_level_buckets, one_level, two_level_buckets, two_level}
use Rattle.theory.specs.Heap.{bound, first_bounds}
use Rattle.theory.specs.Lawful.{total}
use Rattle.theory.specs.Invariants.{Bounds, Fits, seg, seg_end, after}
use Rattle.theory.proofs.Heap.Bounds.{first_at, first_top, after_same}
use Rattle.theory.proofs.Heap.Shift.{after_first, after_next}
use Rattle.theory.proofs.Shapes.Logarithm.{ceil_log_enough, ceil_log_least}
use Rattle.theory.proofs.Shapes.OneLevel.{total_one, lawful_one}
use Rattle.theory.proofs.Shapes.TwoLevel.{lawful_two}

-- e is ceil(logb(C + 1)): the least exponent with C + 1 ≤ b^e.
pub record CeilLog (b C e : ℕ) : Type 0 where
  pub enough : C + 1 ≤ b ^ e
  pub least : (i : ℕ) → i < e → b ^ i < C + 1

ceil_log_is : (b C : ℕ) → 2 ≤ b → C ≤ 1048575 → CeilLog b C (ceil_log b (C + 1))
ceil_log_is b C two few = record { enough = ceil_log_enough b C two few; least = λ i h. ceil_log_least b (C + 1) i h }

-- One level: B = ceil(log2(C + 1)) + 2.
pub one_level_buckets_lem : (C : ℕ) → C ≤ 1048575 → (e : ℕ) × CeilLog 2 C e × (one_level_buckets C ≡ e + 2)
unfolding one_level_buckets
one_level_buckets_lem C few = (ceil_log 2 (C + 1), ceil_log_is 2 C (omega arith) few, refl)

-- Two levels: B = max(2, ceil(logK(C + 1)) + 1).
pub two_level_buckets_lem : (C K : ℕ) → 2 ≤ K → C ≤ 1048575 → (e : ℕ) × CeilLog K C e × (two_level_buckets C K ≡ max 2 (e + 1))
unfolding two_level_buckets
two_level_buckets_lem C K two few = (ceil_log K (C + 1), ceil_log_is K C two few, refl)

module _ (n C : ℕ) where
  -- Bucket 1 has size 1; bucket i has size 2^(i - 2) for 2 ≤ i.
  pub one_level_size_first : (one_level n C).size 1 ≡ 1
  unfolding one_level
  one_level_size_first = refl

  pub one_level_size : (i : ℕ) → 2 ≤ i → (one_level n C).size i ≡ 2 ^ (i - 2)
  unfolding one_level
  one_level_size i h = rw (lt-leb i 1 h)

  -- The last bound u(B) is nC + 1; at first u(i) = min(2^(i - 1) - 1, nC + 1) for i < B.
  pub one_level_last : bound (first_bounds (one_level n C)) (one_level_buckets C) ≡ n * C + 1
  unfolding one_level one_level_buckets
  one_level_last = first_top (one_level n C) (unfold one_level one_level_buckets in omega arith)

  pub one_level_first : (i : ℕ) → 1 ≤ i → i < one_level_buckets C → bound (first_bounds (one_level n C)) i ≡ min (2 ^ (i - 1) - 1) (n * C + 1)
  unfolding one_level
  one_level_first zero l h = absurd (omega arith)
  one_level_first (suc i) l h =
      let e : suc i - 1 ≡ i = omega arith in
      rw (e, ← (total_one n C i)) (first_at (one_level n C) (suc i) l h)

  module _ (few : C ≤ 1048575) {last : ℕ} {u : List ℕ} (B : Bounds (one_level n C) last u) {j d : ℕ} (fit : Fits (one_level n C) u j d) (late : last ≤ d) (far : 1 < j) where
    abbrev u' : List ℕ
    u' = after (one_level n C) u j d

    -- A removal from bucket j > 1 with smallest key d: u(1) = d, and u(i) = min(u(i - 1) + size(i), u(j)) for i = 2 to j - 1.
    pub one_level_after_first : bound u' 1 ≡ d
    unfolding one_level
    one_level_after_first = omega (arith, after_first (lawful_one n C few) B fit late far, fit.over 1 (omega arith) far, fit.under)

    pub one_level_after : (i : ℕ) → 2 ≤ i → i < j → bound u' i ≡ min (bound u' (i - 1) + 2 ^ (i - 2)) (bound u j)
    unfolding one_level
    one_level_after zero l h = absurd (omega arith)
    one_level_after (suc i) l h =
        let e : suc i - 1 ≡ i = omega arith in
        rw (e, ← (one_level_size (suc i) l)) (after_next (lawful_one n C few) B fit late i (omega arith) h)

    pub one_level_after_same : (i : ℕ) → j ≤ i → bound u' i ≡ bound u i
    one_level_after_same i h = after_same (one_level n C) j (seg (one_level n C) u j d) d u fit.low i h

module _ (n C K : ℕ) where
  -- K + K^2 + .. + K^i.
  abbrev pub powers_to : ℕ → ℕ
  powers_to i = sum_below i (λ p. K ^ suc p)

  total_powers : (i : ℕ) → total (two_level n C K) i ≡ powers_to i
  unfolding total two_level
  total_powers zero = refl
  total_powers (suc i) = omega (arith, total_powers i)

  -- Bucket i < B has size K^i.
  pub two_level_size : (i : ℕ) → (two_level n C K).size i ≡ K ^ i
  unfolding two_level
  two_level_size i = refl

  -- u(B) = nC + 1; at first u(i) = min(K + K^2 + .. + K^i - 1, nC + 1) for i < B.
  pub two_level_last : bound (first_bounds (two_level n C K)) (two_level_buckets C K) ≡ n * C + 1
  unfolding two_level two_level_buckets
  two_level_last = first_top (two_level n C K) (unfold two_level two_level_buckets in omega arith)

  pub two_level_first : (i : ℕ) → 1 ≤ i → i < two_level_buckets C K → bound (first_bounds (two_level n C K)) i ≡ min (powers_to i - 1) (n * C + 1)
  unfolding two_level
  two_level_first i l h = rw (← (total_powers i)) (first_at (two_level n C K) i l h)

  -- A key x in bucket i < B stands in segment K - floor((u(i) - x) / K^(i - 1)); the upper end of segment k is
  -- u(i) - (K - k) × K^(i - 1). Bucket B has one segment, whose upper end is u(B).
  pub two_level_segment : (i u x : ℕ) → i < two_level_buckets C K → (two_level n C K).segment i u x ≡ K - (u - x) / K ^ (i - 1)
  unfolding two_level
  two_level_segment i u x h = rw (lt-ltb i (two_level_buckets C K) h)

  pub two_level_end : (i u k : ℕ) → i < two_level_buckets C K → (two_level n C K).end i u k ≡ u - (K - k) * K ^ (i - 1)
  unfolding two_level
  two_level_end i u k h = rw (lt-ltb i (two_level_buckets C K) h)

  pub two_level_segment_last : (u x : ℕ) → (two_level n C K).segment (two_level_buckets C K) u x ≡ 1
  unfolding two_level
  two_level_segment_last u x = rw (le-ltb (two_level_buckets C K) (two_level_buckets C K) (omega arith))

  pub two_level_end_last : (u k : ℕ) → (two_level n C K).end (two_level_buckets C K) u k ≡ u
  unfolding two_level
  two_level_end_last u k = rw (le-ltb (two_level_buckets C K) (two_level_buckets C K) (omega arith))

  module _ (two : 2 ≤ K) (few : C ≤ 1048575) {last : ℕ} {u : List ℕ} (B : Bounds (two_level n C K) last u) {j d : ℕ} (fit : Fits (two_level n C K) u j d) (late : last ≤ d) (far : 1 < j) where
    abbrev v' : List ℕ
    v' = after (two_level n C K) u j d

    -- t, the upper end of the segment of d.
    abbrev t : ℕ
    t = seg_end (two_level n C K) u j d

    -- A removal from bucket j > 1 with smallest key d: u(1) = min(d - 1 + K, t), u(i) = min(u(i - 1) + K^i, t) for 2 ≤ i < j.
    pub two_level_after_first : bound v' 1 ≡ min (d - 1 + K) t
    two_level_after_first =
        let e : (two_level n C K).size 1 ≡ K = two_level_size 1 ∙ pow-suc K 0 ∙ (rw (pow-zero K) (omega arith)) in
        rw e at (after_first (lawful_two n C K two few) B fit late far)

    pub two_level_after : (i : ℕ) → 2 ≤ i → i < j → bound v' i ≡ min (bound v' (i - 1) + K ^ i) t
    two_level_after zero l h = absurd (omega arith)
    two_level_after (suc i) l h =
        let e : suc i - 1 ≡ i = omega arith in
        rw (e, ← (two_level_size (suc i))) (after_next (lawful_two n C K two few) B fit late i (omega arith) h)

    pub two_level_after_same : (i : ℕ) → j ≤ i → bound v' i ≡ bound u i
    two_level_after_same i h = after_same (two_level n C K) j (seg (two_level n C K) u j d) d u fit.low i h
