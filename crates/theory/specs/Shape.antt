-- The two forms of a radix heap (document 01, "One-level heap" and "Two-level heap"): how many buckets there are, how large
-- each is, and how a bucket is cut into segments.
use Rattle.std.specs.Prelude.{ℕ, zero, suc, ◌+◌, ◌-◌, ◌*◌, ◌^◌, ◌/◌, max, cond, leb, ltb}

-- What sets the two heaps apart; everything else is common to both (document 01, "One-level heap" and "Two-level heap").
pub record Shape : Type 0 where
  -- B, the number of buckets, and the last bound, u(B)
  pub buckets : ℕ
  pub top : ℕ
  -- the size of bucket i, for 1 ≤ i < B
  pub size : ℕ → ℕ
  -- the segment of key x in bucket i whose bound is u
  pub segment : (i u x : ℕ) → ℕ
  -- the upper end of segment k of bucket i whose bound is u
  pub end : (i u k : ℕ) → ℕ
  -- the looks at segments of a removal that uses segment k
  pub looks : ℕ → ℕ

-- The least exponent from e on with x ≤ b ^ exponent, e + fuel at the most (document 01: ceil(log) in both formulas for B).
unfoldable pub log_from : (fuel b x e : ℕ) → ℕ
log_from zero b x e = e
log_from (suc fuel) b x e = cond (leb x (b ^ e)) e (log_from fuel b x (suc e))

-- ceil(logb(x)), for document 01's two formulas for B: x is C + 1, at most 2 ^ 20, and b at least 2, so that 20 is enough
-- (`ceil_log_enough` and `ceil_log_least` of Shapes.Logarithm).
unfoldable pub ceil_log : (b x : ℕ) → ℕ
ceil_log b x = log_from 20 b x 0

-- B of the one-level heap (document 01, "One-level heap").
unfoldable pub one_level_buckets : ℕ → ℕ
one_level_buckets C = ceil_log 2 (C + 1) + 2

-- The one-level heap (document 01, "One-level heap"): bucket 1 has size 1, bucket i size 2^(i - 2); a bucket is one segment,
-- and a look at a segment is not counted.
unfoldable pub one_level : (n C : ℕ) → Shape
one_level n C = record {
  buckets = one_level_buckets C;
  top = n * C + 1;
  size = λ i. cond (leb i 1) 1 (2 ^ (i - 2));
  segment = λ i u x. 1;
  end = λ i u k. u;
  looks = λ k. 0;
}

-- B of the two-level heap (document 01, "Two-level heap").
unfoldable pub two_level_buckets : (C K : ℕ) → ℕ
two_level_buckets C K = max 2 (ceil_log K (C + 1) + 1)

-- The two-level heap (document 01, "Two-level heap"): bucket i < B has size K^i and K segments of K^(i - 1) keys, counted from
-- the top of its range; bucket B is one segment.
unfoldable pub two_level : (n C K : ℕ) → Shape
two_level n C K = record {
  buckets = two_level_buckets C K;
  top = n * C + 1;
  size = λ i. K ^ i;
  segment = λ i u x. cond (ltb i (two_level_buckets C K)) (K - (u - x) / K ^ (i - 1)) 1;
  end = λ i u k. cond (ltb i (two_level_buckets C K)) (u - (K - k) * K ^ (i - 1)) u;
  looks = λ k. k;
}
