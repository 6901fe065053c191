-- The two-level shape is lawful.
use Prim.Native.Nat.{ℕ, zero, suc, ◌+◌, ◌-◌, ◌*◌, ◌^◌, ◌/◌, ◌≤◌, ◌<◌}
use native.Mathlib.Omega.{arith}
use native.Mathlib.Nat.{one-le-pow, pow-zero, pow-suc, pow-le-pow_right, mul-le-mul_right, div-lt_iff_lt-mul, div-mul-le_self, lt-div-mul-add, le-div_iff_mul-le}
use mathlib.Core.Path.{◌≡◌}
use mathlib.Core.Logic.{inl, inr}
use borrow.Author.Tests.{lt-ltb, le-ltb}
use Rattle.theory.specs.Shape.{ceil_log, two_level_buckets, two_level}
use Rattle.theory.proofs.Cases.{split}
use Rattle.theory.specs.Lawful.{total, Lawful}
use Rattle.theory.proofs.Shapes.Logarithm.{ceil_log_enough}

-- K segments of w keys, counted down from u: the segment of key x, and the upper end of segment k.
module _ (K u : ℕ) {w : ℕ} (pos : 0 < w) where
  abbrev part : ℕ → ℕ
  part x = K - (u - x) / w

  abbrev top : ℕ → ℕ
  top k = u - (K - k) * w

  part_low : (x : ℕ) → x ≤ u → u < x + K * w → (u - x) / w < K
  part_low x le near = (div-lt_iff_lt-mul pos).1 (omega arith)

  -- counted down, a key's segment is number (u - x) / w
  part_down : (x : ℕ) → x ≤ u → u < x + K * w → K - part x ≡ (u - x) / w
  part_down x le near = omega (arith, part_low x le near)

  part_rising : (x y : ℕ) → x ≤ y → part x ≤ part y
  part_rising x y le = let h : (u - y) / w ≤ (u - x) / w = (le-div_iff_mul-le pos).1 (omega (arith, div-mul-le_self (u - y) w)) in omega arith

  part_inside : (x : ℕ) → x ≤ u → u < x + K * w → x ≤ top (part x)
  part_inside x le near = rw (part_down x le near) (omega (arith, div-mul-le_self (u - x) w))

  part_wide : (x : ℕ) → x ≤ u → u < x + K * w → top (part x) < x + w
  part_wide x le near = rw (part_down x le near) (omega (arith, lt-div-mul-add {a = u - x} pos))

  part_above : (x y : ℕ) → y ≤ u → 0 < y → part x < part y → top (part x) < y
  part_above x y le some less =
      let f : suc ((u - y) / w) * w ≤ (K - part x) * w = mul-le-mul_right w (omega arith) in
      omega (arith, lt-div-mul-add {a = u - y} pos)

module _ (n C K : ℕ) (two : 2 ≤ K) where
  abbrev B : ℕ
  B = two_level_buckets C K

  pos : (i : ℕ) → 0 < K ^ i
  pos i = one-le-pow i K (omega arith)

  -- a bucket of K^j keys is K segments
  segments : (j : ℕ) → 1 ≤ j → K ^ j ≡ K * K ^ (j - 1)
  segments zero l = absurd (omega arith)
  segments (suc i) l = let e : suc i - 1 ≡ i = omega arith in rw (e, pow-suc) (omega arith)

  total_two : (i : ℕ) → 1 ≤ i → K ^ i ≤ total (two_level n C K) i
  unfolding total two_level
  total_two zero l = absurd (omega arith)
  total_two (suc i) l = omega arith

  pub lawful_two : C ≤ 1048575 → Lawful (two_level n C K) C K
  unfolding two_level two_level_buckets
  lawful_two few = record {
    two = omega arith;
    sizes = pos;
    holds = λ j u x l h le r. rw (lt-ltb j B h)
        (omega (arith, part_wide K u (pos (j - 1)) x le (omega (arith, segments j (omega arith))), total_two (j - 1) (omega arith)));
    holds_last = omega (
      arith,
      ceil_log_enough K C two few,
      total_two (B - 1) (omega arith),
      pow-le-pow_right {n = K} (omega arith) {i = ceil_log K (C + 1)} {j = B - 1} (omega arith),
    );
    low = λ j u x l le r. elim (split j B) [
      | inl h ↦ rw (lt-ltb j B h) (omega (arith, part_low K u (pos (j - 1)) x le (omega (arith, r h, segments j l))))
      | inr h ↦ rw (le-ltb j B h) (omega arith)
    ];
    rising = λ j u x y le. elim (split j B) [
      | inl h ↦ rw (lt-ltb j B h) (part_rising K u (pos (j - 1)) x y le)
      | inr h ↦ rw (le-ltb j B h) (omega arith)
    ];
    inside = λ j u x l h le r. rw (lt-ltb j B h) (part_inside K u (pos (j - 1)) x le (omega (arith, segments j l)));
    above = λ j u x y le some less. elim (split j B) [
      | inl h ↦ rw (lt-ltb j B h) (part_above K u (pos (j - 1)) x y le some (rw (lt-ltb j B h) at less))
      | inr h ↦ let f = rw (le-ltb j B h) at less in absurd (omega arith)
    ];
    single = λ u x le r. rw (lt-ltb 1 B (omega arith))
        (omega (arith, pow-zero K, part_wide K u (pos (1 - 1)) x le (omega (arith, segments 1 (omega arith)))));
    end_low = λ j u k. elim (split j B) [ inl h ↦ rw (lt-ltb j B h) (omega arith) | inr h ↦ rw (le-ltb j B h) (omega arith) ];
    end_last = λ j u k h. rw (le-ltb j B h);
    looked = λ j u x. elim (split j B) [ inl h ↦ rw (lt-ltb j B h) (omega arith) | inr h ↦ rw (le-ltb j B h) (omega arith) ];
  }
