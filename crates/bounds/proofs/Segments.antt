-- The segment of a key and the upper end of a segment, by whether the bucket has more than one (document 01, "Two-level heap").
use Prim.Native.Nat.{ℕ, ◌+◌, ◌-◌, ◌*◌, ◌/◌, ◌≤◌, ◌<◌}
use native.Mathlib.Nat.{le-mul_of_pos_right}
use native.Mathlib.Omega.{arith}
use mathlib.Core.Path.{◌≡◌, ap, ◌∙◌}
use mathlib.Core.Bool.{Bool, true, false, cond, ◌&&◌}
use mathlib.Core.List.{List}
use lib.Arith.{digits_div}
use lib.Dec.{ltb}
use borrow.Author.Tests.{ltb-true}
use Rattle.bounds.specs.Words.{Sized, size_of, segmented, segment_number, segment_end, in_segment}

pub segmented_below : (B K i : ℕ) → segmented B K i ≡ true → i < B
segmented_below B K i e = go (ltb 1 K) e
  where
    go : (t : Bool) → t && ltb i B ≡ true → i < B
    go true e = ltb-true i B e
    go false e = let z : ◌≡◌ {A = ℕ} 0 1 = cc in absurd (omega arith)

-- A segment of a bucket that has more than one is not empty.
pub width_positive : (B K i : ℕ) (sizes : List ℕ) → Sized B sizes → segmented B K i ≡ true → 0 < size_of sizes (i - 1)
width_positive B K i sizes sized e = sized.positive (i - 1) (omega (arith, segmented_below B K i e))

-- So there are at least as many keys in some segments as segments.
pub segments_left_most : (B K i k : ℕ) (sizes : List ℕ) → Sized B sizes → segmented B K i ≡ true → K - k ≤ (K - k) * size_of sizes (i - 1)
segments_left_most B K i k sizes sized e = le-mul_of_pos_right (K - k) (width_positive B K i sizes sized e)

module _ (B K : ℕ) (sizes : List ℕ) (i u : ℕ) where
  pub number_inside : (x : ℕ) → segmented B K i ≡ true → segment_number B K sizes i u x ≡ K - (u - x) / size_of sizes (i - 1)
  unfolding segment_number
  number_inside x e = rw e

  pub number_whole : (x : ℕ) → segmented B K i ≡ false → segment_number B K sizes i u x ≡ 1
  unfolding segment_number
  number_whole x e = rw e

  -- No segment has a number above K.
  pub number_most : (x : ℕ) → 1 ≤ K → segment_number B K sizes i u x ≤ K
  unfolding segment_number
  number_most x h = go (segmented B K i)
    where
      go : (t : Bool) → cond t (K - (u - x) / size_of sizes (i - 1)) 1 ≤ K
      go true = omega arith
      go false = h

  pub end_inside : (k : ℕ) → segmented B K i ≡ true → segment_end B K sizes i u k ≡ u - (K - k) * size_of sizes (i - 1)
  unfolding segment_end
  end_inside k e = rw e

  pub end_whole : (k : ℕ) → segmented B K i ≡ false → segment_end B K sizes i u k ≡ u
  unfolding segment_end
  end_whole k e = rw e

  -- No segment ends above its bucket.
  pub end_most : (k : ℕ) → segment_end B K sizes i u k ≤ u
  unfolding segment_end
  end_most k = go (segmented B K i)
    where
      go : (t : Bool) → cond t (u - (K - k) * size_of sizes (i - 1)) u ≤ u
      go true = omega arith
      go false = omega arith

  pub in_inside : (k x : ℕ) → segmented B K i ≡ true → in_segment B K sizes i u k x ≡ ltb (segment_end B K sizes i u k - x) (size_of sizes (i - 1))
  unfolding in_segment
  in_inside k x e = rw e

  pub in_whole : (k x : ℕ) → segmented B K i ≡ false → in_segment B K sizes i u k x ≡ true
  unfolding in_segment
  in_whole k x e = rw e

  -- A key below the end of a segment, by less than a segment's width, is in it.
  pub number_near : (x k : ℕ) → segmented B K i ≡ true → k ≤ K → x < segment_end B K sizes i u k → segment_end B K sizes i u k - x < size_of sizes (i - 1)
      → segment_number B K sizes i u x ≡ k
  number_near x k s most under near =
      let w : ℕ = size_of sizes (i - 1) in
      let e = end_inside k s in
      let d : u - x ≡ (K - k) * w + (u - (K - k) * w - x) = omega (arith, e) in
      let q : ((K - k) * w + (u - (K - k) * w - x)) / w ≡ K - k = digits_div (K - k) (omega (arith, e)) in
      number_inside x s ∙ ap (λ (t : ℕ). K - t / w) d ∙ ap (λ (t : ℕ). K - t) q ∙ omega arith
