-- The bounds u(1) to u(B) of a radix heap and the sizes of its buckets, as they stand in lent words, for both heaps: K is the number
-- of segments of a bucket below the last, and 1 in the one-level heap (document 01, "One-level heap" and "Two-level heap").
use Rattle.std.specs.Prelude.{ℕ, ◌+◌, ◌-◌, ◌*◌, ◌/◌, ◌≤◌, ◌<◌, ◌≡◌, Bool, true, cond, ◌&&◌, List, ◌++◌, ltb, length, get_or, take, drop}
use Rattle.theory.specs.Shape.{Shape}
use Rattle.theory.specs.Heap.{rebound, bounds_from}

-- The bounds in the words of a heap of n nodes: u(i) is words[4 * n + i] (document 01, "One-level heap").
abbrev pub bounds_of : (n : ℕ) → List ℕ → List ℕ
bounds_of n w = drop (4 * n) w

-- The size of bucket i, for 1 ≤ i < B (document 01, "One-level heap" and "Two-level heap").
abbrev pub size_of : List ℕ → ℕ → ℕ
size_of sizes i = get_or sizes i 0

-- The words with u(from), .., u(to - 1) set anew up to `end`, where `before` is the bound before them (document 01, "Two-level
-- heap": a removal).
unfoldable pub rebound_words : (n : ℕ) → (sizes : List ℕ) → (end before from to : ℕ) → List ℕ → List ℕ
rebound_words n sizes end before from to w =
    take (4 * n) w ++ rebound (size_of sizes) end before from (to - from) (bounds_of n w)

-- The words with u(1) to u(B) as they are at first, and u(B) = top (document 01, "One-level heap" and "Two-level heap").
unfoldable pub first_words : (n : ℕ) → (sizes : List ℕ) → (B top : ℕ) → List ℕ → List ℕ
first_words n sizes B top w =
    take (4 * n + 1) w ++ (bounds_from (size_of sizes) top 1 0 (B - 1) ++ drop (4 * n + 1 + B) w)

-- Whether bucket i has more than one segment (document 01, "Two-level heap").
abbrev pub segmented : (B K i : ℕ) → Bool
segmented B K i = ltb 1 K && ltb i B

-- The segment of key x in bucket i whose bound is u (document 01, "Two-level heap").
unfoldable pub segment_number : (B K : ℕ) → (sizes : List ℕ) → (i u x : ℕ) → ℕ
segment_number B K sizes i u x = cond (segmented B K i) (K - (u - x) / size_of sizes (i - 1)) 1

-- The upper end of segment k of bucket i whose bound is u (document 01, "Two-level heap").
unfoldable pub segment_end : (B K : ℕ) → (sizes : List ℕ) → (i u k : ℕ) → ℕ
segment_end B K sizes i u k = cond (segmented B K i) (u - (K - k) * size_of sizes (i - 1)) u

-- The looks at segments of a removal that uses segment k (document 01, "The tallies").
unfoldable pub segment_looks : (K k : ℕ) → ℕ
segment_looks K k = cond (ltb 1 K) k 0

-- A list of sizes for B buckets, where the width of a segment of bucket i stands at i - 1 (document 01, "One-level heap" and "Two-level heap").
pub record Sized (B : ℕ) (sizes : List ℕ) : Type 0 where
  pub two : 2 ≤ B
  pub few : B ≤ 22
  pub long : length sizes ≡ 22
  pub positive : (i : ℕ) → i < B → 0 < size_of sizes i

-- Key x, which is below the upper end of segment k of bucket i whose bound is u, is above its lower end (document 01, "Two-level heap").
unfoldable pub in_segment : (B K : ℕ) → (sizes : List ℕ) → (i u k x : ℕ) → Bool
in_segment B K sizes i u k x = cond (segmented B K i) (ltb (segment_end B K sizes i u k - x) (size_of sizes (i - 1))) true

-- B, K and the list of sizes say of a heap what its shape does (document 01, "One-level heap" and "Two-level heap").
pub record Agrees (sh : Shape) (B K : ℕ) (sizes : List ℕ) : Type 0 where
  pub buckets : sh.buckets ≡ B
  pub size : (i : ℕ) → 1 ≤ i → i < B → sh.size i ≡ size_of sizes i
  pub segment : (i u x : ℕ) → sh.segment i u x ≡ segment_number B K sizes i u x
  pub end : (i u k : ℕ) → sh.end i u k ≡ segment_end B K sizes i u k
  pub looks : (k : ℕ) → sh.looks k ≡ segment_looks K k
  pub sized : Sized B sizes
  pub some : 1 ≤ K
  pub most : K ≤ 64
