-- What a shape must satisfy for the heap's theory, which is proved once for every such shape (document 000, inequality (1)).
use Rattle.std.specs.Prelude.{ℕ, zero, suc, ◌+◌, ◌-◌, ◌≤◌, ◌<◌, ◌≡◌}
use Rattle.theory.specs.Shape.{Shape}

-- size(1) + .. + size(i).
unfoldable pub total : Shape → ℕ → ℕ
total sh zero = 0
total sh (suc i) = total sh i + sh.size (suc i)

-- A lawful shape, for costs of at most C and at most S looks at segments in a removal. The laws speak of a key x in a bucket j
-- whose bound is u and which is not the last, where it stands within the bucket's size: u - size(j) < x ≤ u.
pub record Lawful (sh : Shape) (C S : ℕ) : Type 0 where
  pub two : 2 ≤ sh.buckets
  pub sizes : (i : ℕ) → 0 < sh.size i
  -- inequality (1): the buckets below j have room for the segment of x, and those below the last for all that is labelled at once
  pub holds : (j u x : ℕ) → 1 < j → j < sh.buckets → x ≤ u → u < x + sh.size j
      → sh.end j u (sh.segment j u x) < x + total sh (j - 1)
  pub holds_last : C < total sh (sh.buckets - 1)
  -- segments are numbered from 1 up as the keys rise; a key is at most the end of its segment, and above the ends of lower ones
  pub low : (j u x : ℕ) → 1 ≤ j → x ≤ u → (j < sh.buckets → u < x + sh.size j) → 1 ≤ sh.segment j u x
  pub rising : (j u x y : ℕ) → x ≤ y → sh.segment j u x ≤ sh.segment j u y
  pub inside : (j u x : ℕ) → 1 ≤ j → j < sh.buckets → x ≤ u → u < x + sh.size j → x ≤ sh.end j u (sh.segment j u x)
  pub above : (j u x y : ℕ) → y ≤ u → 0 < y → sh.segment j u x < sh.segment j u y → sh.end j u (sh.segment j u x) < y
  -- a segment of bucket 1 is a single key; the last bucket is a single segment
  pub single : (u x : ℕ) → x ≤ u → u < x + sh.size 1 → sh.end 1 u (sh.segment 1 u x) ≤ x
  pub end_low : (j u k : ℕ) → sh.end j u k ≤ u
  pub end_last : (j u k : ℕ) → sh.buckets ≤ j → sh.end j u k ≡ u
  pub looked : (j u x : ℕ) → sh.looks (sh.segment j u x) ≤ S
