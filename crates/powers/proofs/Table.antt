-- Each row is a part of the table, with zeros behind it: the one test over all rows, carried to each of them. Assumes nothing.
use mathlib.Core.Path.{◌≡◌, refl, ap₂}
use mathlib.Core.Bool.{Bool, true, false, ◌&&◌}
use mathlib.Core.List.{List, [], ◌∷◌}
use Prim.Native.Nat.{ℕ, zero, suc, ◌+◌, ◌-◌, ◌≤◌, ◌<◌}
use native.Mathlib.Nat.{add-zero}
use native.Mathlib.Omega.{arith}
use lib.Dec.{T, eqb, leb, eqb→eq, leb→le}
use lib.ListN.{length, take, drop}
use Rattle.powers.specs.Powers.{power_row}
use Rattle.powers.specs.Stored.{padded, row_start, row_end, equal_lists, part_stands, rows_stand}

both : (a b : Bool) → T (a && b) → T a × T b
both true b t = (tt, t)
both false b t = absurd t

equal_is : (xs ys : List ℕ) → T (equal_lists xs ys) → xs ≡ ys
equal_is [] [] t = refl
equal_is [] (y ∷ ys) t = absurd t
equal_is (x ∷ xs) [] t = absurd t
equal_is (x ∷ xs) (y ∷ ys) t =
    let p = both (eqb x y) (equal_lists xs ys) t in
    ap₂ ◌∷◌ (eqb→eq x y p.0) (equal_is xs ys p.1)

-- ---- what the test shows of one row

pub record Row (table : List ℕ) (first last K : ℕ) : Type 0 where
  pub rising : first ≤ last
  pub within : last ≤ length table
  pub short : last - first ≤ 21
  pub is : padded (take (last - first) (drop first table)) ≡ power_row K

row : (table : List ℕ) (first last K : ℕ) → T (part_stands table first last K) → Row table first last K
row table first last K t =
    let rises = leb first last in
    let ends = leb last (length table) in
    let fits = leb (last - first) 21 in
    let equal = equal_lists (padded (take (last - first) (drop first table))) (power_row K) in
    let p = both rises (ends && (fits && equal)) t in
    let q = both ends (fits && equal) p.1 in
    let r = both fits equal q.1 in
    record {
      rising = leb→le first last p.0;
      within = leb→le last (length table) q.0;
      short = leb→le (last - first) 21 r.0;
      is = equal_is (padded (take (last - first) (drop first table))) (power_row K) r.1;
    }

-- ---- the row of each K

stands : (table starts : List ℕ) (K count k : ℕ) → T (rows_stand table starts K count) → k < count
    → T (part_stands table (row_start starts (K + k)) (row_end starts (K + k)) (K + k))
stands table starts K zero k t h = absurd (omega arith)
stands table starts K (suc count) zero t h =
    rw add-zero (both (part_stands table (row_start starts K) (row_end starts K) K) (rows_stand table starts (suc K) count) t).0
stands table starts K (suc count) (suc k) t h =
    let here = part_stands table (row_start starts K) (row_end starts K) K in
    let e : K + suc k ≡ suc K + k = omega arith in
    rw e (stands table starts (suc K) count k (both here (rows_stand table starts (suc K) count) t).1 (omega arith))

pub row_in : (table starts : List ℕ) → T (rows_stand table starts 2 63) → (K : ℕ) → 2 ≤ K → K ≤ 64
    → Row table (row_start starts K) (row_end starts K) K
row_in table starts t K low high =
    let e : 2 + (K - 2) ≡ K = omega arith in
    row table (row_start starts K) (row_end starts K) K (rw e at (stands table starts 2 63 (K - 2) t (omega arith)))
