-- The test of one start, and starts that pass it at every index. Assumes nothing.
use mathlib.Core.Path.{◌≡◌, ap, ◌∙◌}
use mathlib.Core.Bool.{false, not, ◌&&◌, ◌||◌}
use mathlib.Core.List.{List}
use Prim.Native.Nat.{ℕ, zero, suc, ◌+◌, ◌-◌, ◌≤◌, ◌<◌}
use native.Mathlib.Nat.{add-zero, le_refl, le_trans}
use native.Mathlib.Omega.{arith}
use lib.Dec.{ltb, eqb}
use lib.ListN.{length, get_or}
use borrow.Author.Tests.{ltb-true, ltb-false, eqb-true, not-false, lt-ltb, le-ltb, eq-eqb, ne_eqb}
use Rattle.std.specs.Prelude.{Ok}
use Rattle.check_lists.specs.Lists.{start_fails, starts_check, NoneFalls}
use Rattle.check_lists.proofs.Least.{each_passes, passed_each}
use Rattle.check_lists.proofs.Tests.{or_left, or_right, or_neither, or_turned, or_false, and_second, and_not}

module _ (n m : ℕ) (starts : List ℕ) (i : ℕ) where
  -- the tests that every index has, before the one that the first or a later index has
  pub at_first : i ≡ 0
      → (ltb m (get_or starts i 0) || eqb i n && not (eqb (get_or starts i 0) m) || not (eqb (get_or starts i 0) 0)) ≡ start_fails n m starts i
  unfolding start_fails
  at_first e =
      rw (eq-eqb i 0 e, le-ltb 0 i (omega arith))
      (or_turned (not (eqb (get_or starts i 0) 0)) (ltb m (get_or starts i 0)) (eqb i n && not (eqb (get_or starts i 0) m))
      ∙ rw or_false)

  pub at_later : 0 < i
      → (ltb m (get_or starts i 0) || eqb i n && not (eqb (get_or starts i 0) m) || ltb (get_or starts i 0) (get_or starts (i - 1) 0))
      ≡ start_fails n m starts i
  unfolding start_fails
  at_later h =
      rw (ne_eqb i 0 (omega arith), lt-ltb 0 i h)
      (or_turned (ltb (get_or starts i 0) (get_or starts (i - 1) 0)) (ltb m (get_or starts i 0)) (eqb i n && not (eqb (get_or starts i 0) m)))

  -- what a start has to be
  pub record Fits : Type 0 where
    pub first : i ≡ 0 → get_or starts i 0 ≡ 0
    pub rises : 0 < i → get_or starts (i - 1) 0 ≤ get_or starts i 0
    pub most : get_or starts i 0 ≤ m
    pub last : i ≡ n → get_or starts i 0 ≡ m

  pub fits_passes : Fits → start_fails n m starts i ≡ false
  unfolding start_fails
  fits_passes fits =
      let start = get_or starts i 0 in
      let before = get_or starts (i - 1) 0 in
      or_neither _ _
      (or_neither _ _
      (or_neither _ _
      (and_not (eqb i 0) (not (eqb start 0)) (λ e. ap not (eq-eqb start 0 (fits.first (eqb-true i 0 e)))))
      (and_not (ltb 0 i) (ltb start before) (λ e. le-ltb start before (fits.rises (ltb-true 0 i e)))))
      (le-ltb m start fits.most))
      (and_not (eqb i n) (not (eqb start m)) (λ e. ap not (eq-eqb start m (fits.last (eqb-true i n e)))))

  pub passes_fits : start_fails n m starts i ≡ false → Fits
  unfolding start_fails
  passes_fits e =
      let start = get_or starts i 0 in
      let before = get_or starts (i - 1) 0 in
      let at-start = eqb i 0 && not (eqb start 0) in
      let falls = ltb 0 i && ltb start before in
      let at-end = eqb i n && not (eqb start m) in
      let inner = or_left (at-start || falls || ltb m start) at-end e in
      let order = or_left (at-start || falls) (ltb m start) inner in
      let first = and_second (eqb i 0) (not (eqb start 0)) (or_left at-start falls order) in
      let rises = and_second (ltb 0 i) (ltb start before) (or_right at-start falls order) in
      let last = and_second (eqb i n) (not (eqb start m)) (or_right (at-start || falls || ltb m start) at-end e) in
      record {
        first = λ z. eqb-true start 0 (not-false (eqb start 0) (first (eq-eqb i 0 z)));
        rises = λ l. ltb-false start before (rises (lt-ltb 0 i l));
        most = ltb-false m start (or_right (at-start || falls) (ltb m start) inner);
        last = λ z. eqb-true start m (not-false (eqb start m) (last (eq-eqb i n z)));
      }

module _ (n m : ℕ) (starts : List ℕ) where
  up_to : (long : length starts ≡ n + 1) → NoneFalls starts → (k d : ℕ) → k + d ≤ n → get_or starts k 0 ≤ get_or starts (k + d) 0
  up_to long rise k zero h = rw add-zero (le_refl _)
  up_to long rise k (suc d) h =
      let e : k + suc d - 1 ≡ k + d = omega arith in
      le_trans (up_to long rise k d (omega arith)) (rw e at (rise (k + suc d) (omega arith) (omega arith)))

  pub rise_passes : length starts ≡ n + 1 → get_or starts 0 0 ≡ 0 → get_or starts n 0 ≡ m → NoneFalls starts → starts_check n m starts ≡ Ok tt
  unfolding starts_check
  rise_passes long first last rise = each_passes _ (start_fails n m starts) (n + 1) (λ k l. fits_passes n m starts k (fits k l))
    where
      fits : (k : ℕ) → k < n + 1 → Fits n m starts k
      fits k l =
          let e : k + (n - k) ≡ n = omega arith in
          record {
            first = λ z. rw z first;
            rises = rise k (omega arith);
            most = omega (arith, rw (e, last) at (up_to long rise k (n - k) (omega arith)));
            last = λ z. rw z last;
          }

  pub passed_fits : starts_check n m starts ≡ Ok tt → (k : ℕ) → k < n + 1 → Fits n m starts k
  unfolding starts_check
  passed_fits e k l = passes_fits n m starts k (passed_each _ (start_fails n m starts) (n + 1) k e l)
