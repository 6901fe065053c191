-- What the checks say that look at no word of a list. Assumes nothing.
use mathlib.Core.Path.{◌≡◌, refl, ap}
use mathlib.Core.Bool.{Bool, true, false, not, ◌||◌}
use Prim.Native.Nat.{ℕ, ◌+◌, ◌≤◌, ◌<◌}
use native.Mathlib.Omega.{arith}
use lib.Dec.{ltb, eqb}
use borrow.Author.Tests.{ltb-false, leb-false, eqb-true, not-false, le-ltb, lt-leb, eq-eqb}
use Rattle.model.specs.declared.Kind.{Kind}
use Rattle.std.specs.Prelude.{Ok}
use Rattle.check_numbers.specs.Numbers.{fault_if, ceiling_check, source_check, head_count_check, arc_count_check, start_count_check, lent_check}
use Rattle.check_lists.proofs.Tests.{or_left, or_right, or_neither}
use Rattle.checks.specs.Checks.{size_checks}
use Rattle.checks.proofs.Order.{AllPass, none, more}

-- ---- one test

pub passed_test : (kind : Kind) (place : ℕ) (fails : Bool) → fault_if kind place fails ≡ Ok tt → fails ≡ false
unfolding fault_if
passed_test kind place true e = absurd (let z : ◌≡◌ {A = ℕ} 0 1 = cc in omega arith)
passed_test kind place false e = refl

pub test_passes : (kind : Kind) (place : ℕ) {fails : Bool} → fails ≡ false → fault_if kind place fails ≡ Ok tt
unfolding fault_if
test_passes kind place e = rw e

-- ---- a range, as of 1 and 9

module _ (kind : Kind) (x low high : ℕ) where
  pub passed_range : fault_if kind 0 (ltb x low || ltb high x) ≡ Ok tt → (low ≤ x) × (x ≤ high)
  passed_range e =
      let fits = passed_test kind 0 _ e in
      (ltb-false x low (or_left (ltb x low) (ltb high x) fits), ltb-false high x (or_right (ltb x low) (ltb high x) fits))

  pub range_passes : low ≤ x → x ≤ high → fault_if kind 0 (ltb x low || ltb high x) ≡ Ok tt
  range_passes l h = test_passes kind 0 (or_neither _ _ (le-ltb x low l) (le-ltb high x h))

-- ---- the other numbers

pub passed_ceiling : (C : ℕ) → ceiling_check C ≡ Ok tt → C ≤ 1048575
passed_ceiling C e = ltb-false 1048575 C (passed_test _ 0 _ e)

pub ceiling_passes : (C : ℕ) → C ≤ 1048575 → ceiling_check C ≡ Ok tt
ceiling_passes C h = test_passes _ 0 (le-ltb 1048575 C h)

pub passed_source : (n source : ℕ) → source_check n source ≡ Ok tt → source < n
passed_source n source e = leb-false n source (passed_test _ 0 _ e)

pub source_passes : (n source : ℕ) → source < n → source_check n source ≡ Ok tt
source_passes n source h = test_passes _ 0 (lt-leb n source h)

pub passed_heads : (heads : ℕ) → head_count_check heads ≡ Ok tt → heads ≤ 65536
passed_heads heads e = ltb-false 65536 heads (passed_test _ 0 _ e)

pub passed_arcs : (heads costs : ℕ) → arc_count_check heads costs ≡ Ok tt → (heads ≤ 65536) × (heads ≡ costs)
passed_arcs heads costs e =
    let many = ltb 65536 heads in
    let same = eqb heads costs in
    let fits = passed_test _ 0 _ e in
    (ltb-false 65536 heads (or_left many (not same) fits), eqb-true heads costs (not-false same (or_right many (not same) fits)))

pub arcs_pass : (heads costs : ℕ) → heads ≤ 65536 → heads ≡ costs → arc_count_check heads costs ≡ Ok tt
arcs_pass heads costs few same = test_passes _ 0 (or_neither _ _ (le-ltb 65536 heads few) (ap not (eq-eqb heads costs same)))

pub passed_starts : (n starts : ℕ) → start_count_check n starts ≡ Ok tt → starts ≡ n + 1
passed_starts n starts e = eqb-true starts (n + 1) (not-false (eqb starts (n + 1)) (passed_test _ 0 _ e))

pub starts_pass : (n starts : ℕ) → starts ≡ n + 1 → start_count_check n starts ≡ Ok tt
starts_pass n starts e = test_passes _ 0 (ap not (eq-eqb starts (n + 1) e))

pub passed_lent : (place words needed : ℕ) → lent_check place words needed ≡ Ok tt → needed ≤ words
passed_lent place words needed e = ltb-false words needed (passed_test _ place _ e)

pub lent_passes : (place words needed : ℕ) → needed ≤ words → lent_check place words needed ≡ Ok tt
lent_passes place words needed h = test_passes _ place (le-ltb words needed h)

-- ---- what the checks of the words need

pub sized : (n C source starts heads costs : ℕ) → AllPass (size_checks n C source starts heads costs) → (0 < n) × (starts ≡ n + 1)
unfolding size_checks
sized n C source starts heads costs (more nodes (more ceiling (more from (more arcs (more words none))))) =
    (omega (arith, (passed_range _ n 1 4096 nodes).0), passed_starts n starts words)
