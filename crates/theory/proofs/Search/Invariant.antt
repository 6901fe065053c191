-- What holds of a search between two removals, and between two links of a scan.
use Prim.Native.Nat.{ℕ, ◌+◌, ◌*◌, ◌≤◌, ◌<◌}
use mathlib.Core.Path.{◌≡◌, sym, ◌∙◌}
use mathlib.Core.Logic.{◌≢◌}
use native.Mathlib.Nat.{mul-le-mul_right}
use native.Mathlib.Omega.{arith}
use lib.ListN.{length}
use Rattle.theory.specs.Sums.{sum_below}
use Rattle.theory.specs.Maps.{none}
use Rattle.theory.specs.Network.{Link, Network, SpelledPath, Admissible}
use Rattle.theory.specs.Search.{Mark, unlabelled, labelled, scanned, Search, mark, distance}
use Rattle.theory.specs.Invariants.{scans, known, Tree, SearchInv}
use Rattle.theory.proofs.Cases.{mark_cases}
use Rattle.theory.proofs.Sums.{sum_add, sum_same, sum_ones, sum_at}
use Rattle.theory.proofs.Search.Nearest.{labelled_inside}

pub known_low : (m : Mark) → known m ≤ 1
known_low unlabelled = omega arith
known_low labelled = omega arith
known_low scanned = omega arith

-- What the parents spell.
pub tree_spelled : {N : Network} {s : Search} {v : ℕ} → distance s N.source ≡ 0 → Tree N s v → SpelledPath N s.parents v (distance s v)
tree_spelled z Tree.here = rw z SpelledPath.here
tree_spelled z (Tree.on r k l m arc apart sum) = rw sum at (SpelledPath.on (tree_spelled z r) l m arc apart)

-- The nodes that are not scanned.
unscanned : Mark → ℕ
unscanned unlabelled = 1
unscanned labelled = 1
unscanned scanned = 0

either : (m : Mark) → scans m + unscanned m ≡ 1
unfolding unscanned
either unlabelled = omega arith
either labelled = omega arith
either scanned = omega arith

all_marks : (s : Search) (n : ℕ) → sum_below n (λ v. scans (mark s v)) + sum_below n (λ v. unscanned (mark s v)) ≡ n
all_marks s n =
    sym (sum_add n (λ v. scans (mark s v)) (λ v. unscanned (mark s v)))
    ∙ sum_same n (λ v. scans (mark s v) + unscanned (mark s v)) (λ v. 1) (λ v h. either (mark s v))
    ∙ sum_ones n

module _ {N : Network} {C front n : ℕ} {Left : ℕ → Link → Type 0} {s : Search} (I : SearchInv N C front Left n s) where
  pub known_spelled : (v : ℕ) → mark s v ≢ unlabelled → SpelledPath N s.parents v (distance s v)
  known_spelled v k = tree_spelled I.source_zero (I.tree v k)

  pub labelled_node : (v : ℕ) → mark s v ≡ labelled → v < N.nodes
  labelled_node v k = omega (arith, I.marks_length, labelled_inside s v k)

  -- There are no more scanned nodes than nodes, and fewer where a node is labelled.
  pub scans_few : length s.roster ≤ N.nodes
  scans_few = omega (arith, I.scans_count, all_marks s N.nodes)

  pub scans_fewer : (v : ℕ) → mark s v ≡ labelled → length s.roster < N.nodes
  unfolding unscanned
  scans_fewer v k =
      let h = sum_at N.nodes v (λ v. unscanned (mark s v)) (labelled_node v k) in
      omega (arith, I.scans_count, all_marks s N.nodes, rw k at h)

  -- A known distance is at most (the number of nodes - 1) * C, and so is not none.
  pub known_few : (v : ℕ) → mark s v ≢ unlabelled → distance s v + C ≤ N.nodes * C
  known_few v k = mark_cases (mark s v) (λ e. absurd (k e))
      (λ e. omega (arith, I.small v k, mul-le-mul_right C (scans_fewer v e)))
      (λ e. omega (arith, I.smaller v e, mul-le-mul_right C scans_few))

-- No sum passes the largest bound, nC, which is below none.
pub sums_finite : {N : Network} {C m : ℕ} → Admissible N C m → N.nodes * C < none
sums_finite {N} {C} A = omega (arith, mul-le-mul_right C A.few_nodes, A.low_ceiling)

pub known_finite : {N : Network} {C front n m : ℕ} {Left : ℕ → Link → Type 0} {s : Search} → Admissible N C m
    → SearchInv N C front Left n s → (v : ℕ) → mark s v ≢ unlabelled → distance s v < none
known_finite A I v k = omega (arith, known_few I v k, sums_finite A)
