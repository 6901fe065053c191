-- The heap operations that an accepted run gives back, and their bound; no accepted run, to a destination neither, exceeds the bounds of its
-- size. Assumes nothing.
use Prim.Native.Nat.{ℕ, ◌+◌, ◌-◌, ◌*◌, ◌≤◌}
use native.Mathlib.Omega.{arith}
use native.Mathlib.Nat.{mul-le-mul, le_refl}
use mathlib.Core.Path.{◌≡◌, ◌∙◌, ap, subst}
use mathlib.Core.List.Memᴰ
use mathlib.Core.List.{List, [], ◌∷◌, Memᴰ}
use lib.ListN.{length}
use Rattle.model.specs.Answers.{Check, RunAnswer, Numbers, numbers_of}
use Rattle.std.specs.Prelude.{Ok}
use Rattle.theory.specs.Maps.{Map, arcs, Route}
use Rattle.theory.specs.Runs.{Inputs, heap_buckets, removal_looks, steps_of}
use Rattle.theory.specs.declared.Levels.{Levels}
use Rattle.theory.specs.declared.Levels.TheVariants.{One, Two}
use Rattle.theory.specs.Heap.{Heap, placements}
use Rattle.theory.specs.Demands.{operations, OperationsBounded, BoundedCounts}
use Rattle.checks.specs.Checks.{first_fault, run_checks}
use Rattle.runs.specs.Promise.{Lent, lengths_of, run_numbers, Ran, Promised}
use Rattle.reversal.specs.Reversed.{reversed}
use Rattle.destination_checks.specs.Destination.{checks_to}
use Rattle.destination.specs.Promise.{LentTo, lengths_to, RanTo, PromisedTo}
use Rattle.budgets.specs.Budget.{most_reached, most_decreases, most_placements, most_looks, most_reads, most_operations, operations_of, Within}
use Rattle.budgets.proofs.Sizing.{one_some, two_some}

some_listed : {v : ℕ} (l : List ℕ) → Memᴰ v l → 1 ≤ length l
some_listed [] m = absurd (Memᴰ.not-nil m)
some_listed (x ∷ l) m = omega arith

buckets_some : (L : Levels) (C : ℕ) → 1 ≤ heap_buckets L C
buckets_some One C = one_some C
buckets_some (Two K) C = two_some C K

-- A bound for r reached nodes, of which there are at most R, as one for R.
for_most : (number r R k less rest : ℕ) → less ≤ k → r ≤ R → number + less * r ≤ r * k + rest → number ≤ R * (k - less) + rest
for_most number r R k less rest some few bound =
    let split : r * k ≡ r * (k - less) + less * r = let e : k ≡ k - less + less = omega arith in ap (λ (j : ℕ). r * j) e ∙ omega arith in
    let most : r * (k - less) ≤ R * (k - less) = mul-le-mul few (le_refl (k - less)) in
    omega (arith, bound)

module _ {M : Map} {source B L : ℕ} {h : Heap} (counts : BoundedCounts M source B L h) (some : 1 ≤ B) where
  abbrev r : ℕ
  r = length h.search.roster

  abbrev R : ℕ
  R = most_reached M.nodes (arcs M)

  reached : r ≤ R
  reached = omega (arith, counts.few, counts.decreases)

  decreases_within : h.search.decreases ≤ most_decreases (arcs M)
  decreases_within = omega (arith, counts.decreases, some_listed h.search.roster (counts.roster.complete source ([], Route.here)))

  placements_within : placements h ≤ most_placements M.nodes (arcs M) B
  placements_within = omega (arith, for_most (placements h) r R B 1 (arcs M + 1) some reached (omega (arith, counts.placed)))

  looks_within : h.looks ≤ most_looks M.nodes (arcs M) L
  looks_within = let most : r * L ≤ R * L = mul-le-mul reached (le_refl L) in omega (arith, counts.looked)

  reads_within : h.reads ≤ most_reads M.nodes (arcs M) B
  reads_within = omega (arith, for_most h.reads r R B 1 (2 * placements h) some reached (omega (arith, counts.read)), placements_within)

  operations_within : operations h ≤ most_operations M.nodes (arcs M) B L
  operations_within =
      omega (arith, for_most (operations h) r R (4 * B + L) 4 (3 * arcs M + 3) (omega (arith, some)) reached (omega (arith, counts.operated)))

-- The most heap operations in document 01's B and K: with R nodes reached at the most, R (5 B - 4) + 3 m + 3 and R (5 B + K - 4) + 3 m + 3.
pub one_level_most_operations : (n m B : ℕ) → most_operations n m B B ≡ most_reached n m * (5 * B - 4) + 3 * m + 3
one_level_most_operations n m B = let e : 4 * B + B - 4 ≡ 5 * B - 4 = omega arith in ap (λ (k : ℕ). most_reached n m * k + 3 * m + 3) e

pub two_level_most_operations : (n m B K : ℕ) → most_operations n m B (B + K) ≡ most_reached n m * (5 * B + K - 4) + 3 * m + 3
two_level_most_operations n m B K =
    let e : 4 * B + (B + K) - 4 ≡ 5 * B + K - 4 = omega arith in ap (λ (k : ℕ). most_reached n m * k + 3 * m + 3) e

-- The numbers of the steps h, as an accepted run gives them back.
module _ {M : Map} {source B L : ℕ} {h : Heap} {numbers : Numbers} (counts : BoundedCounts M source B L h) (some : 1 ≤ B)
    (told : numbers ≡ run_numbers (Ok tt) B h) where
  told_operations : operations_of numbers.counts ≡ operations h
  told_operations = ap (λ (n : Numbers). operations_of n.counts) told

  told_bounded : OperationsBounded (operations_of numbers.counts) numbers.reached (arcs M) B L
  told_bounded = rw told counts.operated

  told_within : Within M.nodes (arcs M) B L numbers
  told_within = record {
    buckets = ap (λ (n : Numbers). n.buckets) told;
    decreases = omega (arith, ap (λ (n : Numbers). n.counts.decreases) told, decreases_within counts some);
    placements = omega (arith, ap (λ (n : Numbers). n.counts.placements) told, placements_within counts some);
    looks = omega (arith, ap (λ (n : Numbers). n.counts.looks) told, looks_within counts some);
    reads = omega (arith, ap (λ (n : Numbers). n.counts.reads) told, reads_within counts some);
    operations = omega (arith, told_operations, operations_within counts some);
  }

-- Of a run that has passed its checks.
module _ (L : Levels) (I : Inputs) (l l' : Lent) {answer : RunAnswer}
    (passed : first_fault (run_checks L I (lengths_of l)) ≡ Ok tt) (promised : Promised L I answer l l') where
  accepted : Ran L I (Ok tt) answer l l'
  accepted = subst (λ (k : Check). Ran L I k answer l l') passed promised

  -- The heap operations given back are those of the steps.
  pub operations_given : operations_of (numbers_of answer).counts ≡ operations (steps_of L I)
  operations_given = told_operations accepted.demanded.counts (buckets_some L I.ceiling) accepted.numbers

  -- The bound of a run by the nodes that it has reached: r (4 B + L) + 3 m - 4 r + 3.
  pub run_operations : OperationsBounded (operations_of (numbers_of answer).counts) (numbers_of answer).reached (arcs I.map)
      (heap_buckets L I.ceiling) (removal_looks L I.ceiling)
  run_operations = told_bounded accepted.demanded.counts (buckets_some L I.ceiling) accepted.numbers

  pub run_within : Within I.map.nodes (arcs I.map) (heap_buckets L I.ceiling) (removal_looks L I.ceiling) (numbers_of answer)
  run_within = told_within accepted.demanded.counts (buckets_some L I.ceiling) accepted.numbers

-- Of a run to a destination that has passed its checks: the same bounds, with the map's own n and m (document 02, paper 7).
module _ (L : Levels) (I : Inputs) (l l' : LentTo) {answer : RunAnswer}
    (passed : first_fault (checks_to L I (lengths_to l)) ≡ Ok tt) (promised : PromisedTo L I answer l l') where
  accepted_to : RanTo L I (Ok tt) answer l l'
  accepted_to = subst (λ (k : Check). RanTo L I k answer l l') passed promised

  pub run_to_operations : OperationsBounded (operations_of (numbers_of answer).counts) (numbers_of answer).reached (arcs I.map)
      (heap_buckets L I.ceiling) (removal_looks L I.ceiling)
  run_to_operations =
      subst (λ (m : ℕ). OperationsBounded (operations_of (numbers_of answer).counts) (numbers_of answer).reached m (heap_buckets L I.ceiling) (removal_looks L I.ceiling))
      accepted_to.demanded.same_arcs
      (told_bounded accepted_to.demanded.counts (buckets_some L I.ceiling) accepted_to.numbers)

  pub run_to_within : Within I.map.nodes (arcs I.map) (heap_buckets L I.ceiling) (removal_looks L I.ceiling) (numbers_of answer)
  unfolding reversed
  run_to_within =
      subst (λ (m : ℕ). Within I.map.nodes m (heap_buckets L I.ceiling) (removal_looks L I.ceiling) (numbers_of answer))
      accepted_to.demanded.same_arcs
      (told_within accepted_to.demanded.counts (buckets_some L I.ceiling) accepted_to.numbers)
