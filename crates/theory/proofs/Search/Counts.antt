-- What is counted of a search: its roster lists each reached node once, by nondecreasing distance; each of them is inserted
-- once; and the decreases are at most m + 1 - r, for r reached nodes and m arcs.
use Prim.Native.Nat.{ℕ, ◌+◌, ◌≤◌}
use mathlib.Core.Path.{◌≡◌, refl}
use mathlib.Core.Logic.{◌≢◌}
use native.Mathlib.Omega.{arith}
use lib.ListN.{length}
use Rattle.theory.specs.Network.{Link, Network, Path, Admissible}
use Rattle.theory.specs.Search.{Mark, unlabelled, labelled, scanned, Search, mark, distance, search}
use Rattle.theory.specs.Demands.{Roster}
use Rattle.theory.proofs.Sums.{sum_same, sum_mono, sum_ones}
use Rattle.theory.proofs.Search.Invariant.{known_low, scans_few}
use Rattle.theory.specs.Invariants.{scans, known, links_of, SearchInv}
use Rattle.theory.proofs.Search.Ends.{Ended, search_ends}
use Rattle.theory.proofs.Search.Cheapest.{path_scanned, scanned_path}

pub record SearchCounts (N : Network) (m : ℕ) (s : Search) : Type 0 where
  pub roster : Roster (λ v. (c : ℕ) × Path N v c) s.distances s.roster
  pub few : length s.roster ≤ N.nodes
  pub insertions : s.insertions ≡ length s.roster
  pub decreases : s.decreases + length s.roster ≤ m + 1

-- The links of the scanned nodes are no more than the links.
pub links_of_le : (N : Network) (v : ℕ) (k : Mark) → links_of N v k ≤ length (N.out v)
links_of_le N v unlabelled = omega arith
links_of_le N v labelled = omega arith
links_of_le N v scanned = omega arith

-- At any time the insertions are no more than the nodes, and the decreases no more than the arcs and one.
pub updates_few : {N : Network} {C m front left : ℕ} {Left : ℕ → Link → Type 0} {s : Search} → Admissible N C m → SearchInv N C front Left left s
    → (s.insertions ≤ 4096) × (s.decreases ≤ 65537)
updates_few {N} {s = s} A inv =
    let i = inv.insertions_count in
    let a = sum_mono N.nodes (λ v. known (mark s v)) (λ v. 1) (λ v _. known_low (mark s v)) in
    let b = sum_mono N.nodes (λ v. links_of N v (mark s v)) (λ v. length (N.out v)) (λ v _. links_of_le N v (mark s v)) in
    (omega (arith, sum_ones N.nodes, A.few_nodes), omega (arith, inv.updates_count, A.links, A.few_arcs))

-- Where nothing is labelled, as many nodes are scanned as are known.
known_scans : (k : Mark) → k ≢ labelled → known k ≡ scans k
known_scans unlabelled n = refl
known_scans labelled n = absurd (n refl)
known_scans scanned n = refl

module _ {N : Network} {C m : ℕ} {Kept : Search → Type 0} {s : Search} (A : Admissible N C m) (E : Ended N C Kept s) where
  inserted_all : s.insertions ≡ length s.roster
  inserted_all = omega (
    arith,
    E.inv.insertions_count,
    E.inv.scans_count,
    sum_same N.nodes (λ v. known (mark s v)) (λ v. scans (mark s v)) (λ v _. known_scans (mark s v) (E.over v)),
  )

  pub ended_counted : SearchCounts N m s
  ended_counted = record {
    roster = record {
      listed = λ v r. (distance s v, scanned_path E v (E.inv.rostered v r));
      complete = λ v r. E.inv.listed v (path_scanned E r.1).0;
      distinct = E.inv.distinct;
      farthest = E.front;
      rising = E.inv.rising;
    };
    few = scans_few E.inv;
    insertions = inserted_all;
    decreases = omega (
      arith,
      inserted_all,
      E.inv.updates_count,
      A.links,
      sum_mono N.nodes (λ v. links_of N v (mark s v)) (λ v. length (N.out v)) (λ v _. links_of_le N v (mark s v)),
    );
  }

pub search_counted : {N : Network} {C m : ℕ} → Admissible N C m → SearchCounts N m (search N)
search_counted A = ended_counted A (search_ends A)
