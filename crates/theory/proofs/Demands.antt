-- Demands 2 and 3 of both runs, for every valid map; both runs end, and give equal distances, parents, scan order and decreases.
use Prim.Native.Nat.{ℕ, ◌+◌, ◌*◌, ◌≤◌}
use native.Mathlib.Omega.{arith}
use mathlib.Core.Path.{◌≡◌, refl, sym, ◌∙◌}
use mathlib.Core.Logic.{◌≢◌}
use mathlib.Core.List.{List}
use lib.ListN.{length}
use Rattle.theory.specs.Maps.{Map, Reached, Joined, Valid, arcs}
use Rattle.theory.specs.Network.{Network, network, Path}
use Rattle.theory.specs.Search.{search}
use Rattle.theory.specs.Examined.{examined, FirstOf}
use Rattle.theory.specs.Shape.{Shape, one_level_buckets, two_level_buckets, one_level, two_level}
use Rattle.theory.specs.Heap.{nothing, pick, heap}
use Rattle.theory.specs.Runs.{Inputs, ValidInputs, Segmented, Allowed, heap_buckets, removal_looks, shape_of, steps_of}
use Rattle.theory.specs.declared.Levels.{Levels}
use Rattle.theory.specs.declared.Levels.TheVariants.{One, Two}
use Rattle.theory.specs.Demands.{CheapestPaths, CheapestRoutes, CheapestCosts, Roster, operations, Demanded}
use Rattle.theory.proofs.Search.Cheapest.{search_cheapest}
use Rattle.theory.proofs.Search.Counts.{search_counted}
use Rattle.theory.proofs.Search.First.{search_first}
use Rattle.theory.specs.Lawful.{Lawful}
use Rattle.theory.proofs.Heap.Run.{heap_search, heap_ends, heap_looks, heap_reads, heap_placed}
use Rattle.theory.proofs.Shapes.OneLevel.{lawful_one}
use Rattle.theory.proofs.Shapes.TwoLevel.{lawful_two}
use Rattle.theory.proofs.Maps.Arcs.{map_admissible}
use Rattle.theory.proofs.Maps.Routes.{path_route, source_path, spelled_route, spelled_path_route, spelled_once}

module _ {M : Map} {C source : ℕ} (valid : Valid M C source) where
  abbrev N : Network
  N = network M source

  -- A node is reached by a route exactly if it is by a path.
  path_reached : (v c : ℕ) → Path N v c → Reached M source v
  path_reached v c p = path_route p

  reached_path : (v : ℕ) → Reached M source v → (c : ℕ) × Path N v c
  reached_path v r = let q = source_path r.1 in (q.0, q.1)

  -- Cheapest paths are cheapest routes.
  pub paths_routes : (distances parents : List ℕ) → CheapestPaths N distances parents → CheapestRoutes M source distances parents
  unfolding network
  paths_routes distances parents c = record {
    distances_length = c.distances_length;
    parents_length = c.parents_length;
    spelled = λ v h n. spelled_path_route (c.spelled v h n);
    spelled_once = spelled_once valid.sound;
    spelled_route = λ v route r. spelled_route r;
    least = λ v route r. let q = source_path r in omega (arith, c.least v q.0 q.1, q.2);
    unreached = λ v h. (
      λ e r. let p = reached_path v r in (c.unreached v h).0 e p.0 p.1,
      λ no-route. (c.unreached v h).1 (λ cost p. no-route (path_reached v cost p)),
    );
    source_parent = c.source_parent;
    unreached_parent = c.unreached_parent;
  }

  -- Both demands, of the steps of any heap of a lawful shape.
  module _ {sh : Shape} {S : ℕ} (law : Lawful sh C S) (room : M.nodes * C ≤ sh.top) where
    fits : N.nodes * C ≤ sh.top
    unfolding network
    fits = room

    roster_routes : (distances roster : List ℕ) → Roster (λ v. (c : ℕ) × Path N v c) distances roster → Roster (Reached M source) distances roster
    roster_routes distances roster r = record {
      listed = λ v m. let p = r.listed v m in path_reached v p.0 p.1;
      complete = λ v q. r.complete v (reached_path v q);
      distinct = r.distinct;
      farthest = r.farthest;
      rising = r.rising;
    }

    same : (heap N sh).search ≡ search N
    same = heap_search (map_admissible valid) law fits

    pub heap_demanded : Demanded M source sh.buckets (sh.buckets + S) (heap N sh)
    heap_demanded =
        let A = map_admissible valid in
        let c = search_counted A in
        let i : (heap N sh).search.insertions ≡ length (heap N sh).search.roster = rw same c.insertions in
        let placed = heap_placed A law fits in
        let looked = heap_looks A law fits in
        let read = rw i at (heap_reads A law fits) in
        record {
          cheapest = rw same (paths_routes _ _ (search_cheapest A));
          counts = record {
            roster = rw same (roster_routes _ _ c.roster);
            few = unfold network in rw same c.few;
            insertions = i;
            decreases = rw same c.decreases;
            sum = omega (arith, i);
            placed = placed;
            looked = looked;
            read = omega (arith, read, i);
            operated = omega (arith, placed, looked, read, i);
          };
        }

    pub heap_over : pick sh (heap N sh) N.nodes ≡ nothing
    heap_over = heap_ends (map_admissible valid) law fits

  -- In either run the parent of a reached node other than the source is the first arc examined that gives its distance.
  pub run_first : (v : ℕ) → Reached M source v → v ≢ source → FirstOf (search N) (examined N (search N).roster) v
  run_first v r n = let p = reached_path v r in search_first (map_admissible valid) v p.0 p.1 (unfold network in n)

-- Cheapest routes have cheapest costs.
pub routes_costs : {M : Map} {source : ℕ} {distances parents : List ℕ} → CheapestRoutes M source distances parents
    → CheapestCosts (λ v c. Joined M source v c) M.nodes distances
routes_costs c = record {
  found = λ v h q. let s = c.spelled v h q in (s.0, c.spelled_route v s.0 s.1, s.2);
  least = λ v d j. omega (arith, c.least v j.0 j.1, j.2);
  unreached = λ v h. (
    λ e d j. (c.unreached v h).0 e (j.0, j.1),
    λ no-route. (c.unreached v h).1 (λ r. no-route _ (r.0, r.1, refl)),
  );
}

-- ---- of every kind of heap

-- The looks at segments of a removal, at the most.
abbrev pub most_segment_looks : Levels → ℕ
most_segment_looks One = 0
most_segment_looks (Two K) = K

module _ (n C : ℕ) (low : C ≤ 1048575) where
  pub lawful : (L : Levels) → Segmented L → Lawful (shape_of L n C) C (most_segment_looks L)
  lawful One s = lawful_one n C low
  lawful (Two K) s = lawful_two n C K s low

pub top_is : (L : Levels) (n C : ℕ) → (shape_of L n C).top ≡ n * C + 1
unfolding one_level two_level
top_is One n C = refl
top_is (Two K) n C = refl

buckets_are : (L : Levels) (n C : ℕ) → (shape_of L n C).buckets ≡ heap_buckets L C
unfolding one_level two_level
buckets_are One n C = refl
buckets_are (Two K) n C = refl

looks_are : (L : Levels) (C : ℕ) → heap_buckets L C + most_segment_looks L ≡ removal_looks L C
looks_are One C = omega arith
looks_are (Two K) C = refl

pub allowed_segmented : (L : Levels) → Allowed L → Segmented L
allowed_segmented One a = tt
allowed_segmented (Two K) a = a.0

module _ {I : Inputs} (valid : ValidInputs I) (L : Levels) (s : Segmented L) where
  enough : I.map.nodes * I.ceiling ≤ (shape_of L I.map.nodes I.ceiling).top
  enough = omega (arith, top_is L I.map.nodes I.ceiling)

  law : Lawful (shape_of L I.map.nodes I.ceiling) I.ceiling (most_segment_looks L)
  law = lawful I.map.nodes I.ceiling valid.low_ceiling L s

  -- Demands 2 and 3, of the steps of every run.
  pub run_demanded : Demanded I.map I.source (heap_buckets L I.ceiling) (removal_looks L I.ceiling) (steps_of L I)
  unfolding steps_of
  run_demanded = rw (buckets_are L I.map.nodes I.ceiling, looks_are L I.ceiling) at (heap_demanded valid law enough)

  pub run_search : (steps_of L I).search ≡ search (network I.map I.source)
  unfolding steps_of
  run_search = same valid law enough

  pub run_over : pick (shape_of L I.map.nodes I.ceiling) (steps_of L I) I.map.nodes ≡ nothing
  unfolding steps_of network
  run_over = heap_over valid law enough

-- Any two heaps have equal distances, parents, scan order and decreases.
pub heaps_agree : {I : Inputs} → ValidInputs I → (L L' : Levels) → Segmented L → Segmented L' → (steps_of L I).search ≡ (steps_of L' I).search
heaps_agree valid L L' s s' = run_search valid L s ∙ sym (run_search valid L' s')

-- The one-level run, and the two-level run for every K of document 01.
pub one_level_demanded : {I : Inputs} → ValidInputs I → Demanded I.map I.source (one_level_buckets I.ceiling) (one_level_buckets I.ceiling) (steps_of One I)
one_level_demanded valid = run_demanded valid One tt

pub two_level_demanded : {I : Inputs} {K : ℕ} → ValidInputs I → 2 ≤ K
    → Demanded I.map I.source (two_level_buckets I.ceiling K) (two_level_buckets I.ceiling K + K) (steps_of (Two K) I)
two_level_demanded {K = K} valid s = run_demanded valid (Two K) s

-- The heap operations of both, in document 01's B and K: at most r (5 B - 4) + 3 m + 3 and r (5 B + K - 4) + 3 m + 3.
module _ {I : Inputs} (valid : ValidInputs I) where
  pub one_level_operations : operations (steps_of One I) + 4 * length (steps_of One I).search.roster
      ≤ 5 * (length (steps_of One I).search.roster * one_level_buckets I.ceiling) + 3 * arcs I.map + 3
  one_level_operations = omega (arith, (one_level_demanded valid).counts.operated)

  pub two_level_operations : {K : ℕ} → 2 ≤ K → operations (steps_of (Two K) I) + 4 * length (steps_of (Two K) I).search.roster
      ≤ length (steps_of (Two K) I).search.roster * (5 * two_level_buckets I.ceiling K + K) + 3 * arcs I.map + 3
  two_level_operations s = omega (arith, (two_level_demanded valid s).counts.operated)
