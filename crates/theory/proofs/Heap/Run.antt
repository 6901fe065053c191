-- The heap's search is the search with no heap, the heap ends, and its counts are bounded.
use Prim.Native.Nat.{ℕ, zero, suc, ◌+◌, ◌*◌, ◌≤◌}
use native.Mathlib.Omega.{arith}
use mathlib.Core.Path.{◌≡◌, refl, sym, ◌∙◌}
use mathlib.Core.Bool.{Bool, true, false, cond}
use mathlib.Core.List.{List, [], ◌∷◌, Memᴰ}
use lib.ListN.{length, length-replicate}
use Rattle.theory.specs.Maps.{none}
use Rattle.theory.specs.Network.{Link, Network, Admissible}
use Rattle.theory.specs.Shape.{Shape}
use Rattle.theory.specs.Search.{unlabelled, Search, improves, Choice, chosen, scan, blank, start, search_from, search}
use Rattle.theory.specs.Heap.{Heap, Pick, nothing, picked, pick, heap_label, heap_relax, heap_relax_all, heap_remove, heap_scan, heap_from, heap_blank, heap_start, heap, placements}
use Rattle.theory.proofs.Cases.{scanned≢unlabelled, differ}
use Rattle.theory.proofs.Sums.{sum_zero}
use Rattle.theory.specs.Lawful.{Lawful}
use Rattle.theory.specs.Invariants.{Least, Scanning, Fits, seg, HeapInv, Labelling, weight_of, Counted, Resting, Relaxing}
use Rattle.theory.proofs.Search.Relaxing.{head_node, sum_few, relax_kept, improves_open}
use Rattle.theory.proofs.Search.Scanning.{remove_kept, scan_over}
use Rattle.theory.proofs.Search.Ends.{blank_mark, start_kept, search_ends}
use Rattle.theory.proofs.Search.Counts.{search_counted}
use Rattle.theory.proofs.Heap.Bounds.{bounds_first}
use Rattle.theory.proofs.Heap.Invariant.{Choose, idle, takes, chooses}
use Rattle.theory.proofs.Heap.Pick.{pick_nothing}
use Rattle.theory.proofs.Heap.Remove.{inv_remove}
use Rattle.theory.proofs.Heap.Label.{inv_label, relax_search, relax_all_search}
use Rattle.theory.proofs.Heap.Count.{count_label, count_remove}

module _ {N : Network} {sh : Shape} {C S m : ℕ} (A : Admissible N C m) (law : Lawful sh C S) (room : N.nodes * C ≤ sh.top) where
  -- A link whose head improves is a labelling.
  pub improving : {u d : ℕ} {l : Link} {ls : List Link} {h : Heap} → Memᴰ l (N.out u) → Scanning N C u d (l ∷ ls) h.search
      → improves d l h.search ≡ true → Labelling N sh h l.head (d + l.cost)
  improving out S e = record {
    node = head_node A S out;
    marks = S.inv.marks_length;
    distances = S.inv.distances_length;
    unscanned = improves_open S e;
    top = omega (arith, sum_few A S out);
    less = e;
  }

  pub relax_relaxing : {u d : ℕ} {l : Link} {ls : List Link} {h : Heap} → Memᴰ l (N.out u) → Relaxing N sh C S u d (l ∷ ls) h
      → Relaxing N sh C S u d ls (heap_relax sh d l h)
  relax_relaxing {u} {d} {l} {ls} {h} out R = record {
    scanning = rw (relax_search sh d l h) (relax_kept A out R.scanning);
    inv = unfold heap_relax in inv_go (improves d l h.search) refl;
    counted = unfold heap_relax in count_go (improves d l h.search) refl;
  }
    where
      inv_go : (t : Bool) → improves d l h.search ≡ t → HeapInv N sh d (cond t (heap_label sh l.head (d + l.cost) l.arc h) h)
      inv_go true e = inv_label law R.inv (improving out R.scanning e) l.arc
      inv_go false e = R.inv

      count_go : (t : Bool) → improves d l h.search ≡ t → Counted N sh S (cond t (heap_label sh l.head (d + l.cost) l.arc h) h)
      count_go true e = count_label law R.inv R.counted (improving out R.scanning e) l.arc
      count_go false e = R.counted

  pub relax_all_relaxing : {u d : ℕ} (ls : List Link) {h : Heap} → ((l : Link) → Memᴰ l ls → Memᴰ l (N.out u)) → Relaxing N sh C S u d ls h
      → Relaxing N sh C S u d [] (heap_relax_all sh d ls h)
  unfolding heap_relax_all
  relax_all_relaxing [] out R = R
  relax_all_relaxing (l ∷ ls) out R = relax_all_relaxing ls (λ k q. out k (Memᴰ.tail q)) (relax_relaxing (out l (Memᴰ.head refl)) R)

  pub remove_relaxing : {last j d v : ℕ} {h : Heap} → Resting N sh C S last h → Fits sh h.bounds j d → Least h.search v d
      → Relaxing N sh C S v d (N.out v) (heap_remove sh j (seg sh h.bounds j d) d v h)
  unfolding heap_remove
  remove_relaxing R fit min = record {
    scanning = remove_kept R.rest min;
    inv = inv_remove law R.rest R.inv fit min;
    counted = count_remove law R.rest R.inv R.counted fit min;
  }

  pub relaxing_over : {u d : ℕ} {h : Heap} → Relaxing N sh C S u d [] h → Resting N sh C S d h
  relaxing_over R = record { rest = scan_over R.scanning; inv = R.inv; counted = R.counted }

  pub scan_resting : {last j d v : ℕ} {h : Heap} → Resting N sh C S last h → Fits sh h.bounds j d → Least h.search v d
      → Resting N sh C S d (heap_scan N sh j (seg sh h.bounds j d) d v h)
  unfolding heap_scan
  scan_resting {v = v} R fit min = relaxing_over (relax_all_relaxing (N.out v) (λ l q. q) (remove_relaxing R fit min))

  -- At first nothing is labelled; then the source is.
  pub blank_inv : HeapInv N sh 0 (heap_blank N sh)
  unfolding heap_blank
  blank_inv = record {
    bounds = bounds_first law;
    buckets = length-replicate N.nodes 0;
    fits = λ v on. let e = blank_mark N v in differ (cc);
  }

  blank_counted : Counted N sh S (heap_blank N sh)
  unfolding heap_blank blank
  blank_counted = record {
    shifts = omega (arith, sum_zero N.nodes (weight_of (heap_blank N sh)) (λ v _. rw (blank_mark N v)));
    looks = omega arith;
    reads = omega (arith, sum_zero N.nodes (weight_of (heap_blank N sh)) (λ v _. rw (blank_mark N v)));
  }

  pub source_labelling : Labelling N sh (heap_blank N sh) N.source 0
  unfolding heap_blank blank
  source_labelling = record {
    node = A.source_node;
    marks = length-replicate N.nodes unlabelled;
    distances = length-replicate N.nodes none;
    unscanned = λ e. scanned≢unlabelled (sym e ∙ blank_mark N N.source);
    top = omega arith;
    less = rw (blank_mark N N.source);
  }

  start_same : (heap_start N sh).search ≡ start N
  unfolding heap_start heap_blank heap_label start
  start_same = refl

  pub start_resting : Resting N sh C S 0 (heap_start N sh)
  start_resting = record {
    rest = rw start_same (start_kept A);
    inv = unfold heap_start in inv_label law blank_inv source_labelling none;
    counted = unfold heap_start in count_label law blank_inv blank_counted source_labelling none;
  }

  -- A heap that has come as far as the search.
  record Follows (h : Heap) (s : Search) : Type 0 where
    same : h.search ≡ s
    last : ℕ
    resting : Resting N sh C S last h

  pub scan_search : (j k d v : ℕ) (h : Heap) → Least h.search v d → (heap_scan N sh j k d v h).search ≡ scan N v h.search
  unfolding heap_scan heap_remove scan
  scan_search j k d v h min = rw min.key (relax_all_search sh d (N.out v) (heap_remove sh j k d v h))

  step : (fuel last : ℕ) (h : Heap) → Resting N sh C S last h
      → ((last : ℕ) (h : Heap) → Resting N sh C S last h → Follows (heap_from N sh fuel h) (search_from N fuel h.search))
      → {p : Pick} {c : Choice} → Choose sh h p c
      → Follows (elim p [ nothing ↦ h | picked j k d v ↦ heap_from N sh fuel (heap_scan N sh j k d v h) ])
      (elim c [ Choice.nothing ↦ h.search | chosen v d ↦ search_from N fuel (scan N v h.search) ])
  step fuel last h R ih (idle no_one) = record { same = refl; last = last; resting = R }
  step fuel last h R ih (takes {j} {d} {v} fit min) =
      rw (← (scan_search j (seg sh h.bounds j d) d v h min)) (ih d _ (scan_resting R fit min))

  follow : (fuel last : ℕ) (h : Heap) → Resting N sh C S last h → Follows (heap_from N sh fuel h) (search_from N fuel h.search)
  unfolding heap_from search_from
  follow zero last h R = record { same = refl; last = last; resting = R }
  follow (suc fuel) last h R = step fuel last h R (λ l g. follow fuel l g) (chooses law R.rest R.inv)

  heap_follows : Follows (heap N sh) (search N)
  unfolding heap search heap_start heap_blank heap_label start
  heap_follows = follow N.nodes 0 (heap_start N sh) start_resting

  -- The heap's search is the search.
  pub heap_search : (heap N sh).search ≡ search N
  heap_search = heap_follows.same

  -- The heap ends: when as many removals as there are nodes are made, nothing is left to pick.
  pub heap_ends : pick sh (heap N sh) N.nodes ≡ nothing
  heap_ends = let F = heap_follows in
      (pick_nothing law F.resting.rest F.resting.inv).1 (λ v on. (search_ends A).over v (rw F.same at on))

  -- Shifts are at most B - 1 for each insertion, and looks at most B + S for each removal; hence the bound on placements.
  pub heap_shifts : (heap N sh).shifts + (heap N sh).search.insertions ≤ (heap N sh).search.insertions * sh.buckets
  heap_shifts = omega (arith, heap_follows.resting.counted.shifts)

  pub heap_looks : (heap N sh).looks ≤ length (heap N sh).search.roster * (sh.buckets + S)
  heap_looks = heap_follows.resting.counted.looks

  -- Bounds read are at most B - 1 for each insertion, and two for each placement besides.
  pub heap_reads : (heap N sh).reads + (heap N sh).search.insertions ≤ (heap N sh).search.insertions * sh.buckets + 2 * placements (heap N sh)
  heap_reads = omega (arith, heap_follows.resting.counted.reads)

  pub heap_placed : placements (heap N sh) + length (heap N sh).search.roster ≤ length (heap N sh).search.roster * sh.buckets + m + 1
  heap_placed =
      let c = search_counted A in
      let i : (heap N sh).search.insertions ≡ length (heap N sh).search.roster = rw heap_search c.insertions in
      let d : (heap N sh).search.decreases + length (heap N sh).search.roster ≤ m + 1 = rw heap_search c.decreases in
      omega (arith, rw i at heap_shifts)
