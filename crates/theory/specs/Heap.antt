-- The steps of a radix heap (document 01, "One-level heap", "Two-level heap" and "The tallies"): the search beside the bucket of
-- each labelled node, the bounds, the shifts and the looks. One definition serves both heaps; a shape says which.
use Rattle.std.specs.Prelude.{ℕ, zero, suc, ◌+◌, ◌-◌, ◌*◌, min, Bool, true, false, cond, not, ◌&&◌, List, [], ◌∷◌, length, get_or, set, replicate, ltb, eqb}
use Rattle.theory.specs.Sums.{sum_below, list_below}
use Rattle.theory.specs.Maps.{none}
use Rattle.theory.specs.Network.{Link, Network}
use Rattle.theory.specs.Search.{Mark, unlabelled, labelled, scanned, Search, mark, distance, improves, label, remove, blank}
use Rattle.theory.specs.Shape.{Shape}

-- The state of the steps (document 01, "The tallies").
pub record Heap : Type 0 where
  pub search : Search
  -- the bucket each node was last put in; it counts while the node is labelled
  pub buckets : List ℕ
  -- u(1) to u(B) at places 1 to B; place 0 is not used
  pub bounds : List ℕ
  pub shifts : ℕ
  pub looks : ℕ
  -- bounds read in the searches for buckets (document 02, paper 3)
  pub reads : ℕ

-- The bound u(i) (document 01, "One-level heap").
abbrev pub bound : List ℕ → ℕ → ℕ
bound u i = get_or u i 0

-- The bucket that node v was last put in (document 01, "The tallies").
abbrev pub bucket_of : Heap → ℕ → ℕ
bucket_of h v = get_or h.buckets v 0

-- The key of node v, which is its distance (document 000, section 2).
abbrev pub key_of : Heap → ℕ → ℕ
key_of h v = distance h.search v

-- Placements, document 01's own term: insertions, decreases and shifts (document 01, "The tallies").
abbrev pub placements : Heap → ℕ
placements h = h.search.insertions + h.search.decreases + h.shifts

-- The bucket of key x: i + 1 for the largest i, from `i` down to 1, with u(i) below x; 1 if there is none (document 01,
-- "One-level heap").
unfoldable pub bucket_from : (u : List ℕ) → (x i : ℕ) → ℕ
bucket_from u x zero = 1
bucket_from u x (suc i) = cond (ltb (bound u (suc i)) x) (suc (suc i)) (bucket_from u x i)

-- The bounds that this search reads: from u(i) down to the first that is below x, which is included, and none below u(1) (document
-- 02, paper 3).
unfoldable pub reads_from : (u : List ℕ) → (x i : ℕ) → ℕ
reads_from u x zero = 0
reads_from u x (suc i) = suc (cond (ltb (bound u (suc i)) x) 0 (reads_from u x i))

-- The bucket at which the search for a node's bucket starts: B for an insertion, the present one b for a decrease (document
-- 01, "One-level heap"). A scanned node is never placed: `improves_open` of Search.Relaxing.
abbrev pub search_start : Shape → Mark → (b : ℕ) → ℕ
search_start sh unlabelled b = sh.buckets
search_start sh labelled b = b
search_start sh scanned b = b

-- The bucket in which node v is put with key x (document 01, "One-level heap").
abbrev pub bucket_for : Shape → (v x : ℕ) → Heap → ℕ
bucket_for sh v x h = bucket_from h.bounds x (search_start sh (mark h.search v) (bucket_of h v))

-- The bounds that the search for the bucket of node v with key x reads (document 02, paper 3).
abbrev pub reads_for : Shape → (v x : ℕ) → Heap → ℕ
reads_for sh v x h = reads_from h.bounds x (search_start sh (mark h.search v) (bucket_of h v))

-- Node v gets distance x and parent arc a, and is put in its bucket: an insertion or a decrease (document 01, "The tallies").
unfoldable pub heap_label : Shape → (v x a : ℕ) → Heap → Heap
heap_label sh v x a h = record {
  search = label v x a h.search;
  buckets = set h.buckets v (bucket_for sh v x h);
  bounds = h.bounds;
  shifts = h.shifts;
  looks = h.looks;
  reads = h.reads + reads_for sh v x h;
}

-- One link of a node at distance d is taken (document 01, "The search").
unfoldable pub heap_relax : Shape → ℕ → Link → Heap → Heap
heap_relax sh d l h = cond (improves d l h.search) (heap_label sh l.head (d + l.cost) l.arc h) h

-- The links of a node at distance d are taken in order (document 01, "The search").
unfoldable pub heap_relax_all : Shape → ℕ → List Link → Heap → Heap
heap_relax_all sh d [] h = h
heap_relax_all sh d (l ∷ ls) h = heap_relax_all sh d ls (heap_relax sh d l h)

-- A removal's choice: the lowest non-empty bucket, its lowest non-empty segment, the smallest key there, and the smallest
-- number of a node with that key (document 01, "One-level heap", "Two-level heap" and "The search").
pub data Pick : Type 0 where
  nothing : Pick
  picked : (j k d v : ℕ) → Pick

-- Whether a is below b, or equal to it where `then` holds: bucket first, then segment, then key (document 01, "Two-level heap").
abbrev pub lower : (a b : ℕ) → Bool → Bool
lower a b then = cond (ltb a b) true (eqb a b && then)

-- Node v in segment k of bucket j with key d, or the pick among nodes of smaller number: v only where it stands strictly lower
-- (document 01, "Two-level heap" and "The search").
abbrev pub lowest : (j k d v : ℕ) → Pick → Pick
lowest j k d v nothing = picked j k d v
lowest j k d v (picked i l e w) = cond (lower j i (lower k l (ltb d e))) (picked j k d v) (picked i l e w)

-- A node is considered only if it is labelled (document 01, "The search").
abbrev pub consider_pick : Mark → (j k d v : ℕ) → Pick → Pick
consider_pick unlabelled j k d v p = p
consider_pick labelled j k d v p = lowest j k d v p
consider_pick scanned j k d v p = p

-- The segment of node v in its bucket, by the present bounds (document 01, "Two-level heap").
abbrev pub segment_of : Shape → Heap → ℕ → ℕ
segment_of sh h v = sh.segment (bucket_of h v) (bound h.bounds (bucket_of h v)) (key_of h v)

-- The pick among the nodes below n (document 01, "One-level heap" and "Two-level heap").
unfoldable pub pick : Shape → Heap → ℕ → Pick
pick sh h zero = nothing
pick sh h (suc v) = consider_pick (mark h.search v) (bucket_of h v) (segment_of sh h v) (key_of h v) v (pick sh h v)

-- The bounds u(i), u(i + 1), .., `left` of them, set anew for buckets of these sizes: each is min(the one before + size, t)
-- (document 01, "Two-level heap").
unfoldable pub rebound : (size : ℕ → ℕ) → (t before i left : ℕ) → List ℕ → List ℕ
rebound size t before i zero u = u
rebound size t before i (suc left) u =
    let y : ℕ = min (before + size i) t in rebound size t y (suc i) left (set u i y)

-- The bounds after a removal from segment k of bucket j with smallest key d: u(1) to u(j - 1) anew, with d - 1 for the bound
-- before u(1) and the segment's upper end for t; none where j is 1 (document 01, "One-level heap" and "Two-level heap", whose
-- own words are corollaries in Shapes.Formulas).
unfoldable pub bounds_after : Shape → (j k d : ℕ) → List ℕ → List ℕ
bounds_after sh j k d u = rebound sh.size (sh.end j (bound u j) k) (d - 1) 1 (j - 1) u

-- What a removal does to one node: the bucket in which it then stands, and its shifts, 0 or 1. A shift is document 01's own
-- term (document 01, "One-level heap" and "The tallies").
pub record Move : Type 0 where
  pub bucket : ℕ
  pub shifts : ℕ

-- Whether the removal of node w from segment k of bucket j shifts a labelled node v of bucket b and segment l: a node of the
-- same segment other than w, where j is not 1 (document 01, "One-level heap" and "Two-level heap").
abbrev pub shifts? : (j k w v b l : ℕ) → Bool
shifts? j k w v b l = ltb 1 j && (eqb b j && (eqb l k && not (eqb v w)))

-- A labelled node of bucket b, which is shifted to bucket b' or stays (document 01, "One-level heap").
abbrev pub move_labelled : Bool → (b b' : ℕ) → Move
move_labelled true b b' = record { bucket = b'; shifts = 1 }
move_labelled false b b' = record { bucket = b; shifts = 0 }

-- Only a labelled node is shifted (document 01, "One-level heap").
abbrev pub move_marked : Mark → Bool → (b b' : ℕ) → Move
move_marked unlabelled t b b' = record { bucket = b; shifts = 0 }
move_marked labelled t b b' = move_labelled t b b'
move_marked scanned t b b' = record { bucket = b; shifts = 0 }

-- Node v when w is removed from segment k of bucket j, and the new bounds are u': the search for a shifted node's place starts
-- at its present bucket (document 01, "One-level heap").
unfoldable pub move : Shape → (u' : List ℕ) → (j k w : ℕ) → Heap → (v : ℕ) → Move
move sh u' j k w h v =
    move_marked (mark h.search v) (shifts? j k w v (bucket_of h v) (segment_of sh h v)) (bucket_of h v)
    (bucket_from u' (key_of h v) (bucket_of h v))

-- The bounds that the removal reads for node v: those of its search if it is shifted, from its present bucket down by the new bounds,
-- and none if it stays (document 02, paper 3).
abbrev pub moved_reads : Shape → (u' : List ℕ) → (j k w : ℕ) → Heap → (v : ℕ) → ℕ
moved_reads sh u' j k w h v = (move sh u' j k w h v).shifts * reads_from u' (key_of h v) (bucket_of h v)

-- The removal of node w, with the smallest key d, from segment k of bucket j, its new bounds and shifts included; looks are
-- made at the buckets 1 to j and at segments as the shape says. A look is document 01's own term (document 01, "The tallies").
unfoldable pub heap_remove : Shape → (j k d w : ℕ) → Heap → Heap
heap_remove sh j k d w h =
    let u' : List ℕ = bounds_after sh j k d h.bounds in
    let n : ℕ = length h.buckets in
    record {
      search = remove w h.search;
      buckets = list_below n (λ v. (move sh u' j k w h v).bucket);
      bounds = u';
      shifts = h.shifts + sum_below n (λ v. (move sh u' j k w h v).shifts);
      looks = h.looks + (j + sh.looks k);
      reads = h.reads + sum_below n (λ v. moved_reads sh u' j k w h v);
    }

-- A removal is done before the arcs of the node removed are taken (document 01, "The tallies").
unfoldable pub heap_scan : Network → Shape → (j k d v : ℕ) → Heap → Heap
heap_scan N sh j k d v h = heap_relax_all sh d (N.out v) (heap_remove sh j k d v h)

-- The steps end when nothing is labelled, and no look is made then (document 01, "The tallies"); `fuel` removals at the most.
unfoldable pub heap_from : Network → Shape → ℕ → Heap → Heap
heap_from N sh zero h = h
heap_from N sh (suc fuel) h = elim (pick sh h N.nodes) [ nothing ↦ h | picked j k d v ↦ heap_from N sh fuel (heap_scan N sh j k d v h) ]

-- The first bounds u(i), u(i + 1), .., `left` of them below the last, which is `top`: min(size(1) + .. + size(i) - 1, nC + 1),
-- where `sum` is size(1) + .. + size(i - 1) (document 01, "One-level heap" and "Two-level heap").
unfoldable pub bounds_from : (size : ℕ → ℕ) → (top i sum left : ℕ) → List ℕ
bounds_from size top i sum zero = top ∷ []
bounds_from size top i sum (suc left) =
    min (sum + size i - 1) top ∷ bounds_from size top (suc i) (sum + size i) left

-- The first bounds u(1) to u(B) (document 01, "One-level heap" and "Two-level heap").
unfoldable pub first_bounds : Shape → List ℕ
first_bounds sh = 0 ∷ bounds_from sh.size sh.top 1 0 (sh.buckets - 1)

-- At first every node is unlabelled, and each count is 0 (document 01, "The tallies").
unfoldable pub heap_blank : Network → Shape → Heap
heap_blank N sh = record { search = blank N; buckets = replicate N.nodes 0; bounds = first_bounds sh; shifts = 0; looks = 0; reads = 0 }

-- The source is inserted with distance 0 (document 01, "The search").
unfoldable pub heap_start : Network → Shape → Heap
heap_start N sh = heap_label sh N.source 0 none (heap_blank N sh)

-- All the steps of a run (document 01, "The tallies"). As many removals as there are nodes are enough: `heap_ends` of Heap.Run.
unfoldable pub heap : Network → Shape → Heap
heap N sh = heap_from N sh N.nodes (heap_start N sh)
