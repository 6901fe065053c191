-- What holds of the steps between two removals, and within the scan of a node (document 01, "The search" and "The tallies"). Contracts of
-- the core ask for it; that it holds of every run is proved.
use Rattle.std.specs.Prelude.{ℕ, suc, ◌+◌, ◌-◌, ◌*◌, ◌≤◌, ◌<◌, ◌≡◌, true, ◌≢◌, ◌⊎◌, length}
use mathlib.Core.List.{List, Memᴰ}
use Rattle.theory.specs.Sums.{sum_below}
use Rattle.theory.specs.Maps.{none}
use Rattle.theory.specs.Network.{Link, Network}
use Rattle.theory.specs.Shape.{Shape}
use Rattle.theory.specs.Search.{Mark, unlabelled, labelled, scanned, Search, mark, distance, parent, below}
use Rattle.theory.specs.Heap.{Heap, bound, bucket_of, key_of, placements, bounds_after}
use Rattle.theory.specs.Demands.{Distinct, Rising}

-- ---- the search

-- Of the numbers in a set, v is the one of smallest key d, and the smallest of those (document 01, "The search").
pub record LeastOf (Member : ℕ → Type 0) (keys : ℕ → ℕ) (v d : ℕ) : Type 0 where
  pub member : Member v
  pub key : keys v ≡ d
  pub least : (w : ℕ) → Member w → d ≤ keys w
  pub first : (w : ℕ) → Member w → keys w ≡ d → v ≤ w

-- Node v is labelled (document 01, "The tallies").
abbrev pub Labelled : Search → ℕ → Type 0
Labelled s v = mark s v ≡ labelled

-- The same of the nodes below n.
abbrev pub LabelledBelow : Search → ℕ → ℕ → Type 0
LabelledBelow s n v = (v < n) × Labelled s v

-- v is the labelled node of smallest distance d, and of smallest number among equals (document 01, "The search").
abbrev pub Least : Search → (v d : ℕ) → Type 0
Least s v d = LeastOf (Labelled s) (distance s) v d

-- A mark counts as a scan where the node is scanned (document 01, "The tallies").
abbrev pub scans : Mark → ℕ
scans unlabelled = 0
scans labelled = 0
scans scanned = 1

-- And as known where the node is not unlabelled (document 01, "The tallies").
abbrev pub known : Mark → ℕ
known unlabelled = 0
known labelled = 1
known scanned = 1

-- The links of a scanned node, which are its arcs (document 01, "The search").
abbrev pub links_of : Network → ℕ → Mark → ℕ
links_of N v unlabelled = 0
links_of N v labelled = 0
links_of N v scanned = length (N.out v)

-- The tree of the parent arcs: every tail in it is scanned, and every distance is the tail's and the cost of the arc (document 000, section
-- 1).
pub data Tree (N : Network) (s : Search) : ℕ → Type 0 where
  here : Tree N s N.source
  on : {t : ℕ} → Tree N s t → mark s t ≡ scanned → (l : Link) → Memᴰ l (N.out t) → parent s l.head ≡ l.arc
      → N.source ≢ l.head → distance s t + l.cost ≡ distance s l.head → Tree N s l.head

-- Link l of node v is done with: its head is not unlabelled, and not farther than v and the cost (document 000, section 1).
pub record Relaxed (s : Search) (v : ℕ) (l : Link) : Type 0 where
  pub met : mark s l.head ≢ unlabelled
  pub near : distance s l.head ≤ distance s v + l.cost

-- `front` is the distance of the node scanned last, 0 at first. `Left v l` says that link l of the scanned node v has yet to be
-- relaxed; there are `left` such links.
pub record SearchInv (N : Network) (C front : ℕ) (Left : ℕ → Link → Type 0) (left : ℕ) (s : Search) : Type 0 where
  pub marks_length : length s.marks ≡ N.nodes
  pub distances_length : length s.distances ≡ N.nodes
  pub parents_length : length s.parents ≡ N.nodes
  pub unknown : (v : ℕ) → mark s v ≡ unlabelled → distance s v ≡ none
  pub orphan : (v : ℕ) → mark s v ≡ unlabelled → parent s v ≡ none
  pub source_known : mark s N.source ≢ unlabelled
  pub source_zero : distance s N.source ≡ 0
  pub source_orphan : parent s N.source ≡ none
  pub tree : (v : ℕ) → mark s v ≢ unlabelled → Tree N s v
  pub settled : (v : ℕ) → mark s v ≡ scanned → (l : Link) → Memᴰ l (N.out v) → Left v l ⊎ Relaxed s v l
  pub behind : (v : ℕ) → mark s v ≡ scanned → distance s v ≤ front
  pub ahead : (v : ℕ) → mark s v ≡ labelled → front ≤ distance s v
  pub window : (v : ℕ) → mark s v ≡ labelled → distance s v ≤ front + C
  pub small : (v : ℕ) → mark s v ≢ unlabelled → distance s v ≤ length s.roster * C
  pub smaller : (v : ℕ) → mark s v ≡ scanned → distance s v + C ≤ length s.roster * C
  pub listed : (v : ℕ) → mark s v ≡ scanned → Memᴰ v s.roster
  pub rostered : (v : ℕ) → Memᴰ v s.roster → mark s v ≡ scanned
  pub distinct : Distinct s.roster
  pub rising : Rising s.distances 0 s.roster front
  pub scans_count : length s.roster ≡ sum_below N.nodes (λ v. scans (mark s v))
  pub insertions_count : s.insertions ≡ sum_below N.nodes (λ v. known (mark s v))
  pub updates_count : s.insertions + s.decreases + left ≤ 1 + sum_below N.nodes (λ v. links_of N v (mark s v))

-- Between two removals no link is left to relax.
abbrev pub AtRest : Network → (C front : ℕ) → Search → Type 0
AtRest N C front s = SearchInv N C front (λ v l. ⊥) 0 s

-- In the scan of u, at distance d, the links ls are left to relax.
pub record Scanning (N : Network) (C u d : ℕ) (ls : List Link) (s : Search) : Type 0 where
  pub inv : SearchInv N C d (λ v l. (v ≡ u) × Memᴰ l ls) (length ls) s
  pub is_scanned : mark s u ≡ scanned
  pub is_at : distance s u ≡ d

-- ---- the heap

-- Sound bounds, when the last node scanned had distance `last` (document 000, section 2).
pub record Bounds (sh : Shape) (last : ℕ) (u : List ℕ) : Type 0 where
  pub long : length u ≡ suc sh.buckets
  pub top : bound u sh.buckets ≡ sh.top
  pub rise : (i k : ℕ) → 1 ≤ i → i ≤ k → k ≤ sh.buckets → bound u i ≤ bound u k
  pub range : (i : ℕ) → 1 ≤ i → suc i < sh.buckets → bound u (suc i) ≤ bound u i + sh.size (suc i)
  pub first : bound u 1 < last + sh.size 1
  pub reach : last ≤ bound u 1

-- Key x is rightly in bucket b: it is at most u(b), and above the bounds before (document 01, "One-level heap").
pub record Fits (sh : Shape) (u : List ℕ) (b x : ℕ) : Type 0 where
  pub low : 1 ≤ b
  pub high : b ≤ sh.buckets
  pub under : x ≤ bound u b
  pub over : (p : ℕ) → 1 ≤ p → p < b → bound u p < x

-- The segment of key x in bucket j (document 01, "Two-level heap").
abbrev pub seg : Shape → List ℕ → ℕ → ℕ → ℕ
seg sh u j x = sh.segment j (bound u j) x

-- Its upper end, document 01's t (document 01, "Two-level heap").
abbrev pub seg_end : Shape → List ℕ → ℕ → ℕ → ℕ
seg_end sh u j d = sh.end j (bound u j) (seg sh u j d)

-- The bounds after a removal with smallest key d there (document 01, "One-level heap" and "Two-level heap").
abbrev pub after : Shape → List ℕ → ℕ → ℕ → List ℕ
after sh u j d = bounds_after sh j (seg sh u j d) d u

-- When the last node scanned had distance `last`: the bounds are sound, and every labelled node stands where its key fits (document 000,
-- section 2).
pub record HeapInv (N : Network) (sh : Shape) (last : ℕ) (h : Heap) : Type 0 where
  pub bounds : Bounds sh last h.bounds
  pub buckets : length h.buckets ≡ N.nodes
  pub fits : (v : ℕ) → Labelled h.search v → Fits sh h.bounds (bucket_of h v) (key_of h v)

-- Node v, which is not scanned, gets key x, below its own and at most the last bound (document 01, "The search").
pub record Labelling (N : Network) (sh : Shape) (h : Heap) (v x : ℕ) : Type 0 where
  pub node : v < N.nodes
  pub marks : length h.search.marks ≡ N.nodes
  pub distances : length h.search.distances ≡ N.nodes
  pub unscanned : mark h.search v ≢ scanned
  pub top : x ≤ sh.top
  pub less : below (mark h.search v) x (key_of h v) ≡ true

-- What a labelled node may still be shifted: once for each bucket below its own (document 01, "The tallies").
abbrev pub weight : Mark → ℕ → ℕ
weight unlabelled b = 0
weight labelled b = b - 1
weight scanned b = 0

-- The same of node v.
abbrev pub weight_of : Heap → ℕ → ℕ
weight_of h v = weight (mark h.search v) (bucket_of h v)

-- All shifts that the labelled nodes may still make, summed (demand 3).
abbrev pub potential : Network → Heap → ℕ
potential N h = sum_below N.nodes (weight_of h)

-- Shifts, looks and reads so far, with the potential, are within their bounds (demand 3).
pub record Counted (N : Network) (sh : Shape) (S : ℕ) (h : Heap) : Type 0 where
  pub shifts : potential N h + h.shifts + h.search.insertions ≤ h.search.insertions * sh.buckets
  pub looks : h.looks ≤ length h.search.roster * (sh.buckets + S)
  pub reads : potential N h + h.reads + h.search.insertions ≤ h.search.insertions * sh.buckets + 2 * placements h

-- A heap between two removals, when the last node scanned had distance `last` (document 01, "The tallies").
pub record Resting (N : Network) (sh : Shape) (C S last : ℕ) (h : Heap) : Type 0 where
  pub rest : AtRest N C last h.search
  pub inv : HeapInv N sh last h
  pub counted : Counted N sh S h

-- A heap in the scan of u, at distance d, with the links ls left to relax (document 01, "The search").
pub record Relaxing (N : Network) (sh : Shape) (C S u d : ℕ) (ls : List Link) (h : Heap) : Type 0 where
  pub scanning : Scanning N C u d ls h.search
  pub inv : HeapInv N sh d h
  pub counted : Counted N sh S h
