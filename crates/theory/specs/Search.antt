-- The search with no heap (document 01, "The search"; document 000, section 1): of the labelled nodes the one of smallest
-- distance, and of smallest number among equals, is scanned.
use Rattle.std.specs.Prelude.{ℕ, zero, suc, ◌+◌, Bool, true, cond, List, [], ◌∷◌, ◌++◌, get_or, set, replicate, ltb}
use Rattle.theory.specs.Maps.{none, distance_of, parent_of}
use Rattle.theory.specs.Network.{Link, Network}

-- Whether a node is unlabelled, labelled or scanned (document 01, "The tallies").
pub data Mark : Type 0 where
  unlabelled labelled scanned : Mark

-- What the steps keep of the search (document 01, "The tallies"): for each node its mark, distance and parent; insertions and
-- decreases; and the roster, document 01's own term, which has the nodes in the order scanned (document 02, paper 6). That is again and
-- again, of the labelled nodes the one of smallest distance, and of smallest number among equals (`nearest`). It is not by distance and then
-- by number: arcs 0→2 and 2→1 of cost 0 give 0, 2, 1, since node 1 is labelled only when 2 is scanned.
pub record Search : Type 0 where
  pub marks : List Mark
  pub distances : List ℕ
  pub parents : List ℕ
  pub roster : List ℕ
  pub insertions : ℕ
  pub decreases : ℕ

-- The mark of node v (document 01, "The tallies").
abbrev pub mark : Search → ℕ → Mark
mark s v = get_or s.marks v unlabelled

-- The distance of node v (document 01, "The tallies").
abbrev pub distance : Search → ℕ → ℕ
distance s v = distance_of s.distances v

-- The parent of node v (document 01, "The tallies").
abbrev pub parent : Search → ℕ → ℕ
parent s v = parent_of s.parents v

-- Whether a sum is strictly below a node's distance, which counts as above every sum while the node is unlabelled
-- (document 01, "The search" and "The tallies").
abbrev pub below : Mark → (sum distance : ℕ) → Bool
below unlabelled sum d = true
below labelled sum d = ltb sum d
below scanned sum d = ltb sum d

-- Whether link l, taken from a node at distance d, improves its head: distance plus cost is strictly below the head's distance
-- (document 01, "The search").
abbrev pub improves : ℕ → Link → Search → Bool
improves d l s = below (mark s l.head) (d + l.cost) (distance s l.head)

-- The mark of a node that gets a new distance (document 01, "The tallies"). A scanned node never does: `improves_open` of
-- Search.Relaxing.
abbrev pub as_labelled : Mark → Mark
as_labelled unlabelled = labelled
as_labelled labelled = labelled
as_labelled scanned = scanned

-- 1 for an insertion: an unlabelled node gets a distance (document 01, "The tallies").
abbrev pub inserted : Mark → ℕ
inserted unlabelled = 1
inserted labelled = 0
inserted scanned = 0

-- 1 for a decrease, document 01's own term: a labelled node's key falls (document 01, "The tallies").
abbrev pub decreased : Mark → ℕ
decreased unlabelled = 0
decreased labelled = 1
decreased scanned = 0

-- Node v gets distance x and parent arc a, and is inserted or decreased (document 01, "The search").
unfoldable pub label : (v x a : ℕ) → Search → Search
label v x a s = record {
  marks = set s.marks v (as_labelled (mark s v));
  distances = set s.distances v x;
  parents = set s.parents v a;
  roster = s.roster;
  insertions = s.insertions + inserted (mark s v);
  decreases = s.decreases + decreased (mark s v);
}

-- One link of a node at distance d is taken (document 01, "The search").
unfoldable pub relax : ℕ → Link → Search → Search
relax d l s = cond (improves d l s) (label l.head (d + l.cost) l.arc s) s

-- The links of a node at distance d are taken in order (document 01, "The search").
unfoldable pub relax_all : ℕ → List Link → Search → Search
relax_all d [] s = s
relax_all d (l ∷ ls) s = relax_all d ls (relax d l s)

-- Node v leaves the labelled nodes, as scanned (document 01, "The tallies").
unfoldable pub remove : ℕ → Search → Search
remove v s = record {
  marks = set s.marks v scanned;
  distances = s.distances;
  parents = s.parents;
  roster = s.roster ++ (v ∷ []);
  insertions = s.insertions;
  decreases = s.decreases;
}

-- Node v is scanned: it is removed, then its arcs are taken in number order (document 01, "The search" and "The tallies").
unfoldable pub scan : Network → ℕ → Search → Search
scan N v s = relax_all (distance s v) (N.out v) (remove v s)

-- A choice among labelled nodes: none, or a node and its distance (document 01, "The search").
pub data Choice : Type 0 where
  nothing : Choice
  chosen : (v d : ℕ) → Choice

-- Node v at distance d, or the choice among nodes of smaller number: v only where it is strictly nearer (document 01, "The
-- search").
abbrev pub nearer : (v d : ℕ) → Choice → Choice
nearer v d nothing = chosen v d
nearer v d (chosen w e) = cond (ltb d e) (chosen v d) (chosen w e)

-- A node is considered only if it is labelled (document 01, "The search").
abbrev pub consider : Mark → (v d : ℕ) → Choice → Choice
consider unlabelled v d c = c
consider labelled v d c = nearer v d c
consider scanned v d c = c

-- Of the nodes below n, the labelled one of smallest distance, and of smallest number among equals (document 01, "The search").
unfoldable pub nearest : Search → ℕ → Choice
nearest s zero = nothing
nearest s (suc v) = consider (mark s v) v (distance s v) (nearest s v)

-- While labelled nodes remain, the nearest is scanned; `fuel` removals at the most (document 01, "The search").
unfoldable pub search_from : Network → ℕ → Search → Search
search_from N zero s = s
search_from N (suc fuel) s = elim (nearest s N.nodes) [ nothing ↦ s | chosen v d ↦ search_from N fuel (scan N v s) ]

-- At first every node is unlabelled (document 01, "The tallies").
unfoldable pub blank : Network → Search
blank N = record {
  marks = replicate N.nodes unlabelled;
  distances = replicate N.nodes none;
  parents = replicate N.nodes none;
  roster = [];
  insertions = 0;
  decreases = 0;
}

-- The source is inserted with distance 0 (document 01, "The search").
unfoldable pub start : Network → Search
start N = label N.source 0 none (blank N)

-- The whole search (document 01, "The search"). As many removals as there are nodes are enough: `search_ends` of Search.Ends.
unfoldable pub search : Network → Search
search N = search_from N N.nodes (start N)
