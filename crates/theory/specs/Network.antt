-- A map as a search sees it: for each node the links that leave it, in order. Every theorem on the search and on the heaps is
-- about networks; what makes a network of a map is the one place where words become links (document 000, section 1).
use Rattle.std.specs.Prelude.{ℕ, zero, suc, ◌+◌, ◌-◌, ◌<◌, ◌≤◌, cond, ◌≡◌, eqb, length, get_or}
use mathlib.Core.List.{List, [], ◌∷◌, ◌++◌, Memᴰ}
use Rattle.theory.specs.Sums.{sum_below}
use Rattle.theory.specs.Maps.{Map, start_of, cost_of, parent_of}

-- One arc, as its tail sees it: number, head and cost (document 000, section 1).
pub record Link : Type 0 where
  pub arc : ℕ
  pub head : ℕ
  pub cost : ℕ

-- Nodes below `nodes`, a source, and for each node its links in the order in which a scan takes them (document 000, section 1;
-- document 01, "The search").
pub record Network : Type 0 where
  pub nodes : ℕ
  pub source : ℕ
  pub out : ℕ → List Link

-- The links of the arcs a, a + 1, .., `count` of them, each arc's as `give` has them (document 01, "The search": arcs are taken in
-- number order).
unfoldable pub links_from : (ℕ → List Link) → (a count : ℕ) → List Link
links_from give a zero = []
links_from give a (suc count) = give a ++ links_from give (suc a) count

-- What an arc out of node v costs besides itself: its tail's hold, and nothing out of the source (document 02, paper 2).
unfoldable pub tail_hold : (holds : List ℕ) → (source v : ℕ) → ℕ
tail_hold holds source v = cond (eqb v source) 0 (get_or holds v 0)

-- The arc rule: arc a out of node v costs itself plus its tail's hold, and out of the source itself alone (document 02, paper 2).
abbrev pub arc_cost : Map → (source v a : ℕ) → ℕ
arc_cost M source v a = cost_of M a + tail_hold M.holds source v

-- An arc's links, where arcs cost as `cost` says: one, with the arc's number, its head and its cost (document 01, "What the planner holds and
-- leaves out").
abbrev pub arc_links : (heads : List ℕ) → (cost : ℕ → ℕ) → (a : ℕ) → List Link
arc_links heads cost a = record { arc = a; head = get_or heads a 0; cost = cost a } ∷ []

-- The network of a map: the arcs leaving node v are numbers starts[v] up to but not including starts[v + 1], taken in number
-- order, at the cost of the arc rule (document 01, "What the planner holds and leaves out" and "The search"; document 02, paper 2).
unfoldable pub network : Map → ℕ → Network
network M source = record {
  nodes = M.nodes;
  source = source;
  out = λ v. links_from (arc_links M.heads (arc_cost M source v)) (start_of M v) (start_of M (suc v) - start_of M v);
}

-- Some path leads from the source to the node, at this cost (document 000, section 1).
pub data Path (N : Network) : ℕ → ℕ → Type 0 where
  here : Path N N.source 0
  on : {v c : ℕ} → Path N v c → (l : Link) → Memᴰ l (N.out v) → Path N l.head (c + l.cost)

-- The path that the parent arcs spell out, from the last arc back to the source, leads to the node at this cost (document 01,
-- "Routes").
pub data SpelledPath (N : Network) (parents : List ℕ) : ℕ → ℕ → Type 0 where
  here : SpelledPath N parents N.source 0
  on : {t c : ℕ} → SpelledPath N parents t c → (l : Link) → Memᴰ l (N.out t) → parent_of parents l.head ≡ l.arc
      → (N.source ≡ l.head → ⊥) → SpelledPath N parents l.head (c + l.cost)

-- A network that the theorems are about, with costs of at most C and at most m links: within the limits of document 01, "What
-- the planner holds and leaves out", and an arc number names one arc.
pub record Admissible (N : Network) (C m : ℕ) : Type 0 where
  pub few_nodes : N.nodes ≤ 4096
  pub low_ceiling : C ≤ 1048575
  pub few_arcs : m ≤ 65536
  pub source_node : N.source < N.nodes
  pub heads : (v : ℕ) → v < N.nodes → (l : Link) → Memᴰ l (N.out v) → l.head < N.nodes
  pub costs : (v : ℕ) → v < N.nodes → (l : Link) → Memᴰ l (N.out v) → l.cost ≤ C
  pub links : sum_below N.nodes (λ v. length (N.out v)) ≤ m
  pub numbers : (v : ℕ) → v < N.nodes → (l : Link) → Memᴰ l (N.out v) → l.arc < m
  pub one_arc_lem : (v w : ℕ) (l k : Link) → Memᴰ l (N.out v) → Memᴰ k (N.out w) → l.arc ≡ k.arc → (v ≡ w) × (l ≡ k)
