-- The marked edges (document 01, "Edges, marked * where proved") as one table, with rows of our own behind them: what a heap
-- does at its last bucket, where the minimum with nC + 1 acts for n ≥ 2, runs with holds (document 02, paper 2), and nodes of equal distance
-- in the order scanned (document 02, paper 6).
use Rattle.std.specs.Prelude.{ℕ, List, [], ◌∷◌, length}
use Rattle.theory.specs.Maps.{none, Map}
use Rattle.theory.specs.Heap.{Heap, placements}
use Rattle.theory.specs.Runs.{heap_buckets, steps_of}
use Rattle.theory.specs.declared.Levels.{Levels}
use Rattle.theory.specs.declared.Levels.TheVariants.{One, Two}

-- What is asked: B of a heap, or a run of it (document 01, "Edges, marked * where proved").
pub data Question : Type 0 where
  buckets_of : Levels → (C : ℕ) → Question
  run_of : Levels → Map → (C source : ℕ) → Question

-- What is answered: B, or what is given back of a run (document 01, "What the planner holds and leaves out").
pub data Answer : Type 0 where
  buckets : (B : ℕ) → Answer
  run : (r decreases B placements looks reads : ℕ) → (distances parents roster : List ℕ) → Answer

-- What a run gives back of its steps, for a heap of B buckets (document 01, "What the planner holds and leaves out").
abbrev pub given : (B : ℕ) → Heap → Answer
given B h =
    run (length h.search.roster) h.search.decreases B (placements h) h.looks h.reads
    h.search.distances h.search.parents h.search.roster

-- What the definitions answer.
unfoldable pub answer_to : Question → Answer
answer_to (buckets_of L C) = buckets (heap_buckets L C)
answer_to (run_of L M C source) = given (heap_buckets L C) (steps_of L (record { map = M; ceiling = C; source = source }))

-- The map of the listing (document 01, "Planning file").
abbrev pub listing : Map
listing = record {
  nodes = 5;
  starts = 0 ∷ 3 ∷ 3 ∷ 5 ∷ 6 ∷ 7 ∷ [];
  heads = 1 ∷ 2 ∷ 3 ∷ 1 ∷ 3 ∷ 1 ∷ 0 ∷ [];
  costs = 9 ∷ 4 ∷ 6 ∷ 4 ∷ 2 ∷ 0 ∷ 1 ∷ [];
  holds = 0 ∷ 0 ∷ 0 ∷ 0 ∷ 0 ∷ [];
}

-- One node and no arc (document 01, "Edges, marked * where proved").
abbrev pub one_node : Map
one_node = record { nodes = 1; starts = 0 ∷ 0 ∷ []; heads = []; costs = []; holds = 0 ∷ [] }

-- Arcs 0→1 and 1→0, both of cost 0 (document 01, "Edges, marked * where proved").
abbrev pub zero_pair : Map
zero_pair = record { nodes = 2; starts = 0 ∷ 1 ∷ 2 ∷ []; heads = 1 ∷ 0 ∷ []; costs = 0 ∷ 0 ∷ []; holds = 0 ∷ 0 ∷ [] }

-- Arcs 0→1 and 1→2 of cost 1, into the last bucket of two levels where C is 1 and K is 2; ours.
abbrev pub low_chain : Map
low_chain = record { nodes = 3; starts = 0 ∷ 1 ∷ 2 ∷ 2 ∷ []; heads = 1 ∷ 2 ∷ []; costs = 1 ∷ 1 ∷ []; holds = 0 ∷ 0 ∷ 0 ∷ [] }

-- Arcs 0→1 and 1→2 of cost 4, into the last bucket of one level where C is 4; ours.
abbrev pub high_chain : Map
high_chain = record { nodes = 3; starts = 0 ∷ 1 ∷ 2 ∷ 2 ∷ []; heads = 1 ∷ 2 ∷ []; costs = 4 ∷ 4 ∷ []; holds = 0 ∷ 0 ∷ 0 ∷ [] }

-- Arc 0→1 of cost 1: with C 1 and K 64 the minimum with nC + 1 acts at n 2; ours.
abbrev pub one_arc : Map
one_arc = record { nodes = 2; starts = 0 ∷ 1 ∷ 1 ∷ []; heads = 1 ∷ []; costs = 1 ∷ []; holds = 0 ∷ 0 ∷ [] }

-- The listing's map with holds: to node 3 leads a route through node 2, whose hold makes it dearer than the arc from the source (document 02,
-- paper 2; the holds are ours).
abbrev pub held_listing : Map
held_listing = record {
  nodes = 5;
  starts = 0 ∷ 3 ∷ 3 ∷ 5 ∷ 6 ∷ 7 ∷ [];
  heads = 1 ∷ 2 ∷ 3 ∷ 1 ∷ 3 ∷ 1 ∷ 0 ∷ [];
  costs = 9 ∷ 4 ∷ 6 ∷ 4 ∷ 2 ∷ 0 ∷ 1 ∷ [];
  holds = 0 ∷ 0 ∷ 1 ∷ 2 ∷ 0 ∷ [];
}

-- Arcs 0→1, 0→2 and 1→0 with a hold of 5 at node 0, where a route comes back to the source (document 02, paper 2; ours).
abbrev pub held_source : Map
held_source = record { nodes = 3; starts = 0 ∷ 2 ∷ 3 ∷ 3 ∷ []; heads = 1 ∷ 2 ∷ 0 ∷ []; costs = 0 ∷ 4 ∷ 0 ∷ []; holds = 5 ∷ 0 ∷ 0 ∷ [] }

-- Arcs 0→2 and 2→1 of cost 0, whose nodes are not scanned by distance and then by number (document 02, paper 6; ours).
abbrev pub zero_chain : Map
zero_chain = record { nodes = 3; starts = 0 ∷ 1 ∷ 1 ∷ 2 ∷ []; heads = 2 ∷ 1 ∷ []; costs = 0 ∷ 0 ∷ []; holds = 0 ∷ 0 ∷ 0 ∷ [] }

-- Nodes 1, 2, 3 and 5 at distance 9, of which node 2 is scanned last, since it is labelled only when 5 is scanned (document 02, paper 6; ours).
abbrev pub ties : Map
ties = record {
  nodes = 6;
  starts = 0 ∷ 2 ∷ 2 ∷ 2 ∷ 2 ∷ 4 ∷ 5 ∷ [];
  heads = 5 ∷ 4 ∷ 3 ∷ 1 ∷ 2 ∷ [];
  costs = 9 ∷ 8 ∷ 1 ∷ 1 ∷ 0 ∷ [];
  holds = 0 ∷ 0 ∷ 0 ∷ 0 ∷ 0 ∷ 0 ∷ [];
}

-- A row of the table: a question and the answer that the documents give.
pub record Row : Type 0 where
  pub question : Question
  pub answer : Answer

infix 90 ◌gives◌
-- A row, written as it reads.
abbrev pub ◌gives◌ : Question → Answer → Row
◌gives◌ q a = record { question = q; answer = a }

-- The marked rows first, then ours.
unfoldable pub edges : List Row
edges =
    buckets_of One 0 gives buckets 2
    ∷ buckets_of One 7 gives buckets 5
    ∷ buckets_of One 8 gives buckets 6
    ∷ buckets_of One 1048575 gives buckets 22
    ∷ buckets_of (Two 3) 8 gives buckets 3
    ∷ buckets_of (Two 3) 9 gives buckets 4
    ∷ buckets_of (Two 16) 1048575 gives buckets 6
    ∷ buckets_of (Two 64) 1048575 gives buckets 5
    ∷ run_of One listing 9 0 gives run 4 2 6 7 9 27 (0 ∷ 6 ∷ 4 ∷ 6 ∷ none ∷ []) (none ∷ 5 ∷ 1 ∷ 2 ∷ none ∷ []) (0 ∷ 2 ∷ 3 ∷ 1 ∷ [])
    ∷ run_of (Two 3) listing 9 0 gives run 4 2 4 7 11 21 (0 ∷ 6 ∷ 4 ∷ 6 ∷ none ∷ []) (none ∷ 5 ∷ 1 ∷ 2 ∷ none ∷ []) (0 ∷ 2 ∷ 3 ∷ 1 ∷ [])
    ∷ run_of One one_node 0 0 gives run 1 0 2 1 1 2 (0 ∷ []) (none ∷ []) (0 ∷ [])
    ∷ run_of (Two 2) one_node 0 0 gives run 1 0 2 1 2 2 (0 ∷ []) (none ∷ []) (0 ∷ [])
    ∷ run_of One zero_pair 0 0 gives run 2 0 2 2 2 4 (0 ∷ 0 ∷ []) (none ∷ 0 ∷ []) (0 ∷ 1 ∷ [])
    ∷ run_of (Two 2) zero_pair 0 0 gives run 2 0 2 2 4 4 (0 ∷ 0 ∷ []) (none ∷ 0 ∷ []) (0 ∷ 1 ∷ [])
    ∷ run_of One high_chain 4 0 gives run 3 0 5 3 10 10 (0 ∷ 4 ∷ 8 ∷ []) (none ∷ 0 ∷ 1 ∷ []) (0 ∷ 1 ∷ 2 ∷ [])
    ∷ run_of (Two 2) low_chain 1 0 gives run 3 0 2 3 8 6 (0 ∷ 1 ∷ 2 ∷ []) (none ∷ 0 ∷ 1 ∷ []) (0 ∷ 1 ∷ 2 ∷ [])
    ∷ run_of (Two 64) one_arc 1 0 gives run 2 0 2 2 125 4 (0 ∷ 1 ∷ []) (none ∷ 0 ∷ []) (0 ∷ 1 ∷ [])
    ∷ run_of One held_listing 9 0 gives run 4 1 6 6 13 22 (0 ∷ 8 ∷ 4 ∷ 6 ∷ none ∷ []) (none ∷ 5 ∷ 1 ∷ 2 ∷ none ∷ []) (0 ∷ 2 ∷ 3 ∷ 1 ∷ [])
    ∷ run_of (Two 3) held_listing 9 0 gives run 4 1 4 5 13 18 (0 ∷ 8 ∷ 4 ∷ 6 ∷ none ∷ []) (none ∷ 5 ∷ 1 ∷ 2 ∷ none ∷ []) (0 ∷ 2 ∷ 3 ∷ 1 ∷ [])
    ∷ run_of One held_source 9 0 gives run 3 0 6 3 6 16 (0 ∷ 0 ∷ 4 ∷ []) (none ∷ 0 ∷ 1 ∷ []) (0 ∷ 1 ∷ 2 ∷ [])
    ∷ run_of (Two 2) held_source 9 0 gives run 3 0 5 3 8 15 (0 ∷ 0 ∷ 4 ∷ []) (none ∷ 0 ∷ 1 ∷ []) (0 ∷ 1 ∷ 2 ∷ [])
    ∷ run_of One zero_chain 0 0 gives run 3 0 2 3 3 6 (0 ∷ 0 ∷ 0 ∷ []) (none ∷ 1 ∷ 0 ∷ []) (0 ∷ 2 ∷ 1 ∷ [])
    ∷ run_of (Two 2) zero_chain 0 0 gives run 3 0 2 3 6 6 (0 ∷ 0 ∷ 0 ∷ []) (none ∷ 1 ∷ 0 ∷ []) (0 ∷ 2 ∷ 1 ∷ [])
    ∷ run_of One ties 9 0 gives run 6 0 6 9 11 39 (0 ∷ 9 ∷ 9 ∷ 9 ∷ 8 ∷ 9 ∷ []) (none ∷ 3 ∷ 4 ∷ 2 ∷ 1 ∷ 0 ∷ []) (0 ∷ 4 ∷ 1 ∷ 3 ∷ 5 ∷ 2 ∷ [])
    ∷ run_of (Two 64) ties 9 0 gives run 6 0 2 6 104 12 (0 ∷ 9 ∷ 9 ∷ 9 ∷ 8 ∷ 9 ∷ []) (none ∷ 3 ∷ 4 ∷ 2 ∷ 1 ∷ 0 ∷ []) (0 ∷ 4 ∷ 1 ∷ 3 ∷ 5 ∷ 2 ∷ [])
    ∷ []
