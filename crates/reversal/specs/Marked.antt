-- Reversed maps and runs to a destination, by their numbers: a table of our own for the rules of document 02, paper 7.
use Rattle.std.specs.Prelude.{ℕ, List, [], ◌∷◌, length}
use Rattle.theory.specs.Maps.{none, Map}
use Rattle.theory.specs.Heap.{Heap, placements}
use Rattle.theory.specs.Runs.{heap_buckets}
use Rattle.theory.specs.declared.Levels.{Levels}
use Rattle.theory.specs.declared.Levels.TheVariants.{One, Two}
use Rattle.theory.specs.Edges.{Answer, run, listing}
use Rattle.reversal.specs.Reversed.{old_numbers, reversed, old_parents, steps_to}

-- What is asked: the lists of a reversed map, or a run to a destination (document 02, paper 7).
pub data ReversalQuestion : Type 0 where
  lists_of : Map → ReversalQuestion
  run_to : Levels → Map → (C destination : ℕ) → ReversalQuestion

-- What is told: starts, heads, costs and old numbers, or what a run gives back, with parents by old numbers (document 02, paper 7).
pub data ReversalAnswer : Type 0 where
  lists : (starts heads costs old : List ℕ) → ReversalAnswer
  ran : Answer → ReversalAnswer

-- What a run to a destination gives back of its steps, for a heap of B buckets (document 02, paper 7).
abbrev pub given_to : Map → (B : ℕ) → Heap → Answer
given_to M B h =
    run (length h.search.roster) h.search.decreases B (placements h) h.looks h.reads
    h.search.distances (old_parents M h.search.parents) h.search.roster

-- What the definitions tell (document 02, paper 7).
unfoldable pub reversal_answer : ReversalQuestion → ReversalAnswer
reversal_answer (lists_of M) = lists (reversed M).starts (reversed M).heads (reversed M).costs (old_numbers M)
reversal_answer (run_to L M C destination) = ran (given_to M (heap_buckets L C) (steps_to L (record { map = M; ceiling = C; source = destination })))

-- The listing's map with holds. Through node 3, whose hold is paid, node 2's route to node 1 is dearer than its arc, and node 0's costs as much
-- as its arc, which is examined first (document 02, papers 2 and 7; the holds are ours).
abbrev pub arrival_listing : Map
arrival_listing = record {
  nodes = 5;
  starts = 0 ∷ 3 ∷ 3 ∷ 5 ∷ 6 ∷ 7 ∷ [];
  heads = 1 ∷ 2 ∷ 3 ∷ 1 ∷ 3 ∷ 1 ∷ 0 ∷ [];
  costs = 9 ∷ 4 ∷ 6 ∷ 4 ∷ 2 ∷ 0 ∷ 1 ∷ [];
  holds = 1 ∷ 0 ∷ 2 ∷ 3 ∷ 0 ∷ [];
}

-- Arcs 0→2, 0→1, 1→3 and 2→3 of cost 1, where arc 1 arrives at the smaller node: the parent of node 0 is arc 1 (document 02, paper 7; ours).
abbrev pub diamond : Map
diamond = record {
  nodes = 4;
  starts = 0 ∷ 2 ∷ 3 ∷ 4 ∷ 4 ∷ [];
  heads = 2 ∷ 1 ∷ 3 ∷ 3 ∷ [];
  costs = 1 ∷ 1 ∷ 1 ∷ 1 ∷ [];
  holds = 0 ∷ 0 ∷ 0 ∷ 0 ∷ [];
}

-- Arc 0→1 of cost 5 into a destination with a hold of 4, which is not paid (document 02, papers 2 and 7; ours).
abbrev pub held_destination : Map
held_destination = record { nodes = 2; starts = 0 ∷ 1 ∷ 1 ∷ []; heads = 1 ∷ []; costs = 5 ∷ []; holds = 0 ∷ 4 ∷ [] }

-- A row of the table (document 02, paper 7).
pub record ReversalRow : Type 0 where
  pub question : ReversalQuestion
  pub answer : ReversalAnswer

infix 90 ◌answered◌
-- A row, written as it reads (document 02, paper 7).
abbrev pub ◌answered◌ : ReversalQuestion → ReversalAnswer → ReversalRow
◌answered◌ question answer = record { question = question; answer = answer }

-- The lists of two reversed maps, and runs of both heaps to a destination (document 02, paper 7).
unfoldable pub reversal_rows : List ReversalRow
reversal_rows =
    lists_of listing
    answered lists (0 ∷ 1 ∷ 4 ∷ 5 ∷ 7 ∷ 7 ∷ []) (4 ∷ 0 ∷ 2 ∷ 3 ∷ 0 ∷ 0 ∷ 2 ∷ []) (1 ∷ 9 ∷ 4 ∷ 0 ∷ 4 ∷ 6 ∷ 2 ∷ []) (6 ∷ 0 ∷ 3 ∷ 5 ∷ 1 ∷ 2 ∷ 4 ∷ [])
    ∷ lists_of diamond answered lists (0 ∷ 0 ∷ 1 ∷ 2 ∷ 4 ∷ []) (0 ∷ 0 ∷ 1 ∷ 2 ∷ []) (1 ∷ 1 ∷ 1 ∷ 1 ∷ []) (1 ∷ 0 ∷ 2 ∷ 3 ∷ [])
    ∷ run_to One listing 9 1
    answered ran (run 5 2 6 7 11 31 (6 ∷ 0 ∷ 2 ∷ 0 ∷ 7 ∷ []) (2 ∷ none ∷ 4 ∷ 5 ∷ 6 ∷ []) (1 ∷ 3 ∷ 2 ∷ 0 ∷ 4 ∷ []))
    ∷ run_to (Two 3) listing 9 1
    answered ran (run 5 2 4 7 15 24 (6 ∷ 0 ∷ 2 ∷ 0 ∷ 7 ∷ []) (2 ∷ none ∷ 4 ∷ 5 ∷ 6 ∷ []) (1 ∷ 3 ∷ 2 ∷ 0 ∷ 4 ∷ []))
    ∷ run_to One arrival_listing 9 1
    answered ran (run 5 0 6 5 14 24 (9 ∷ 0 ∷ 4 ∷ 0 ∷ 11 ∷ []) (0 ∷ none ∷ 3 ∷ 5 ∷ 6 ∷ []) (1 ∷ 3 ∷ 2 ∷ 0 ∷ 4 ∷ []))
    ∷ run_to (Two 3) arrival_listing 9 1
    answered ran (run 5 0 4 5 16 20 (9 ∷ 0 ∷ 4 ∷ 0 ∷ 11 ∷ []) (0 ∷ none ∷ 3 ∷ 5 ∷ 6 ∷ []) (1 ∷ 3 ∷ 2 ∷ 0 ∷ 4 ∷ []))
    ∷ run_to One diamond 5 3 answered ran (run 4 0 5 5 7 21 (2 ∷ 1 ∷ 1 ∷ 0 ∷ []) (1 ∷ 2 ∷ 3 ∷ none ∷ []) (3 ∷ 1 ∷ 2 ∷ 0 ∷ []))
    ∷ run_to (Two 2) diamond 5 3 answered ran (run 4 0 4 4 11 16 (2 ∷ 1 ∷ 1 ∷ 0 ∷ []) (1 ∷ 2 ∷ 3 ∷ none ∷ []) (3 ∷ 1 ∷ 2 ∷ 0 ∷ []))
    ∷ run_to One held_destination 9 1 answered ran (run 2 0 6 2 5 10 (5 ∷ 0 ∷ []) (0 ∷ none ∷ []) (1 ∷ 0 ∷ []))
    ∷ run_to (Two 2) held_destination 9 1 answered ran (run 2 0 5 2 6 10 (5 ∷ 0 ∷ []) (0 ∷ none ∷ []) (1 ∷ 0 ∷ []))
    ∷ []
