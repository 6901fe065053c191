-- The numbers of each answer as words (document 01, "What a call returns").
use Rattle.std.specs.Prelude.{ℕ, ◌-◌, List, [], ◌∷◌, replicate}
use Rattle.model.specs.declared.Counts.{Counts}
use Rattle.model.specs.Answers.{Numbers}
use Rattle.route.specs.Routes.{RouteNumbers}
use Rattle.reader.specs.Promise.{PlanNumbers}
use Rattle.dimacs.specs.Promise.{DimacsNumbers}
use Rattle.writer.specs.Promise.{WriteNumbers}

-- Number and place of what is refused, then zeros, `count` words in all (document 01, "What a call returns").
abbrev pub refused_words : (count number place : ℕ) → List ℕ
refused_words count number place = number ∷ place ∷ replicate (count - 2) 0

-- The counts: decreases, placements, looks and reads (document 01, "The tallies"; document 02, paper 3).
abbrev pub counts_as_words : Counts → List ℕ
counts_as_words counts = counts.decreases ∷ counts.placements ∷ counts.looks ∷ counts.reads ∷ []

-- Number and place, then r, B and the counts (document 01, "What the planner holds and leaves out" and "What a call
-- returns").
abbrev pub run_words : Numbers → List ℕ
run_words numbers =
    numbers.returned ∷ numbers.place ∷ numbers.reached ∷ numbers.buckets ∷ counts_as_words numbers.counts

-- Number and place, then the number of nodes of the route (document 01, "Routes" and "What a call returns").
abbrev pub route_words : RouteNumbers → List ℕ
route_words numbers = numbers.returned ∷ numbers.place ∷ numbers.nodes ∷ []

-- Number and place, then line 1's five numbers (document 01, "Planning file" and "What a call returns").
abbrev pub read_words : PlanNumbers → List ℕ
read_words numbers =
    numbers.returned ∷ numbers.place ∷ numbers.nodes ∷ numbers.arcs ∷ numbers.ceiling ∷ numbers.source ∷ numbers.segments ∷ []

-- Number and place, then n and m (document 02, paper 1).
abbrev pub dimacs_words : DimacsNumbers → List ℕ
dimacs_words numbers = numbers.returned ∷ numbers.place ∷ numbers.nodes ∷ numbers.arcs ∷ []

-- Number and place, then the length of the file (document 02, paper 5).
abbrev pub write_words : WriteNumbers → List ℕ
write_words numbers = numbers.returned ∷ numbers.place ∷ numbers.length ∷ []
