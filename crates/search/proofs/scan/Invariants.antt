-- `search::scan` meets its contract.
use Rattle.search.proofs.Arcs.{Scanned}
use Rattle.search.proofs.scan.Given as goal

abbrev pub invariant-loop-a : goal.invariant-loop-a
invariant-loop-a l =
    Scanned l.layout l.sizes l.heads l.costs l.hold l.first l.last l.initial.words l.initial.distances l.initial.parents l.initial.reached l.words l.distances l.parents l.reached l.a
