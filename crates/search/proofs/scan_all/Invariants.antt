-- `search::scan_all` meets its contract: the measure is how many nodes are not scanned.
use Prim.Native.Nat.{◌-◌}
use Rattle.search.proofs.Stepping.{Stepped}
use Rattle.search.proofs.scan_all.Given as goal

abbrev pub invariant-loop-step : goal.invariant-loop-step
invariant-loop-step l =
    Stepped l.layout l.sizes l.starts l.heads l.costs l.holds l.source.0 l.initial.words l.initial.distances l.initial.parents l.initial.roster l.initial.step l.words l.distances l.parents l.roster l.step

abbrev pub decreases-loop-step : goal.decreases-loop-step
decreases-loop-step l = l.layout.nodes - l.step.reached
