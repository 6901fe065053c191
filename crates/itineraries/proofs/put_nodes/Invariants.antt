-- `itineraries::put_nodes` meets its contract: the first nodes are written.
use lib.ListN.{take}
use Rattle.fields.specs.Writing.{Writes}
use Rattle.itineraries.specs.Itineraries.{behind_commas}
use Rattle.itineraries.proofs.put_nodes.Given as goal

abbrev pub invariant-loop-node : goal.invariant-loop-node
invariant-loop-node l = Writes l.at (behind_commas (take l.node-index l.nodes)) l.initial.output l.output l.next
