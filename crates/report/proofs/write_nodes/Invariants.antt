-- The lines of the first v nodes are written.
use Rattle.fields.specs.Writing.{Writes}
use Rattle.report.specs.Report.{node_lines}
use Rattle.report.proofs.write_nodes.Given as goal

abbrev pub invariant-loop-v : goal.invariant-loop-v
invariant-loop-v l = Writes l.at (node_lines l.v l.distances l.parents) l.initial.buffer l.buffer l.next
