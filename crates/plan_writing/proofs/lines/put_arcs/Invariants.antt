-- The lines of the first a arcs are written, of which the next is the first that leaves node v.
use lib.ListN.{get_or}
use Rattle.theory.specs.Sums.{list_below}
use Rattle.fields.specs.Writing.{Writes}
use Rattle.plan_text.specs.Rendering.{render_arcs}
use Rattle.plan_text.specs.Files.{arc_at}
use Rattle.plan_writing.proofs.lines.put_arcs.Given as goal

abbrev pub invariant-loop-v : goal.invariant-loop-v
invariant-loop-v l = Writes l.at (render_arcs (list_below (get_or l.starts l.v 0) (arc_at l.n l.starts l.heads l.costs))) l.initial.buffer l.buffer l.next

abbrev pub invariant-loop-a : goal.invariant-loop-a
invariant-loop-a l = Writes l.at (render_arcs (list_below l.a (arc_at l.n l.starts l.heads l.costs))) l.fn.buffer l.buffer l.next
