-- The lines of the first a arcs are counted, of which the next is the first that leaves node v.
use mathlib.Core.Path.{◌≡◌}
use lib.ListN.{length, get_or}
use Rattle.theory.specs.Sums.{list_below}
use Rattle.plan_text.specs.Rendering.{render_arcs}
use Rattle.plan_text.specs.Files.{arc_at}
use Rattle.plan_writing.proofs.lengths.arcs_length.Given as goal

abbrev pub invariant-loop-v : goal.invariant-loop-v
invariant-loop-v l = l.total ≡ length (render_arcs (list_below (get_or l.starts l.v 0) (arc_at l.n l.starts l.heads l.costs)))

abbrev pub invariant-loop-a : goal.invariant-loop-a
invariant-loop-a l = l.total ≡ length (render_arcs (list_below l.a (arc_at l.n l.starts l.heads l.costs)))
