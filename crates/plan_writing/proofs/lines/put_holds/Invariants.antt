-- The lines of the first holds are written.
use lib.ListN.{take}
use Rattle.fields.specs.Writing.{Writes}
use Rattle.plan_text.specs.Rendering.{render_holds}
use Rattle.plan_writing.proofs.lines.put_holds.Given as goal

abbrev pub invariant-loop-hold : goal.invariant-loop-hold
invariant-loop-hold l = Writes l.at (render_holds (take l.hold-index l.holds)) l.initial.buffer l.buffer l.next
