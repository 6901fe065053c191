-- The lines of the first holds are counted.
use mathlib.Core.Path.{◌≡◌}
use lib.ListN.{length, take}
use Rattle.plan_text.specs.Rendering.{render_holds}
use Rattle.plan_writing.proofs.lengths.holds_length.Given as goal

abbrev pub invariant-loop-hold : goal.invariant-loop-hold
invariant-loop-hold l = l.total ≡ length (render_holds (take l.hold-index l.holds))
