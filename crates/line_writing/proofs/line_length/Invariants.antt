-- The first fields are counted.
use mathlib.Core.Path.{◌≡◌}
use lib.ListN.{length}
use Rattle.line_writing.proofs.Rendered.{first_fields}
use Rattle.line_writing.proofs.line_length.Given as goal

abbrev pub invariant-loop-value : goal.invariant-loop-value
invariant-loop-value l = l.total ≡ length (first_fields l.values l.value-index)
