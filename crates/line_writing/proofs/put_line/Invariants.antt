-- The first i fields are written.
use Rattle.fields.specs.Writing.{Writes}
use Rattle.line_writing.proofs.Rendered.{first_fields}
use Rattle.line_writing.proofs.put_line.Given as goal

abbrev pub invariant-loop-i : goal.invariant-loop-i
invariant-loop-i l = Writes l.at (first_fields l.values l.i) l.initial.buffer l.buffer l.next
