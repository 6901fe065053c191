-- Each turn reads one field more.
use lib.ListN.{length}
use Rattle.fields.proofs.LineReading.{ReadTo}
use Rattle.fields.proofs.reading.line_at.Given as goal

abbrev pub invariant-loop-i : goal.invariant-loop-i
invariant-loop-i l = ReadTo l.separator (length l.initial.values) l.bytes l.at l.initial.values l.values l.next l.i
