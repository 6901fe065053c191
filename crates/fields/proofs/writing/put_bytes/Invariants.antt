-- The first bytes are written.
use lib.ListN.{take}
use Rattle.fields.specs.Writing.{Writes}
use Rattle.fields.proofs.writing.put_bytes.Given as goal

abbrev pub invariant-loop-byte : goal.invariant-loop-byte
invariant-loop-byte l = Writes l.at (take l.byte-index l.bytes) l.initial.buffer l.buffer l.next
