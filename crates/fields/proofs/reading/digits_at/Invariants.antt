-- The digits counted so far are followed by the rest.
use lib.ListN.{drop}
use Rattle.fields.proofs.Digits.{Counted}
use Rattle.fields.proofs.reading.digits_at.Given as goal

abbrev pub invariant-loop-count : goal.invariant-loop-count
invariant-loop-count l = Counted (drop l.at l.bytes) l.count l.value
