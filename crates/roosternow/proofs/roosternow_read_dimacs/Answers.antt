-- `roosternow::roosternow_read_dimacs` meets its contract.
use Rattle.roosternow.proofs.roosternow_read_dimacs.Goals as goal

pub returns : goal.returns
returns c = record { answer = c.read-answer.result; promised = c.read-answer.ensures; numbers = c.dimacs_words.ensures }
