-- `roosternow::roosternow_read` meets its contract.
use Rattle.roosternow.proofs.roosternow_read.Goals as goal

pub returns : goal.returns
returns c = record { answer = c.read-answer.result; promised = c.read-answer.ensures; numbers = c.read_words.ensures }
