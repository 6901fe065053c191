-- `roosternow::writing::roosternow_write` meets its contract.
use Rattle.roosternow.proofs.writing.roosternow_write.Goals as goal

pub returns : goal.returns
returns c = record { answer = c.write-answer.result; promised = c.write-answer.ensures; numbers = c.write_words.ensures }
