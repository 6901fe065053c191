-- `roosternow::roosternow_two_level` meets its contract.
use Rattle.roosternow.proofs.roosternow_two_level.Goals as goal

pub returns : goal.returns
returns c = record { answer = c.run-two.result; promised = c.run-two.ensures; numbers = c.run_words.ensures }
