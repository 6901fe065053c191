-- `roosternow::roosternow_one_level` meets its contract.
use Rattle.roosternow.proofs.roosternow_one_level.Goals as goal

pub returns : goal.returns
returns c = record { answer = c.run-one.result; promised = c.run-one.ensures; numbers = c.run_words.ensures }
