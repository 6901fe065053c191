-- `roosternow::arriving::roosternow_one_level_to` meets its contract.
use Rattle.roosternow.proofs.arriving.roosternow_one_level_to.Goals as goal

pub returns : goal.returns
returns c = record { answer = c.run_to-one.result; promised = c.run_to-one.ensures; numbers = c.run_words.ensures }
