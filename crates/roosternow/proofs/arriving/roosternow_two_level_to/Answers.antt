-- `roosternow::arriving::roosternow_two_level_to` meets its contract.
use Rattle.roosternow.proofs.arriving.roosternow_two_level_to.Goals as goal

pub returns : goal.returns
returns c = record { answer = c.run_to-two.result; promised = c.run_to-two.ensures; numbers = c.run_words.ensures }
