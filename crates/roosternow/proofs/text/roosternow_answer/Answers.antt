-- `roosternow::text::roosternow_answer` meets its contract.
use Rattle.roosternow.proofs.text.roosternow_answer.Goals as goal

pub returns : goal.returns
returns c = c.answer.ensures
