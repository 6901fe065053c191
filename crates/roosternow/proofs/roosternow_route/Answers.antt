-- `roosternow::roosternow_route` meets its contract.
use Rattle.roosternow.proofs.roosternow_route.Goals as goal

pub returns : goal.returns
returns c = record { answer = c.route-answer.result; promised = c.route-answer.ensures; numbers = c.route_words.ensures }
