-- `frontier::take_first` meets its contract.
use Rattle.frontier.specs.Frontier.Laws.{first_left}
use Rattle.frontier.proofs.take_first.Goals as goal

pub returns : goal.returns
returns c =
    let t = c.take_first in
    first_left c.requires.frontier t.new.words c.args.slot t.result t.ensures
