-- `frontier::take_current` meets its contract.
use Rattle.frontier.specs.Frontier.Laws.{set_bits, inhabited, taken_first}
use Rattle.frontier.proofs.take_current.Goals as goal

pub take_smallest-v-requires : goal.take_smallest-v-requires
take_smallest-v-requires c = record { bit_set = set_bits c.requires.frontier; inhabited = inhabited c.requires.frontier c.requires.current }

pub returns : goal.returns
returns c = taken_first c.requires.frontier c.take_smallest-v.ensures
