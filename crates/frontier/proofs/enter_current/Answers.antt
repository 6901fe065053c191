-- `frontier::enter_current` meets its contract.
use native.Mathlib.Omega.{arith}
use Rattle.frontier.specs.Frontier.Laws.{set_bits, absent, inserted_placed}
use Rattle.frontier.proofs.enter_current.Goals as goal

pub insert-requires-clause-bit_set : goal.insert-requires-clause-bit_set
insert-requires-clause-bit_set c = set_bits c.requires.frontier

pub insert-requires-clause-not_in : goal.insert-requires-clause-not_in
insert-requires-clause-not_in c = absent c.requires.frontier c.args.v.0 (omega (arith, c.requires.v_lt_n.1))

pub returns : goal.returns
returns c = inserted_placed c.requires.frontier c.requires.v_lt_n.0 c.requires.v_lt_n.1 c.insert.ensures
