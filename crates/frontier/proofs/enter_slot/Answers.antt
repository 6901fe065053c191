-- `frontier::enter_slot` meets its contract.
use native.Mathlib.Omega.{arith}
use Rattle.frontier.specs.Frontier.Laws.{moved_placed}
use Rattle.frontier.proofs.enter_slot.Goals as goal

pub returns : goal.returns
returns c = moved_placed c.requires.frontier c.put.ensures c.requires.v_lt_n.0 (omega (arith, c.requires.v_lt_n.1)) (omega arith)
