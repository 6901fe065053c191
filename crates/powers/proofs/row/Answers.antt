-- `powers::row` meets its contract: both constants pass the tests of the whole table, which are computed here.
use mathlib.Core.Path.{sym}
use mathlib.Core.Logic.{inl, inr}
use borrow.Author.Rules.{rules}
use Rattle.powers.specs.Powers.{power, power_row}
use Rattle.powers.proofs.Rule.{row_none}
use Rattle.powers.proofs.row.Goals as goal

-- no number is 0, and every row stands where its start says: each computed of the constants, once
pub stored-requires : goal.stored-requires
unfolding power power_row
stored-requires c = record { no_zero = tt; rows_stand = tt; le_segments = search rules; segments_bound = search rules }

pub returns-in_default : goal.returns-in_default
returns-in_default c = sym (row_none c.args.segments (inl (search rules)))

pub returns-in_default-2 : goal.returns-in_default-2
returns-in_default-2 c = sym (row_none c.args.segments (inr (search rules)))
