-- `buckets::first` meets its contract: the head word tells.
use native.Mathlib.Omega.{arith}
use Rattle.buckets.specs.Links.Walk.{first_none, first_some}
use Rattle.buckets.proofs.first.Goals as goal

pub returns-then-first-eq0 : goal.returns-then-first-eq0
returns-then-first-eq0 c = first_none c.requires.linked c.args.slot c.requires.slot_lt_slots (omega arith)

pub returns : goal.returns
returns c = first_some c.requires.linked c.args.slot c.requires.slot_lt_slots _ (omega arith)
