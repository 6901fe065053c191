-- `frontier::scan_slot` meets its contract.
use native.Mathlib.Omega.{arith}
use Rattle.buckets.specs.Links.Laws.{linked_mark, moved_here, moved_again}
use Rattle.frontier.specs.Frontier.Laws.{moved_placed}
use Rattle.frontier.proofs.scan_slot.Goals as goal

pub returns : goal.returns
returns c =
    let m = c.take.ensures in
    let v = c.args.v.0 in
    let hv = c.requires.v_lt_n.0 in
    let here = moved_here c.requires.frontier.linked m hv in
    moved_placed c.requires.frontier (moved_again c.requires.frontier.linked m (linked_mark m.linked v hv 2 (omega arith) (omega arith))) hv (omega (arith, c.requires.v_lt_n.1)) (omega arith)
