-- `conversion::write_front` meets its contract: the file of the map at the front of the lists, or the line of the writer's refusal. Assumes
-- nothing.
use Prim.Native.Nat.{ℕ}
use native.Mathlib.Omega.{arith}
use mathlib.Core.Path.{sym}
use lib.ListN.{length-replicate}
use lib.Seq.{length-take-le}
use borrow.Author.Rules.{rules}
use Rattle.conversion.proofs.Writing.{front_written, front_refused}
use Rattle.conversion.proofs.write_front.Goals as goal

pub returns-in-Ok : goal.returns-in-Ok
returns-in-Ok c =
    front_written c.args.nodes c.args.arcs c.args.ceiling c.args.source.0 c.args.starts.now c.args.heads.now c.args.costs.now
    c.requires.nodes_fit c.args.segments c.write.ensures c.in-Ok.is

pub returns-in-Err : goal.returns-in-Err
returns-in-Err c =
    front_refused c.args.nodes c.args.arcs c.args.ceiling c.args.source.0 c.args.starts.now c.args.heads.now c.args.costs.now
    c.requires.nodes_fit c.args.segments c.write.ensures c.in-Err.is c.write_refusal.ensures

pub slice_bounds-given-end : goal.slice_bounds-given-end
slice_bounds-given-end c = sym (length-take-le _ _ (search rules))

pub slice_bounds-given-end-2 : goal.slice_bounds-given-end-2
slice_bounds-given-end-2 c = sym (length-take-le _ _ (search rules))

pub slice_bounds-given-end-3 : goal.slice_bounds-given-end-3
slice_bounds-given-end-3 c = sym (length-take-le _ _ (search rules))

pub slice_bounds-given-end-4 : goal.slice_bounds-given-end-4
slice_bounds-given-end-4 c = sym (length-take-le _ _ (omega (arith, length-replicate {A = ℕ} 512 0, c.requires.nodes_fit)))
