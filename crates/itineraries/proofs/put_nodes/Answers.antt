-- `itineraries::put_nodes` meets its contract: the first nodes are written.
use mathlib.Core.Path.{◌≡◌, sym}
use native.Mathlib.Numerals.{add-one}
use native.Mathlib.Omega.{arith}
use lib.ListN.{length}
use lib.Seq.{take-length}
use borrow.Author.Rules.{rules}
use Rattle.fields.proofs.Written.{writes_nothing, writes_then, writes_same, writes_length}
use Rattle.itineraries.proofs.Lines.{commas_none, commas_next, first_most}
use Rattle.itineraries.proofs.put_nodes.Goals as goal

pub loop-node-init : goal.loop-node-init
loop-node-init c = writes_same (sym commas_none) (writes_nothing _ _ (omega arith))

pub put_byte-number-requires : goal.put_byte-number-requires
put_byte-number-requires c =
    let loop = c.loop-node in
    omega (arith, first_most c.args.nodes.now c.requires.few loop.node-index (search rules), loop.invariant.behind, writes_length loop.invariant, c.requires.nodes_in_bounds)

pub put_number-next-requires : goal.put_number-next-requires
put_number-next-requires c =
    let loop = c.loop-node in
    omega (
      arith,
      first_most c.args.nodes.now c.requires.few loop.node-index (search rules),
      loop.invariant.behind,
      writes_length loop.invariant,
      c.requires.nodes_in_bounds,
      c.put_byte-number.ensures.behind,
      writes_length c.put_byte-number.ensures,
    )

pub loop-node-preserved : goal.loop-node-preserved
loop-node-preserved c =
    let loop = c.loop-node in
    let nodes = c.args.nodes.now in
    rw (add-one loop.node-index)
    (writes_same (commas_next nodes loop.node-index (search rules))
    (writes_then (writes_then loop.invariant c.put_byte-number.ensures) c.put_number-next.ensures))

pub shape_of-output : goal.shape_of-output
shape_of-output c = writes_length c.loop-node.invariant

pub returns : goal.returns
returns c =
    let loop = c.loop-node in
    let nodes = c.args.nodes.now in
    let all : loop.node-index ≡ length nodes = search rules in
    writes_same (rw (all, take-length nodes)) loop.invariant
