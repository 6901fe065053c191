-- The lines of the first v nodes are written.
use native.Mathlib.Numerals.{add-one}
use native.Mathlib.Omega.{arith}
use Rattle.fields.proofs.Written.{writes_nothing, writes_then, writes_same, writes_length}
use Rattle.report.specs.Report.{node_lines}
use Rattle.report.proofs.Lines.{nodes_next, nodes_most}
use Rattle.report.proofs.write_nodes.Goals as goal

pub loop-v-init : goal.loop-v-init
unfolding node_lines
loop-v-init c = writes_nothing _ _ (omega arith)

pub write_node-next-requires : goal.write_node-next-requires
write_node-next-requires c =
    let loop = c.loop-v in
    omega (
      arith,
      nodes_most loop.v c.args.distances.now c.args.parents.now,
      loop.invariant.behind,
      writes_length loop.invariant,
      c.requires.nodes_in_bounds,
      c.loop-v-test.true,
    )

pub loop-v-preserved : goal.loop-v-preserved
loop-v-preserved c =
    let loop = c.loop-v in
    let given = c.args in
    rw (add-one loop.v)
    (writes_same (nodes_next loop.v given.distances.now given.parents.now)
    (writes_then loop.invariant c.write_node-next.ensures))
