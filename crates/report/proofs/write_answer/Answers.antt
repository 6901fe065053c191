-- Its lines are written one behind the other.
use native.Mathlib.Omega.{arith}
use Rattle.fields.proofs.Written.{writes_same, writes_then}
use Rattle.report.specs.Report.{word_one, word_two}
use Rattle.report.proofs.Lines.{counts_most, heap_most, accepted_whole}
use Rattle.report.proofs.write_answer.Goals as goal

pub write_heap-third-requires : goal.write_heap-third-requires
write_heap-third-requires c =
    let given = c.args in
    omega (
      arith,
      counts_most given.nodes given.arcs given.one.reached given.one.counts.decreases,
      c.write_counts-second.ensures.behind,
    )

pub write_heap-next-requires : goal.write_heap-next-requires
write_heap-next-requires c =
    let given = c.args in
    omega (
      arith,
      counts_most given.nodes given.arcs given.one.reached given.one.counts.decreases,
      heap_most word_one given.one.buckets given.one.counts.placements given.one.counts.looks given.one.counts.reads,
      c.write_counts-second.ensures.behind,
      c.write_heap-third.ensures.behind,
    )

pub write_nodes-requires : goal.write_nodes-requires
write_nodes-requires c =
    let given = c.args in record {
      nodes_in_bounds = omega (
        arith,
        counts_most given.nodes given.arcs given.one.reached given.one.counts.decreases,
        heap_most word_one given.one.buckets given.one.counts.placements given.one.counts.looks given.one.counts.reads,
        heap_most word_two given.two.buckets given.two.counts.placements given.two.counts.looks given.two.counts.reads,
        c.write_counts-second.ensures.behind,
        c.write_heap-third.ensures.behind,
        c.write_heap-next.ensures.behind,
        c.requires.nodes_in_bounds,
      );
      lists_hold_nodes = c.requires.lists_hold_nodes;
    }

pub returns : goal.returns
returns c =
    writes_same (accepted_whole _ _ _ _ _ _ _ _ _ _ _ _ _ _)
    (writes_then (writes_then (writes_then c.write_counts-second.ensures c.write_heap-third.ensures) c.write_heap-next.ensures)
    c.write_nodes.ensures)
