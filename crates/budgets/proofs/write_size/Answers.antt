-- `budgets::write_size` meets its contract.
use native.Mathlib.Omega.{arith}
use Rattle.fields.proofs.Written.{writes_same, writes_then}
use Rattle.report.specs.Report.{word_one}
use Rattle.budgets.specs.Budget.{most_reached, Small}
use Rattle.budgets.proofs.Sizing.{Sized, passed_sized, one_small, two_small, heap_most, size_whole}
use Rattle.budgets.proofs.write_size.Goals as goal

pub buckets-one-requires : goal.buckets-one-requires
buckets-one-requires c =
    let sized : Sized c.args.nodes c.args.arcs c.args.ceiling c.args.segments = passed_sized c.args.nodes c.args.arcs c.args.ceiling c.args.segments c.requires.segments_value in
    record { ceiling_bound = sized.low_ceiling; allowed = tt }

pub buckets-two-requires : goal.buckets-two-requires
buckets-two-requires c =
    let sized : Sized c.args.nodes c.args.arcs c.args.ceiling c.args.segments = passed_sized c.args.nodes c.args.arcs c.args.ceiling c.args.segments c.requires.segments_value in
    record { ceiling_bound = sized.low_ceiling; allowed = (sized.segments_low, sized.segments_high) }

pub write_heap-next-requires : goal.write_heap-next-requires
write_heap-next-requires c =
    let sized : Sized c.args.nodes c.args.arcs c.args.ceiling c.args.segments = passed_sized c.args.nodes c.args.arcs c.args.ceiling c.args.segments c.requires.segments_value in
    let first_small : Small (most_reached c.args.nodes c.args.arcs) c.buckets-one.result c.args.arcs = one_small sized c.buckets-one.ensures in
    record { small = (first_small, omega (arith, first_small.few)); word_in_bounds = omega (arith, c.requires.in_bounds) }

pub overflow_add-two : goal.overflow_add-two
overflow_add-two c =
    let sized : Sized c.args.nodes c.args.arcs c.args.ceiling c.args.segments = passed_sized c.args.nodes c.args.arcs c.args.ceiling c.args.segments c.requires.segments_value in
    let second-small : Small (most_reached c.args.nodes c.args.arcs) c.buckets-two.result c.args.arcs = two_small sized c.buckets-two.ensures in
    record { fits = omega (arith, second-small.few, sized.segments_high) }

pub write_heap-requires : goal.write_heap-requires
write_heap-requires c =
    let sized : Sized c.args.nodes c.args.arcs c.args.ceiling c.args.segments = passed_sized c.args.nodes c.args.arcs c.args.ceiling c.args.segments c.requires.segments_value in
    let second-small : Small (most_reached c.args.nodes c.args.arcs) c.buckets-two.result c.args.arcs = two_small sized c.buckets-two.ensures in
    record {
      small = (second-small, omega (arith, second-small.few, sized.segments_high));
      word_in_bounds = omega (
        arith,
        c.requires.in_bounds,
        c.write_heap-next.ensures.behind,
        heap_most word_one c.args.nodes c.args.arcs c.buckets-one.result c.buckets-one.result,
      );
    }

pub returns : goal.returns
returns c =
    let a = c.args in
    writes_same (size_whole a.nodes a.arcs a.ceiling a.segments c.buckets-one.ensures c.buckets-two.ensures)
    (writes_then c.write_heap-next.ensures c.write_heap.ensures)
