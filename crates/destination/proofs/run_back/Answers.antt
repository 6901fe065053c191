-- `destination::run_back` meets its contract: the steps are those of the reversed map.
use Rattle.destination.proofs.Accepted.{reversible, starts_part, heads_part, costs_part, arcs_part, arcs_fit, ready_given, parents_part, parents_fit, parents_kept, renamed_ran}
use Rattle.destination.proofs.run_back.Goals as goal

pub reverse-requires : goal.reverse-requires
reverse-requires c = reversible _ c.requires

pub slice_bounds-back-end-2 : goal.slice_bounds-back-end-2
slice_bounds-back-end-2 c = starts_part _ c.requires (c.reverse.ensures _)

pub slice_bounds-back-end-4 : goal.slice_bounds-back-end-4
slice_bounds-back-end-4 c = heads_part _ c.requires (c.reverse.ensures _)

pub slice_bounds-back-end-6 : goal.slice_bounds-back-end-6
slice_bounds-back-end-6 c = costs_part _ c.requires (c.reverse.ensures _)

pub run_steps-run-requires : goal.run_steps-run-requires
run_steps-run-requires c = ready_given _ c.requires (c.reverse.ensures _)

pub slice_bounds-rename-end : goal.slice_bounds-rename-end
slice_bounds-rename-end c = parents_fit _ c.requires (c.reverse.ensures _) c.run_steps-run.ensures

pub slice_bounds-rename-end-2 : goal.slice_bounds-rename-end-2
slice_bounds-rename-end-2 c = parents_part _ c.requires (c.reverse.ensures _) c.run_steps-run.ensures

pub slice_bounds-rename-end-3 : goal.slice_bounds-rename-end-3
slice_bounds-rename-end-3 c = arcs_fit _ c.requires (c.reverse.ensures _)

pub slice_bounds-rename-end-4 : goal.slice_bounds-rename-end-4
slice_bounds-rename-end-4 c = arcs_part _ c.requires (c.reverse.ensures _)

pub shape_of-parents : goal.shape_of-parents
shape_of-parents c = parents_kept _ c.requires (c.reverse.ensures _) c.run_steps-run.ensures c.rename.ensures

pub returns : goal.returns
returns c = renamed_ran _ c.requires (c.reverse.ensures _) c.run_steps-run.ensures c.rename.ensures
