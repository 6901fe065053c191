-- What the library has written lies within the output.
use Rattle.std.proofs.Common.{sym, length-take-le}
use Rattle.planning.proofs.Answering.{answer_within}
use Rattle.plan.proofs.main.Goals as goal

pub slice_bounds-output-end : goal.slice_bounds-output-end
slice_bounds-output-end c = answer_within c.answer-written.ensures

pub slice_bounds-write_all-end : goal.slice_bounds-write_all-end
slice_bounds-write_all-end c = sym (length-take-le _ _ (answer_within c.answer-written.ensures))
