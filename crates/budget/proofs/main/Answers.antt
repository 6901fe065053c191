-- What the library has written lies within the output.
use Rattle.std.proofs.Common.{sym, length-take-le}
use Rattle.fields.proofs.Written.{writes_inside}
use Rattle.budget.proofs.main.Goals as goal

pub slice_bounds-output-end : goal.slice_bounds-output-end
slice_bounds-output-end c = writes_inside c.answer-written.ensures

pub slice_bounds-write_all-end : goal.slice_bounds-write_all-end
slice_bounds-write_all-end c = sym (length-take-le _ _ (writes_inside c.answer-written.ensures))
