use mathlib.Core.Path.{ap, ◌∙◌}
use Rattle.plan_lines.specs.Lines.{hold_line_of, hold_line}
use Rattle.plan_lines.proofs.hold_line_at.Goals as goal

pub returns-in_err-hold : goal.returns-in_err-hold
unfolding hold_line
returns-in_err-hold c = c.from_residual.ensures ∙ ap hold_line_of c.in_err-hold.ensures

pub returns : goal.returns
unfolding hold_line
returns c = ap hold_line_of c.in_ok-hold.ensures
