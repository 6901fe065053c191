use mathlib.Core.Path.{ap, ◌∙◌}
use Rattle.plan_lines.specs.Lines.{arc_of, arc_line}
use Rattle.plan_lines.proofs.arc_line_at.Goals as goal

pub returns-in_err-tail : goal.returns-in_err-tail
unfolding arc_line
returns-in_err-tail c = c.from_residual.ensures ∙ ap arc_of c.in_err-tail.ensures

pub returns : goal.returns
unfolding arc_line
returns c = ap arc_of c.in_ok-tail.ensures
