-- A line of six fields is asked for where there is none of five.
use mathlib.Core.Path.{sym, ◌∙◌}
use Rattle.plan_lines.proofs.Fields.{five_header, not_five}
use Rattle.plan_lines.proofs.header_line_at.Goals as goal

pub returns-in_default : goal.returns-in_default
returns-in_default c = c.held_header_at.ensures ∙ not_five _ (sym c.in_default.ensures)

pub returns : goal.returns
returns c = rw c.header_told.ensures (five_header _ (sym c.in-Some.ensures))
