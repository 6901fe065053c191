-- What line 1 tells decides.
use mathlib.Core.Path.{refl, sym, ◌∙◌}
use Rattle.plan_lines.proofs.Fields.{header_within}
use Rattle.reader.proofs.Answered.{refused_answered, file_answered}
use Rattle.reader.proofs.read.Goals as goal

pub returns-in_default : goal.returns-in_default
returns-in_default c = file_answered _ _ _ _ _ (sym c.in_default.ensures) (refused_answered refl)

pub read_lines-requires : goal.read_lines-requires
read_lines-requires c = header_within _ (sym c.header_line_at.ensures ∙ c.in-Some.is)

pub returns : goal.returns
returns c = file_answered _ _ _ _ _ (sym c.header_line_at.ensures ∙ c.in-Some.is) c.read_lines.ensures
