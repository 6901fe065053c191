-- Zeros, or the holds that are told.
use mathlib.Core.Path.{◌∙◌}
use Rattle.reader.proofs.Holds.{zeros_filled, told_fillable}
use Rattle.reader.proofs.filling.fill_holds.Goals as goal

pub fill_told-requires : goal.fill_told-requires
fill_told-requires c = told_fillable c.if-held.true c.requires

pub returns-else-held : goal.returns-else-held
returns-else-held c = c.fill_between.ensures ∙ zeros_filled _ _ _ _ c.if-held.false

pub returns-then-held : goal.returns-then-held
returns-then-held c = rw c.if-held.true c.fill_told.ensures
