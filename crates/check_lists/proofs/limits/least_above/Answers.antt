-- `check_lists::limits::least_above` meets its contract: the fault is where the first word above the limit is.
use mathlib.Core.Path.{sym, ◌∙◌}
use Rattle.check_lists.specs.Lists.{word_above}
use Rattle.check_lists.proofs.Least.{fault_found, no_fault_found}
use Rattle.check_lists.proofs.limits.least_above.Goals as goal

pub returns-in-Some : goal.returns-in-Some
returns-in-Some c = sym (fault_found _ (word_above c.args.limit c.args.words.now) _ _ (sym c.first_above.ensures ∙ c.in-Some.is))

pub returns-in-None : goal.returns-in-None
returns-in-None c = sym (no_fault_found _ (word_above c.args.limit c.args.words.now) _ _ (sym c.first_above.ensures ∙ c.in-None.is))
