-- The lines behind line 1 are checked where it passes.
use mathlib.Core.Path.{◌≡◌, sym, ◌∙◌}
use borrow.Author.Rules.{rules}
use Rattle.checks.proofs.Order.{stopped, gone_on}
use Rattle.plan_checks.proofs.plan_check.Goals as goal

pub returns-in_err-header_check : goal.returns-in_err-header_check
returns-in_err-header_check c =
    let same : c.from_residual.result ≡ c.header_check.result = search rules in
    same ∙ stopped _ _ c.header_check.ensures c.in_err-header_check.was

pub returns : goal.returns
returns c = gone_on _ (sym c.header_check.ensures ∙ c.in_ok-header_check.was) (record { is = c.lines_check.ensures })
