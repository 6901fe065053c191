-- `dimacs_checks::problem_check` meets its contract: the lines are checked where the `p` line passes.
use mathlib.Core.Path.{◌≡◌, sym, ◌∙◌}
use borrow.Author.Rules.{rules}
use Rattle.checks.proofs.Order.{one, stopped, gone_on}
use Rattle.dimacs_checks.proofs.problem_check.Goals as goal

pub returns-in_err-numbers_check : goal.returns-in_err-numbers_check
returns-in_err-numbers_check c =
    let same : c.from_residual.result ≡ c.numbers_check.result = search rules in
    same ∙ stopped _ _ c.numbers_check.ensures c.in_err-numbers_check.was

pub returns : goal.returns
returns c = gone_on _ (sym c.numbers_check.ensures ∙ c.in_ok-numbers_check.was) (one c.lines_check.ensures)
