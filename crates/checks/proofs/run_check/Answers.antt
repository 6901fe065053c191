-- `checks::run_check` meets its contract.
use mathlib.Core.Path.{◌≡◌, sym, ◌∙◌}
use borrow.Author.Rules.{rules}
use Rattle.checks.specs.Checks.{levels_checks, map_checks, run_checks}
use Rattle.checks.proofs.Order.{stopped, gone_on}
use Rattle.checks.proofs.run_check.Goals as goal

pub returns-in_err-map_check : goal.returns-in_err-map_check
unfolding map_checks run_checks
returns-in_err-map_check c =
    let same : c.from_residual.result ≡ c.map_check.result = search rules in
    same ∙ stopped _ _ c.map_check.ensures c.in_err-map_check.was

pub returns-in_err-levels_check : goal.returns-in_err-levels_check
unfolding map_checks run_checks
returns-in_err-levels_check c =
    let same : c.from_residual-in_err-levels_check.result ≡ c.levels_check.result = search rules in
    same
    ∙ gone_on _ (sym c.map_check.ensures ∙ c.in_ok-map_check.was)
    (record { is = stopped (levels_checks c.args.levels) _ c.levels_check.ensures c.in_err-levels_check.was })

pub returns : goal.returns
unfolding map_checks run_checks
returns c =
    gone_on _ (sym c.map_check.ensures ∙ c.in_ok-map_check.was)
    (record {
      is = gone_on (levels_checks c.args.levels) (sym c.levels_check.ensures ∙ c.in_ok-levels_check.was)
          (record { is = rw c.work_words-needed.ensures at c.run_lists_check.ensures });
    })
