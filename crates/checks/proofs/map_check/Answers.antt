-- `checks::map_check` meets its contract: where the lists pass, a cost can be looked at with its tail's hold.
use mathlib.Core.Path.{◌≡◌, sym, ◌∙◌}
use borrow.Author.Rules.{rules}
use Rattle.checks.specs.Checks.{map_checks}
use Rattle.checks.proofs.Order.{one, stopped, gone_on}
use Rattle.checks.proofs.Valid.{passed_ordered, ordered_summable}
use Rattle.checks.proofs.map_check.Goals as goal

pub returns-in_err-lists_check : goal.returns-in_err-lists_check
unfolding map_checks
returns-in_err-lists_check c =
    let same : c.from_residual.result ≡ c.lists_check.result = search rules in
    same ∙ stopped _ _ c.lists_check.ensures c.in_err-lists_check.was

pub sums_check-requires : goal.sums_check-requires
sums_check-requires c = ordered_summable (passed_ordered _ (sym c.lists_check.ensures ∙ c.in_ok-lists_check.was))

pub returns : goal.returns
unfolding map_checks
returns c = gone_on _ (sym c.lists_check.ensures ∙ c.in_ok-lists_check.was) (one c.sums_check.ensures)
