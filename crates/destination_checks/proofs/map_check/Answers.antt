-- `destination_checks::map_check` meets its contract: where the lists pass, a cost can be looked at with its head's hold.
use mathlib.Core.Path.{◌≡◌, sym, ◌∙◌}
use borrow.Author.Rules.{rules}
use Rattle.checks.proofs.Order.{one, stopped, gone_on}
use Rattle.checks.proofs.Valid.{passed_ordered}
use Rattle.destination_checks.proofs.Ready.{ordered_summable_to}
use Rattle.destination_checks.proofs.map_check.Goals as goal

pub returns-in_err-lists_check : goal.returns-in_err-lists_check
returns-in_err-lists_check c =
    let same : c.from_residual.result ≡ c.lists_check.result = search rules in
    same ∙ stopped _ _ c.lists_check.ensures c.in_err-lists_check.was

pub head_sums_check-requires : goal.head_sums_check-requires
head_sums_check-requires c = ordered_summable_to (passed_ordered _ (sym c.lists_check.ensures ∙ c.in_ok-lists_check.was))

pub returns : goal.returns
returns c = gone_on _ (sym c.lists_check.ensures ∙ c.in_ok-lists_check.was) (one c.head_sums_check.ensures)
