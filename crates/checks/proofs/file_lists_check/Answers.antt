-- `checks::file_lists_check` meets its contract.
use mathlib.Core.Path.{◌≡◌, sym, ◌∙◌}
use borrow.Author.Rules.{rules}
use Rattle.checks.specs.Checks.{lent_checks, map_lists}
use Rattle.checks.proofs.Order.{one, stopped, gone_on}
use Rattle.checks.proofs.file_lists_check.Goals as goal

pub returns-in_err-map_lists_check : goal.returns-in_err-map_lists_check
unfolding lent_checks
returns-in_err-map_lists_check c =
    let same : c.from_residual.result ≡ c.map_lists_check.result = search rules in
    same
    ∙ stopped (lent_checks 0 (map_lists c.args.n c.args.arcs c.args.starts c.args.heads c.args.costs)) _ c.map_lists_check.ensures
    c.in_err-map_lists_check.was

pub returns : goal.returns
unfolding lent_checks
returns c =
    gone_on (lent_checks 0 (map_lists c.args.n c.args.arcs c.args.starts c.args.heads c.args.costs))
    (sym c.map_lists_check.ensures ∙ c.in_ok-map_lists_check.was) (one c.lent_check.ensures)
