-- `destination_checks::run_check_to` meets its contract.
use mathlib.Core.Path.{◌≡◌, sym, ◌∙◌}
use lib.ListN.{length}
use borrow.Author.Rules.{rules}
use Rattle.checks.specs.Checks.{levels_checks, lent_checks, run_lists, lengths_for}
use Rattle.checks.proofs.Order.{stopped, gone_on}
use Rattle.theory.specs.Runs.{work_words}
use Rattle.destination_checks.specs.Destination.{checks_to, reversed_lists}
use Rattle.destination_checks.proofs.run_check_to.Goals as goal

pub returns-in_err-map_check : goal.returns-in_err-map_check
unfolding checks_to
returns-in_err-map_check c =
    let same : c.from_residual.result ≡ c.map_check.result = search rules in
    same ∙ stopped _ _ c.map_check.ensures c.in_err-map_check.was

pub returns-in_err-levels_check : goal.returns-in_err-levels_check
unfolding checks_to
returns-in_err-levels_check c =
    let same : c.from_residual-in_err-levels_check.result ≡ c.levels_check.result = search rules in
    same
    ∙ gone_on _ (sym c.map_check.ensures ∙ c.in_ok-map_check.was)
    (record { is = stopped (levels_checks c.args.levels) _ c.levels_check.ensures c.in_err-levels_check.was })

pub returns-in_err-run_lists_check : goal.returns-in_err-run_lists_check
unfolding lent_checks checks_to
returns-in_err-run_lists_check c =
    let same : c.from_residual-in_err-run_lists_check.result ≡ c.run_lists_check.result = search rules in
    let lent = lent_checks 0 (run_lists c.args.given.nodes (lengths_for c.args.distances c.args.parents c.args.roster c.args.work) (work_words c.args.levels c.args.given.nodes)) in
    let working = lent_checks 4 (reversed_lists c.args.given.nodes (length c.args.given.heads.now) c.args.reversed_starts c.args.reversed_heads c.args.reversed_costs c.args.old_arcs) in
    same
    ∙ gone_on _ (sym c.map_check.ensures ∙ c.in_ok-map_check.was)
    (record {
      is = gone_on (levels_checks c.args.levels) (sym c.levels_check.ensures ∙ c.in_ok-levels_check.was)
          (record { is = stopped lent working (rw c.work_words-needed.ensures at c.run_lists_check.ensures) c.in_err-run_lists_check.was });
    })

pub returns : goal.returns
unfolding lent_checks checks_to
returns c =
    let lent = lent_checks 0 (run_lists c.args.given.nodes (lengths_for c.args.distances c.args.parents c.args.roster c.args.work) (work_words c.args.levels c.args.given.nodes)) in
    gone_on _ (sym c.map_check.ensures ∙ c.in_ok-map_check.was)
    (record {
      is = gone_on (levels_checks c.args.levels) (sym c.levels_check.ensures ∙ c.in_ok-levels_check.was)
          (record {
            is = gone_on lent (sym (rw c.work_words-needed.ensures at c.run_lists_check.ensures) ∙ c.in_ok-run_lists_check.was)
                (record { is = c.reversed_lists_check.ensures });
          });
    })
