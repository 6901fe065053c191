-- `runs::run` meets its contract.
use mathlib.Core.Path.{sym, ◌∙◌}
use borrow.Author.Rules.{rules}
use Rattle.checks.proofs.Valid.{passed_ready}
use Rattle.runs.proofs.Accepted.{passed_ran, refused_ran}
use Rattle.runs.proofs.run.Goals as goal

pub returns-in_err-run_check : goal.returns-in_err-run_check
returns-in_err-run_check c =
    refused_ran (sym c.run_check.ensures ∙ c.in_err-run_check.was) (search rules)

pub run_steps-requires : goal.run_steps-requires
run_steps-requires c = passed_ready (sym c.run_check.ensures ∙ c.in_ok-run_check.was)

pub returns : goal.returns
returns c = passed_ran c.run_check.ensures c.in_ok-run_check.was c.run_steps.ensures
