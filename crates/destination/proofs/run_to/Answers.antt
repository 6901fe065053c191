-- `destination::run_to` meets its contract.
use mathlib.Core.Path.{sym, ◌∙◌}
use borrow.Author.Rules.{rules}
use Rattle.destination_checks.proofs.Ready.{passed_ready_to}
use Rattle.destination.proofs.Accepted.{passed_ran_to, refused_ran_to}
use Rattle.destination.proofs.run_to.Goals as goal

pub returns-in_err-run_check_to : goal.returns-in_err-run_check_to
returns-in_err-run_check_to c = refused_ran_to (sym c.run_check_to.ensures ∙ c.in_err-run_check_to.was) (search rules)

pub run_back-requires : goal.run_back-requires
run_back-requires c = passed_ready_to (sym c.run_check_to.ensures ∙ c.in_ok-run_check_to.was)

pub returns : goal.returns
returns c = passed_ran_to c.run_check_to.ensures c.in_ok-run_check_to.was c.run_back.ensures
