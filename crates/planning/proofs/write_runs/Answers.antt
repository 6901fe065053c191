-- `planning::write_runs` meets its contract.
use Rattle.planning.specs.Planning.{runs_text}
use Rattle.planning.proofs.write_runs.Goals as goal

pub returns-in-Ok : goal.returns-in-Ok
unfolding runs_text
returns-in-Ok c = rw c.in-Ok.is c.write_answer.ensures

pub returns-in-Err : goal.returns-in-Err
unfolding runs_text
returns-in-Err c = rw c.in-Err.is c.write_refusal.ensures
