-- `planning::plan_map` meets its contract.
use native.Mathlib.Omega.{arith}
use Rattle.checks.proofs.Valid.{passed_ready}
use Rattle.planning.proofs.Both.{both_run}
use Rattle.planning.proofs.plan_map.Goals as goal

pub write_runs-requires : goal.write_runs-requires
write_runs-requires c =
    let p = c.requires in
    let ready = passed_ready p.both_runnable.one_level.accepted in record { nodes_in_bounds = omega (arith, p.both_runnable.one_level.nodes_fit, p.output_len); lists_hold_nodes = (omega (arith, ready.distances_fit, c.run_both-runs.auto.distances), omega (arith, ready.parents_fit, c.run_both-runs.auto.parents)) }

pub returns : goal.returns
returns c = both_run _ _ _ _ c.requires.both_runnable.two_level.accepted c.run_both-runs.ensures c.write_runs.ensures
