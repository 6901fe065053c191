-- `runs::run_on` meets its contract.
use native.Mathlib.Omega.{arith}
use mathlib.Core.Path.{sym, ◌∙◌}
use lib.Seq.{length-take-le}
use Rattle.runs.proofs.Fronts.{front_filled, lent_length, front_cleared}
use Rattle.runs.proofs.run_on.Goals as goal

pub slice_bounds-run-end-2 : goal.slice_bounds-run-end-2
slice_bounds-run-end-2 c = sym (length-take-le _ _ c.requires.runs_on.work_fit)

pub slice_bounds-fill-end-2 : goal.slice_bounds-fill-end-2
slice_bounds-fill-end-2 c = lent_length c.run-state.new.words _ _ c.requires.runs_on.work_fit c.run-state.auto.words

pub returns : goal.returns
returns c X R =
    let run = c.run-state in
    let stands = run.ensures X R.runs in
    record {
      distances = front_filled run.new.distances _ _ _ stands.distances (run.auto.distances ∙ length-take-le _ _ R.distances_fit);
      parents = front_filled run.new.parents _ _ _ stands.parents (run.auto.parents ∙ length-take-le _ _ R.parents_fit);
      roster = stands.roster;
      work = front_cleared run.new.words _ _ R.work_fit run.auto.words c.fill.new.list c.fill.ensures;
      reached = stands.reached;
      tally = stands.tally;
    }

pub slice_bounds-fill-end : goal.slice_bounds-fill-end
slice_bounds-fill-end c = omega (arith, c.run-state.auto.words, c.requires.runs_on.work_fit)
