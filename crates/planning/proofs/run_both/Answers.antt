-- `planning::run_both` meets its contract.
use native.Mathlib.Omega.{arith}
use mathlib.Core.Path.{sym}
use lib.Seq.{length-take-le}
use Rattle.planning.specs.Planning.{PlanLists, plan_lists}
use Rattle.planning.proofs.Both.{never_refused, second_runs, both_returned}
use Rattle.planning.proofs.run_both.Goals as goal

pub returns-in_err-one : goal.returns-in_err-one
returns-in_err-one c = absurd (never_refused c.requires.one_level.accepted (rw c.in_err-one.was at c.run.ensures))

pub returns-in_err-two : goal.returns-in_err-two
returns-in_err-two c =
    let l : PlanLists = plan_lists c.args.starts.now c.args.heads.now c.args.costs.now c.args.holds.now
    c.args.distances.now c.args.parents.now c.args.roster.now c.args.work.now in
    absurd (second_runs _ _ l l c.requires.two_level.accepted _
    (omega (arith, c.run.auto.distances)) (omega (arith, c.run.auto.parents)) (omega (arith, c.run.auto.roster)) (omega (arith, c.run.auto.work))
    (rw c.in_err-two.was at c.run-2.ensures))

pub returns : goal.returns
returns c =
    both_returned _ _ _ _ c.requires.two_level.accepted _
    (omega (arith, c.run.auto.distances)) (omega (arith, c.run.auto.parents)) (omega (arith, c.run.auto.roster)) (omega (arith, c.run.auto.work))
    c.requires.one_level.accepted (rw c.in_ok-one.was at c.run.ensures) (rw c.in_ok-two.was at c.run-2.ensures)

pub slice_bounds-given-end : goal.slice_bounds-given-end
slice_bounds-given-end c = sym (length-take-le _ _ c.requires.one_level.starts_fit)

pub slice_bounds-given-end-2 : goal.slice_bounds-given-end-2
slice_bounds-given-end-2 c = sym (length-take-le _ _ c.requires.one_level.heads_fit)

pub slice_bounds-given-end-3 : goal.slice_bounds-given-end-3
slice_bounds-given-end-3 c = sym (length-take-le _ _ c.requires.one_level.costs_fit)

pub slice_bounds-given-end-4 : goal.slice_bounds-given-end-4
slice_bounds-given-end-4 c = sym (length-take-le _ _ c.requires.one_level.holds_fit)

pub shape_of-distances : goal.shape_of-distances
shape_of-distances c = omega (arith, c.run-2.auto.distances, c.run.auto.distances)

pub shape_of-parents : goal.shape_of-parents
shape_of-parents c = omega (arith, c.run-2.auto.parents, c.run.auto.parents)

pub shape_of-roster : goal.shape_of-roster
shape_of-roster c = omega (arith, c.run-2.auto.roster, c.run.auto.roster)

pub shape_of-work : goal.shape_of-work
shape_of-work c = omega (arith, c.run-2.auto.work, c.run.auto.work)
