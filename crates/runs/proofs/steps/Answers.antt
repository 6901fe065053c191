-- `runs::steps` meets its contract.
use native.Mathlib.Omega.{arith}
use mathlib.Core.Path.{refl, sym}
use Rattle.runs.proofs.Accepted.{top_few, placements_few, ended_ran, built_two, built_slots, built_runs, built_ended}
use Rattle.runs.proofs.steps.Goals as goal

pub run_on-state-requires : goal.run_on-state-requires
run_on-state-requires c = built_runs _ c.requires.built

pub counts-requires : goal.counts-requires
counts-requires c = placements_few _ c.requires.built.ready (built_ended _ c.requires.built c.run_on-state.ensures)

pub returns : goal.returns
returns c L b = ended_ran _ b.ready (built_ended _ b c.run_on-state.ensures) (rw (sym b.buckets_are, c.counts.ensures) refl)

pub overflow_sub-slots : goal.overflow_sub-slots
overflow_sub-slots c = omega (arith, built_two _ c.requires.built)

pub overflow_mul-slots : goal.overflow_mul-slots
overflow_mul-slots c = omega (arith, built_slots _ c.requires.built)

pub overflow_add-slots : goal.overflow_add-slots
overflow_add-slots c = omega (arith, built_slots _ c.requires.built)

pub overflow_cast-layout-4 : goal.overflow_cast-layout-4
overflow_cast-layout-4 c = omega (arith, built_slots _ c.requires.built)

pub overflow_mul-top : goal.overflow_mul-top
overflow_mul-top c = omega (arith, top_few c.requires.built.ready.valid)

pub overflow_add-top : goal.overflow_add-top
overflow_add-top c = omega (arith, top_few c.requires.built.ready.valid)
