-- `destination_checks::head_sums_check` meets its contract: costs that are low enough for every hold pass with each.
use native.Mathlib.Omega.{arith}
use Rattle.destination_checks.proofs.Heads.{low_costs_pass_heads}
use Rattle.destination_checks.proofs.head_sums_check.Goals as goal

pub overflow_sub-ceiling : goal.overflow_sub-ceiling
overflow_sub-ceiling c = omega (arith, c.greatest.ensures.least c.args.ceiling c.requires.holds_most)

pub returns-else-any_above : goal.returns-else-any_above
returns-else-any_above c = low_costs_pass_heads c.requires c.greatest.ensures (c.any_above.ensures.none c.if-any_above.false)
