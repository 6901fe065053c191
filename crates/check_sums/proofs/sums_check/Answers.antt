-- `check_sums::sums_check` meets its contract: costs that are low enough for every hold pass with each.
use native.Mathlib.Omega.{arith}
use Rattle.check_sums.proofs.Sums.{low_costs_pass}
use Rattle.check_sums.proofs.sums_check.Goals as goal

pub overflow_sub-ceiling : goal.overflow_sub-ceiling
overflow_sub-ceiling c = omega (arith, c.greatest.ensures.least c.args.ceiling c.requires.holds_most)

pub returns-else-any_above : goal.returns-else-any_above
returns-else-any_above c = low_costs_pass c.requires c.greatest.ensures (c.any_above.ensures.none c.if-any_above.false)
