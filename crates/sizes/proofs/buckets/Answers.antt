-- `sizes::buckets` meets its contract.
use native.Mathlib.Omega.{arith}
use borrow.Author.Rules.{rules}
use Rattle.theory.specs.Shape.{one_level_buckets, two_level_buckets}
use Rattle.theory.proofs.Shapes.Logarithm.{one_level_most, two_level_most}
use Rattle.sizes.proofs.buckets.Goals as goal

pub overflow_add-result : goal.overflow_add-result
unfolding one_level_buckets
overflow_add-result c = omega (arith, one_level_most c.args.ceiling, c.ceil_log.ensures)

pub overflow_add-ceil_log : goal.overflow_add-ceil_log
unfolding two_level_buckets
overflow_add-ceil_log c = omega (arith, two_level_most c.args.ceiling c.in-Two.segments, c.ceil_log-in-Two.ensures)

pub returns-in-One : goal.returns-in-One
unfolding one_level_buckets
returns-in-One c = rw c.in-One.is (search rules)

pub returns-in-Two : goal.returns-in-Two
unfolding two_level_buckets
returns-in-Two c = rw c.in-Two.is (search rules)
