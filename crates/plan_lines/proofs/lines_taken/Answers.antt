-- Each line takes its bytes, and an ill-formed one ends them.
use mathlib.Core.Path.{sym}
use native.Mathlib.Omega.{arith}
use Rattle.plan_lines.proofs.Fields.{line_at}
use Rattle.plan_lines.proofs.Reach.{next_within, reached_next, reached_stop, reached_end}
use Rattle.plan_lines.proofs.lines_taken.Goals as goal

pub returns-in_default : goal.returns-in_default
returns-in_default c = omega (arith, reached_stop c.loop.invariant c.loop-test.true (sym c.in_default.ensures))

pub overflow_add-line : goal.overflow_add-line
overflow_add-line c = omega (arith, next_within c.args.bytes.now c.loop.line c.loop.invariant.within (line_at _ _ (sym c.in-Some.ensures)))

pub loop-preserved : goal.loop-preserved
loop-preserved c = reached_next c.loop.invariant c.loop-test.true (line_at _ _ (sym c.in-Some.ensures))

pub returns : goal.returns
returns c = omega (arith, reached_end c.loop.invariant c.loop-test.false)
