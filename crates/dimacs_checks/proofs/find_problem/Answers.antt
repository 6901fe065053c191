-- `dimacs_checks::find_problem` meets its contract: comments alone were passed.
use native.Mathlib.Omega.{arith}
use mathlib.Core.Path.{sym, ◌∙◌}
use Rattle.dimacs_lines.proofs.Behind.{line_some, line_within}
use Rattle.dimacs_checks.proofs.Heading.{searched_start, searched_next, searched_ill, searched_arc, searched_problem, searched_end}
use Rattle.dimacs_checks.proofs.find_problem.Goals as goal

pub returns-in_default : goal.returns-in_default
returns-in_default c =
    rw c.no_problem.ensures
    (searched_ill _ c.loop-at.invariant c.loop-at-test.true (sym c.line_at.ensures ∙ c.in_default.is))

pub loop-at-smaller : goal.loop-at-smaller
loop-at-smaller c = omega (arith, c.loop-at-test.true, line_some _ (sym c.line_at.ensures ∙ c.in-Some.is))

pub overflow_add-result : goal.overflow_add-result
overflow_add-result c = omega (arith, line_within _ _ c.loop-at.invariant.within (sym c.line_at.ensures ∙ c.in-Some.is))

pub returns-in-RoadArc : goal.returns-in-RoadArc
returns-in-RoadArc c =
    rw c.no_problem-in-RoadArc.ensures
    (searched_arc _ c.loop-at.invariant c.loop-at-test.true (sym c.line_at.ensures ∙ c.in-Some.is) c.in-RoadArc.is)

pub returns : goal.returns
returns c = rw (c.no_problem-2.ensures, c.last_line.ensures) (searched_end _ c.loop-at.invariant c.loop-at-test.false)

pub loop-at-init : goal.loop-at-init
loop-at-init c = searched_start _

pub line_at-requires : goal.line_at-requires
line_at-requires c = c.loop-at.invariant.within

pub overflow_add-line : goal.overflow_add-line
overflow_add-line c = omega (arith, c.loop-at.invariant.passed, c.loop-at-test.true)

pub overflow_add-at : goal.overflow_add-at
overflow_add-at c = omega (arith, line_within _ _ c.loop-at.invariant.within (sym c.line_at.ensures ∙ c.in-Some.is))

pub loop-at-preserved : goal.loop-at-preserved
loop-at-preserved c = searched_next _ c.loop-at.invariant c.loop-at-test.true (sym c.line_at.ensures ∙ c.in-Some.is) c.in-Comment.is

pub returns-in-Problem : goal.returns-in-Problem
returns-in-Problem c = searched_problem _ c.loop-at.invariant c.loop-at-test.true (sym c.line_at.ensures ∙ c.in-Some.is) c.in-Problem.is
