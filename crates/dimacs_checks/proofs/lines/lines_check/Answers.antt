-- `dimacs_checks::lines::lines_check` meets its contract: what is left to check is that of the lines behind.
use native.Mathlib.Omega.{arith}
use mathlib.Core.Path.{◌≡◌, sym, ◌∙◌}
use borrow.Author.Rules.{rules}
use Rattle.dimacs_checks.proofs.Passing.{checked_start, checked_next, checked_end, ill_formed, line_fails, behind_within, some_taken, one_arc_lem}
use Rattle.dimacs_checks.proofs.lines.lines_check.Goals as goal

pub returns-in_default : goal.returns-in_default
returns-in_default c = ill_formed _ _ _ _ _ _ c.loop-at.invariant c.loop-at-test.true (sym c.line_at.ensures ∙ c.in_default.is)

pub returns-in_err-line_check : goal.returns-in_err-line_check
returns-in_err-line_check c =
    let same : c.from_residual.result ≡ c.line_check.result = search rules in
    same
    ∙ line_fails _ _ _ _ _ _ c.loop-at.invariant c.loop-at-test.true (sym c.line_at.ensures ∙ c.in-Some.is) c.line_check.ensures
    c.in_err-line_check.was

pub overflow_add-at : goal.overflow_add-at
overflow_add-at c = omega (arith, behind_within _ _ _ _ _ _ c.loop-at.invariant c.loop-at-test.true (sym c.line_at.ensures ∙ c.in-Some.is))

pub overflow_add-read : goal.overflow_add-read
overflow_add-read c =
    let I = c.loop-at.invariant in
    omega (arith, I.few, I.passed, c.loop-at-test.true, c.arcs_told-read.ensures, one_arc_lem c.in-Some.found.told)

pub loop-at-smaller : goal.loop-at-smaller
loop-at-smaller c =
    let some = some_taken _ _ _ _ _ _ c.loop-at.invariant c.loop-at-test.true (sym c.line_at.ensures ∙ c.in-Some.is) in
    omega (arith, c.loop-at-test.true, some)

pub loop-at-preserved : goal.loop-at-preserved
loop-at-preserved c =
    rw c.arcs_told-read.ensures
    (checked_next _ _ _ _ _ _ c.loop-at.invariant c.loop-at-test.true (sym c.line_at.ensures ∙ c.in-Some.is)
    (sym c.line_check.ensures ∙ c.in_ok-line_check.was))

pub returns : goal.returns
returns c = c.end_check.ensures ∙ checked_end _ _ _ _ _ _ c.loop-at.invariant c.loop-at-test.false

pub loop-at-init : goal.loop-at-init
loop-at-init c = checked_start _ _ _ _ _ _ c.requires.before_le_from c.requires.from_in_bounds

pub line_at-requires : goal.line_at-requires
line_at-requires c = c.loop-at.invariant.within

pub overflow_add-line : goal.overflow_add-line
overflow_add-line c = omega (arith, c.loop-at.invariant.passed, c.loop-at-test.true)
