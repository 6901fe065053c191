-- Left-over bytes and sums decide where the holds' lines pass.
use mathlib.Core.Path.{◌≡◌, ◌∙◌}
use borrow.Author.Rules.{rules}
use Rattle.std.specs.Prelude.{Err}
use Rattle.checks.proofs.Order.{one, fails, passes}
use Rattle.plan_checks.proofs.Whole.{end_stopped, lines_end, holds_stopped, sum_lines, told_end}
use Rattle.plan_checks.proofs.held_check.Goals as goal

pub left_over_check-requires : goal.left_over_check-requires
left_over_check-requires c = (lines_end _ _ _ _ _ c.requires.behind_within c.hold_lines_check.ensures c.in_ok-behind.was).within

pub arc_sums_check-requires : goal.arc_sums_check-requires
arc_sums_check-requires c =
    sum_lines c.requires (lines_end _ _ _ _ _ c.requires.behind_within c.hold_lines_check.ensures c.in_ok-behind.was)

pub returns-in_err-behind : goal.returns-in_err-behind
returns-in_err-behind c =
    let same : c.from_residual.result ≡ Err c.in_err-behind.field-0.0 = search rules in
    same ∙ holds_stopped c.requires (end_stopped _ _ c.hold_lines_check.ensures c.in_err-behind.was)

pub returns-in_err-left_over_check : goal.returns-in_err-left_over_check
returns-in_err-left_over_check c =
    let same : c.from_residual-in_err-left_over_check.result ≡ c.left_over_check.result = search rules in
    let ended = lines_end _ _ _ _ _ c.requires.behind_within c.hold_lines_check.ensures c.in_ok-behind.was in
    same ∙ told_end c.requires ended (fails c.left_over_check.ensures c.in_err-left_over_check.was)

pub returns : goal.returns
returns c =
    let ended = lines_end _ _ _ _ _ c.requires.behind_within c.hold_lines_check.ensures c.in_ok-behind.was in
    told_end c.requires ended (passes c.left_over_check.ensures c.in_ok-left_over_check.was (one c.arc_sums_check.ensures))

pub hold_lines_check-requires : goal.hold_lines_check-requires
hold_lines_check-requires c = c.requires.behind_within
