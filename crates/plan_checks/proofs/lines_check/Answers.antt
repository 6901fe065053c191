-- What is behind the arcs' lines is checked where these pass.
use mathlib.Core.Path.{◌≡◌, ◌∙◌}
use borrow.Author.Rules.{rules}
use Rattle.std.specs.Prelude.{Err}
use Rattle.plan_checks.proofs.Whole.{end_stopped, lines_end, arcs_stopped, plain_end, held_end}
use Rattle.plan_checks.proofs.lines_check.Goals as goal

pub left_over_check-requires : goal.left_over_check-requires
left_over_check-requires c = (lines_end _ _ _ _ _ c.requires c.arcs_check.ensures c.in_ok-behind.was).within

pub held_check-requires : goal.held_check-requires
held_check-requires c =
    let ended = lines_end _ _ _ _ _ c.requires c.arcs_check.ensures c.in_ok-behind.was in
    record { passed = ended.passed; within = c.requires; behind_within = ended.within }

pub returns-in_err-behind : goal.returns-in_err-behind
returns-in_err-behind c =
    let same : c.from_residual.result ≡ Err c.in_err-behind.field-0.0 = search rules in
    same ∙ arcs_stopped _ _ _ _ c.args.bytes.now c.args.at (end_stopped _ _ c.arcs_check.ensures c.in_err-behind.was)

pub returns-else-held : goal.returns-else-held
returns-else-held c =
    let ended = lines_end _ _ _ _ _ c.requires c.arcs_check.ensures c.in_ok-behind.was in
    plain_end _ _ _ _ _ _ ended c.if-held.false c.left_over_check.ensures

pub returns-then-held : goal.returns-then-held
returns-then-held c =
    let ended = lines_end _ _ _ _ _ c.requires c.arcs_check.ensures c.in_ok-behind.was in
    held_end _ _ _ _ _ _ ended c.if-held.true c.held_check.ensures
