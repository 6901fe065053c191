-- Its checks are made in order.
use mathlib.Core.Path.{◌≡◌, ◌∙◌}
use borrow.Author.Rules.{rules}
use Rattle.checks.proofs.Order.{fails, passes}
use Rattle.plan_checks.specs.Checking.{header_checks}
use Rattle.plan_checks.proofs.header_check.Goals as goal

pub returns-in_err-nodes_check : goal.returns-in_err-nodes_check
unfolding header_checks
returns-in_err-nodes_check c =
    let same : c.from_residual.result ≡ c.nodes_check.result = search rules in
    same ∙ (fails c.nodes_check.ensures c.in_err-nodes_check.was).is

pub returns-in_err-head_count_check : goal.returns-in_err-head_count_check
unfolding header_checks
returns-in_err-head_count_check c =
    let same : c.from_residual-in_err-head_count_check.result ≡ c.head_count_check.result = search rules in
    same ∙ (passes c.nodes_check.ensures c.in_ok-nodes_check.was (fails c.head_count_check.ensures c.in_err-head_count_check.was)).is

pub returns-in_err-ceiling_check : goal.returns-in_err-ceiling_check
unfolding header_checks
returns-in_err-ceiling_check c =
    let same : c.from_residual-in_err-ceiling_check.result ≡ c.ceiling_check.result = search rules in
    same ∙ (passes c.nodes_check.ensures c.in_ok-nodes_check.was (passes c.head_count_check.ensures c.in_ok-head_count_check.was (fails c.ceiling_check.ensures c.in_err-ceiling_check.was))).is

pub returns-in_err-source_check : goal.returns-in_err-source_check
unfolding header_checks
returns-in_err-source_check c =
    let same : c.from_residual-in_err-source_check.result ≡ c.source_check.result = search rules in
    same ∙ (passes c.nodes_check.ensures c.in_ok-nodes_check.was (passes c.head_count_check.ensures c.in_ok-head_count_check.was (passes c.ceiling_check.ensures c.in_ok-ceiling_check.was (fails c.source_check.ensures c.in_err-source_check.was)))).is

pub returns-in_err-segments_check : goal.returns-in_err-segments_check
unfolding header_checks
returns-in_err-segments_check c =
    let same : c.from_residual-in_err-segments_check.result ≡ c.segments_check.result = search rules in
    same ∙ (passes c.nodes_check.ensures c.in_ok-nodes_check.was (passes c.head_count_check.ensures c.in_ok-head_count_check.was (passes c.ceiling_check.ensures c.in_ok-ceiling_check.was (passes c.source_check.ensures c.in_ok-source_check.was (fails c.segments_check.ensures c.in_err-segments_check.was))))).is

pub returns : goal.returns
unfolding header_checks
returns c = (passes c.nodes_check.ensures c.in_ok-nodes_check.was (passes c.head_count_check.ensures c.in_ok-head_count_check.was (passes c.ceiling_check.ensures c.in_ok-ceiling_check.was (passes c.source_check.ensures c.in_ok-source_check.was (passes c.segments_check.ensures c.in_ok-segments_check.was (record { is = c.file_lists_check.ensures })))))).is
