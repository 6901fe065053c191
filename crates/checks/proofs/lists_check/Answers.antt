-- `checks::lists_check` meets its contract: where the sizes pass, the words can be looked at.
use mathlib.Core.Path.{◌≡◌, sym, ◌∙◌}
use mathlib.Core.List.{List, [], ◌∷◌}
use borrow.Author.Rules.{rules}
use lib.ListN.{length}
use Rattle.model.specs.Answers.{Check}
use Rattle.check_lists.specs.Lists.{starts_check, heads_check, holds_check}
use Rattle.checks.specs.Checks.{lists_checks}
use Rattle.checks.proofs.Order.{passed_all, one, fails, passes, stopped, gone_on}
use Rattle.checks.proofs.Sizes.{sized}
use Rattle.checks.proofs.lists_check.Goals as goal

pub returns-in_err-size_check : goal.returns-in_err-size_check
unfolding lists_checks
returns-in_err-size_check c =
    let words : List Check = starts_check c.args.given.nodes (length c.args.given.heads.now) c.args.given.starts.now
    ∷ holds_check c.args.given.nodes c.args.given.ceiling c.args.given.holds.now
    ∷ heads_check c.args.given.nodes c.args.given.heads.now
    ∷ [] in
    let same : c.from_residual.result ≡ c.size_check.result = search rules in
    same ∙ stopped _ words c.size_check.ensures c.in_err-size_check.was

pub starts_check-requires : goal.starts_check-requires
starts_check-requires c = (sized _ _ _ _ _ _ (passed_all _ (sym c.size_check.ensures ∙ c.in_ok-size_check.was))).1

pub heads_check-requires : goal.heads_check-requires
heads_check-requires c = (sized _ _ _ _ _ _ (passed_all _ (sym c.size_check.ensures ∙ c.in_ok-size_check.was))).0

pub returns-in_err-starts_check : goal.returns-in_err-starts_check
unfolding lists_checks
returns-in_err-starts_check c =
    let same : c.from_residual-in_err-starts_check.result ≡ c.starts_check.result = search rules in
    same
    ∙ gone_on _ (sym c.size_check.ensures ∙ c.in_ok-size_check.was) (fails c.starts_check.ensures c.in_err-starts_check.was)

pub returns-in_err-holds_check : goal.returns-in_err-holds_check
unfolding lists_checks
returns-in_err-holds_check c =
    let same : c.from_residual-in_err-holds_check.result ≡ c.holds_check.result = search rules in
    same
    ∙ gone_on _ (sym c.size_check.ensures ∙ c.in_ok-size_check.was)
    (passes c.starts_check.ensures c.in_ok-starts_check.was (fails c.holds_check.ensures c.in_err-holds_check.was))

pub returns : goal.returns
unfolding lists_checks
returns c =
    gone_on _ (sym c.size_check.ensures ∙ c.in_ok-size_check.was)
    (passes c.starts_check.ensures c.in_ok-starts_check.was
    (passes c.holds_check.ensures c.in_ok-holds_check.was (one c.heads_check.ensures)))
