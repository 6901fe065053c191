use mathlib.Core.Path.{sym, ◌∙◌, ap}
use Rattle.std.specs.Prelude.{option_map}
use Rattle.dimacs_lines.proofs.Begins.{behind_place}
use Rattle.dimacs_lines.proofs.Comments.{comment_to, comment_found}
use Rattle.dimacs_lines.proofs.comment_at.Goals as goal

pub returns-in_err-feed : goal.returns-in_err-feed
returns-in_err-feed c =
    let found = rw (behind_place c.args.bytes.now c.args.at) at c.first_feed.ensures in
    c.from_residual.ensures ∙ sym (ap (option_map comment_to) c.in_err-feed.was) ∙ comment_found _ found

pub returns : goal.returns
returns c =
    let found = rw (behind_place c.args.bytes.now c.args.at) at c.first_feed.ensures in
    sym (ap (option_map comment_to) c.in_ok-feed.was) ∙ comment_found _ found
