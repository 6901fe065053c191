-- Nothing is written where a check fails.
use mathlib.Core.Path.{◌≡◌, sym, ◌∙◌}
use borrow.Author.Rules.{rules}
use Rattle.std.specs.Prelude.{Err}
use Rattle.theory.specs.Runs.{Inputs}
use Rattle.checks.specs.Given.{inputs_of}
use Rattle.checks.proofs.Order.{one, stopped, gone_on}
use Rattle.writer.proofs.Answered.{found_writable, map_refused, map_answered}
use Rattle.writer.proofs.write.Goals as goal

pub returns-in_err-map_check : goal.returns-in_err-map_check
returns-in_err-map_check c =
    let given : Inputs = inputs_of c.args.given in
    let same : c.from_residual.result ≡ Err c.in_err-map_check.field-0.0 = search rules in
    rw same (map_refused given c.args.segments (stopped _ _ c.map_check.ensures c.in_err-map_check.was) c.in_err-map_check.was)

pub write_map-requires : goal.write_map-requires
write_map-requires c =
    let given : Inputs = inputs_of c.args.given in
    found_writable given c.args.segments
    (gone_on _ (sym c.map_check.ensures ∙ c.in_ok-map_check.was) (one c.segments_check.ensures)) c.in_ok-segments_check.was

pub returns-in_err-segments_check : goal.returns-in_err-segments_check
returns-in_err-segments_check c =
    let given : Inputs = inputs_of c.args.given in
    let same : c.from_residual-in_err-segments_check.result ≡ Err c.in_err-segments_check.field-0.0 = search rules in
    rw same
    (map_refused given c.args.segments
    (gone_on _ (sym c.map_check.ensures ∙ c.in_ok-map_check.was) (one c.segments_check.ensures)) c.in_err-segments_check.was)

pub returns : goal.returns
returns c =
    let given : Inputs = inputs_of c.args.given in
    map_answered given c.args.segments
    (gone_on _ (sym c.map_check.ensures ∙ c.in_ok-map_check.was) (one c.segments_check.ensures)) c.in_ok-segments_check.was c.write_map.ensures
