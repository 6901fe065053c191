-- `route::route` meets its contract.
use native.Mathlib.Omega.{arith}
use mathlib.Core.Path.{◌≡◌, sym, ap, ◌∙◌}
use lib.ListN.{length}
use borrow.Author.Rules.{rules}
use Rattle.std.specs.Prelude.{Ok, Err}
use Rattle.checks.specs.Checks.{first_fault}
use Rattle.walk.specs.Walk.{Table}
use Rattle.route.specs.Routes.{table_checks, walked_numbers}
use Rattle.route.proofs.Checking.{passed_table, destination_node, table_refused, destination_refused, walk_promised}
use Rattle.route.proofs.route.Goals as goal

pub returns-in_err-table_check : goal.returns-in_err-table_check
returns-in_err-table_check c =
    let same : c.from_residual.result ≡ Err c.in_err-table_check.field-0.0 = search rules in
    table_refused _ _ _ _ _ _ _ (sym c.table_check.ensures ∙ c.in_err-table_check.was) same

pub destination_check-requires : goal.destination_check-requires
destination_check-requires c =
    let table-passes : first_fault (table_checks c.args.n c.args.source.0 c.args.starts.now c.args.heads.now (length c.args.parents.now)) ≡ Ok tt = sym c.table_check.ensures ∙ c.in_ok-table_check.was in
    let table : Table c.args.n c.args.source.0 c.args.starts.now c.args.heads.now c.args.parents.now = passed_table _ _ _ _ _ table-passes in
    table.long

pub returns-in_err-destination_check : goal.returns-in_err-destination_check
returns-in_err-destination_check c =
    let table-passes : first_fault (table_checks c.args.n c.args.source.0 c.args.starts.now c.args.heads.now (length c.args.parents.now)) ≡ Ok tt = sym c.table_check.ensures ∙ c.in_ok-table_check.was in
    let same : c.from_residual-in_err-destination_check.result ≡ Err c.in_err-destination_check.field-0.0 = search rules in
    destination_refused _ _ _ _ _ _ _ table-passes (sym c.destination_check.ensures ∙ c.in_err-destination_check.was) same

pub overflow_sub-nodes : goal.overflow_sub-nodes
overflow_sub-nodes c =
    let table-passes : first_fault (table_checks c.args.n c.args.source.0 c.args.starts.now c.args.heads.now (length c.args.parents.now)) ≡ Ok tt = sym c.table_check.ensures ∙ c.in_ok-table_check.was in
    let table : Table c.args.n c.args.source.0 c.args.starts.now c.args.heads.now c.args.parents.now = passed_table _ _ _ _ _ table-passes in
    omega (arith, table.sound.some_node)

pub walk-walked-requires : goal.walk-walked-requires
walk-walked-requires c =
    let table-passes : first_fault (table_checks c.args.n c.args.source.0 c.args.starts.now c.args.heads.now (length c.args.parents.now)) ≡ Ok tt = sym c.table_check.ensures ∙ c.in_ok-table_check.was in
    let table : Table c.args.n c.args.source.0 c.args.starts.now c.args.heads.now c.args.parents.now = passed_table _ _ _ _ _ table-passes in
    let t = table in
    record {
      table = t;
      node = destination_node _ _ c.args.parents.now _ (sym c.destination_check.ensures ∙ c.in_ok-destination_check.was);
      short = omega (arith, t.sound.some_node);
    }

pub returns : goal.returns
returns c =
    let table-passes : first_fault (table_checks c.args.n c.args.source.0 c.args.starts.now c.args.heads.now (length c.args.parents.now)) ≡ Ok tt = sym c.table_check.ensures ∙ c.in_ok-table_check.was in
    walk_promised _ _ _ _ _ _ _ table-passes (sym c.destination_check.ensures ∙ c.in_ok-destination_check.was)
    (c.answer.ensures ∙ ap walked_numbers c.walk-walked.ensures.answer) c.walk-walked.ensures.list
