-- By what the bytes begin with.
use native.Mathlib.Omega.{arith}
use mathlib.Core.Path.{◌∙◌}
use lib.ListN.{length-drop}
use Rattle.dimacs_lines.specs.Lines.{problem_prefix, arc_prefix}
use Rattle.dimacs_lines.proofs.Begins.{begins_at}
use Rattle.dimacs_lines.proofs.Behind.{begins_fits}
use Rattle.dimacs_lines.proofs.Prefixes.{line_comment, line_problem, line_arc, line_none}
use Rattle.dimacs_lines.proofs.line_at.Goals as goal

pub returns-then-starts_with : goal.returns-then-starts_with
returns-then-starts_with c = c.comment_at.ensures ∙ line_comment _ (begins_at _ c.args.bytes.now c.args.at c.starts_with.ensures.value ∙ c.if-starts_with.true)

pub problem_at-requires : goal.problem_at-requires
problem_at-requires c =
    let is_problem = begins_at problem_prefix c.args.bytes.now c.args.at c.starts_with-2.ensures.value ∙ c.if-starts_with-2.true in
    omega (arith, begins_fits problem_prefix _ is_problem, length-drop c.args.at c.args.bytes.now)

pub returns-then-starts_with-2 : goal.returns-then-starts_with-2
returns-then-starts_with-2 c =
    let not_comment = begins_at _ c.args.bytes.now c.args.at c.starts_with.ensures.value ∙ c.if-starts_with.false in
    let is_problem = begins_at problem_prefix c.args.bytes.now c.args.at c.starts_with-2.ensures.value ∙ c.if-starts_with-2.true in
    c.problem_at.ensures ∙ line_problem _ not_comment is_problem

pub arc_at-requires : goal.arc_at-requires
arc_at-requires c =
    let is_arc = begins_at arc_prefix c.args.bytes.now c.args.at c.starts_with-3.ensures.value ∙ c.if-starts_with-3.true in
    omega (arith, begins_fits arc_prefix _ is_arc, length-drop c.args.at c.args.bytes.now)

pub returns-then-starts_with-3 : goal.returns-then-starts_with-3
returns-then-starts_with-3 c =
    let not_comment = begins_at _ c.args.bytes.now c.args.at c.starts_with.ensures.value ∙ c.if-starts_with.false in
    let not_problem = begins_at _ c.args.bytes.now c.args.at c.starts_with-2.ensures.value ∙ c.if-starts_with-2.false in
    let is_arc = begins_at arc_prefix c.args.bytes.now c.args.at c.starts_with-3.ensures.value ∙ c.if-starts_with-3.true in
    c.arc_at.ensures ∙ line_arc _ not_comment not_problem is_arc

pub returns : goal.returns
returns c =
    let not_comment = begins_at _ c.args.bytes.now c.args.at c.starts_with.ensures.value ∙ c.if-starts_with.false in
    let not_problem = begins_at _ c.args.bytes.now c.args.at c.starts_with-2.ensures.value ∙ c.if-starts_with-2.false in
    line_none _ not_comment not_problem (begins_at _ c.args.bytes.now c.args.at c.starts_with-3.ensures.value ∙ c.if-starts_with-3.false)
