use native.Mathlib.Omega.{arith}
use Rattle.plan_writing.proofs.Whole.{text_length, parts_most}
use Rattle.plan_writing.proofs.text_length.Goals as goal

pub overflow_add-result : goal.overflow_add-result
overflow_add-result c =
    let most = parts_most _ _ _ _ _ _ c.requires in
    record { fits = omega (arith, c.line_length.ensures, c.arcs_length.ensures, most.0, most.1) }

pub overflow_add-result-2 : goal.overflow_add-result-2
overflow_add-result-2 c =
    let most = parts_most _ _ _ _ _ _ c.requires in
    record {
      fits = omega (arith, c.line_length.ensures, c.arcs_length.ensures, c.holds_length.ensures, most.0, most.1, most.2);
    }

pub returns : goal.returns
returns c =
    let args = c.args in
    omega (
      arith,
      c.line_length.ensures,
      c.arcs_length.ensures,
      c.holds_length.ensures,
      text_length args.first.now args.n args.starts.now args.heads.now args.costs.now args.told.now,
    )
