use native.Mathlib.Omega.{arith}
use mathlib.Core.Path.{refl, sym, ◌∙◌}
use mathlib.Core.List.{[], ◌∷◌}
use Rattle.dimacs_lines.specs.Lines.{road_arc_of}
use Rattle.dimacs_lines.proofs.Numbered.{numbers_missing, numbers_within, numbers_read}
use Rattle.dimacs_lines.proofs.arc_at.Goals as goal

pub returns-in_err-taken : goal.returns-in_err-taken
returns-in_err-taken c = c.from_residual.ensures ∙ numbers_missing road_arc_of 3 2 c.args.bytes.now c.args.at (sym c.in_err-taken.ensures.answer)

pub overflow_add-result : goal.overflow_add-result
overflow_add-result c = omega (arith, numbers_within road_arc_of 3 2 _ _ (omega arith) c.requires (sym c.in_ok-taken.ensures.answer))

pub returns : goal.returns
returns c =
    numbers_read road_arc_of 3 2 c.args.bytes.now c.args.at _ (0 ∷ 0 ∷ 0 ∷ []) (omega arith) refl
    (sym c.in_ok-taken.ensures.answer) c.in_ok-taken.ensures.list
