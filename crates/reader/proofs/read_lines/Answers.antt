-- Nothing is written where a check fails, and the lists are filled where all pass.
use mathlib.Core.Bool.{Bool, true, false, not}
use mathlib.Core.Path.{◌≡◌, refl, sym, ◌∙◌}
use mir.Val.{bool_byte}
use lib.Dec.{eqb}
use borrow.Author.Rules.{rules}
use Rattle.std.specs.Prelude.{Err}
use Rattle.reader.proofs.Answered.{refused_answered, fillable, read_answered}
use Rattle.reader.proofs.read_lines.Goals as goal

-- The word that says whether line 1 tells holds says it.
told : (held : Bool) → not (eqb (bool_byte held) 0) ≡ held
told true = refl
told false = refl

pub returns-in_err-plan_check : goal.returns-in_err-plan_check
returns-in_err-plan_check c =
    let same : c.from_residual.result ≡ Err c.in_err-plan_check.field-0.0 = search rules in
    rw same (refused_answered (sym (rw told at c.plan_check.ensures) ∙ c.in_err-plan_check.was))

pub fill-behind-requires : goal.fill-behind-requires
fill-behind-requires c =
    (fillable _ _ _ _ _ _ _ _ _ _ _ _ c.requires (sym (rw told at c.plan_check.ensures) ∙ c.in_ok-plan_check.was)).arcs

pub fill_holds-requires : goal.fill_holds-requires
fill_holds-requires c =
    (fillable _ _ _ _ _ _ _ _ _ _ _ _ c.requires (sym (rw told at c.plan_check.ensures) ∙ c.in_ok-plan_check.was)).holds_behind c.fill-behind.ensures.behind

pub returns : goal.returns
returns c =
    read_answered _ _ _ _ _ _ _ _ _ _ _ _ (sym (rw told at c.plan_check.ensures) ∙ c.in_ok-plan_check.was)
    c.fill-behind.ensures.lists c.fill-behind.ensures.behind c.fill_holds.ensures
