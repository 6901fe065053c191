-- Six fields and the lines of the holds, unless all holds are 0.
use native.Mathlib.Omega.{arith}
use mathlib.Core.Path.{sym, ◌∙◌}
use Rattle.theory.specs.Runs.{Inputs}
use Rattle.checks.specs.Given.{inputs_of}
use Rattle.writer.proofs.Answered.{text_same}
use Rattle.writer.proofs.Zero.{plain_text, held_text, plain_lines, held_lines_lem}
use Rattle.writer.proofs.write_map.Goals as goal

pub overflow_cast-arcs : goal.overflow_cast-arcs
overflow_cast-arcs c = record { fits = omega (arith, c.requires.valid.sound.few_arcs) }

pub write_text-requires : goal.write_text-requires
write_text-requires c =
    let given : Inputs = inputs_of c.args.given in
    plain_lines given c.args.segments c.requires

pub write_text-requires-2 : goal.write_text-requires-2
write_text-requires-2 c =
    let given : Inputs = inputs_of c.args.given in
    held_lines_lem given c.args.segments c.requires

pub returns-then-all_zero : goal.returns-then-all_zero
returns-then-all_zero c =
    let given : Inputs = inputs_of c.args.given in
    text_same (plain_text given c.args.segments (sym c.if-all_zero.true ∙ c.all_zero.ensures)) c.write_text.ensures

pub returns : goal.returns
returns c =
    let given : Inputs = inputs_of c.args.given in
    text_same (held_text given c.args.segments (sym c.if-all_zero.false ∙ c.all_zero.ensures)) c.write_text-2.ensures
