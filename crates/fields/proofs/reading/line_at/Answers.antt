-- Each turn reads one field more.
use native.Mathlib.Omega.{arith}
use mathlib.Core.Path.{sym, ◌∙◌}
use Rattle.fields.proofs.LineReading.{read_missing, read_next, read_end}
use Rattle.fields.proofs.reading.line_at.Goals as goal

pub returns-in_err-field : goal.returns-in_err-field
returns-in_err-field c =
    let m = read_missing _ _ _ _ _ c.loop-i.invariant c.loop-i-test.true c.end_of-end.ensures.end (sym c.in_err-field.ensures) in
    record { answer = c.from_residual.ensures ∙ m.0; list = m.1 }

pub overflow_add-next : goal.overflow_add-next
overflow_add-next c =
    let R = read_next _ _ _ _ _ c.loop-i.invariant c.loop-i-test.true c.end_of-end.ensures.end c.end_of-end.ensures.byte (sym c.in_ok-field.ensures) in
    omega (arith, R.within)

pub loop-i-preserved : goal.loop-i-preserved
loop-i-preserved c =
    read_next _ _ _ _ _ c.loop-i.invariant c.loop-i-test.true c.end_of-end.ensures.end c.end_of-end.ensures.byte (sym c.in_ok-field.ensures)

pub returns : goal.returns
returns c =
    let r = read_end _ _ _ _ _ c.loop-i.invariant c.loop-i-test.false in
    record { answer = r.0; list = r.1 }
