use mathlib.Core.Path.{sym, ap}
use mathlib.Core.List.{List}
use Prim.Native.Nat.{ℕ}
use Rattle.fields.proofs.Written.{writes_same, writes_then}
use Rattle.report.specs.Report.{ended}
use Rattle.report.proofs.Lines.{or_none_mark, or_none_number}
use Rattle.report.proofs.put_or_none.Goals as goal

pub returns-then-value-eq4294967295 : goal.returns-then-value-eq4294967295
returns-then-value-eq4294967295 c =
    let given = c.args in
    writes_same (ap (λ (l : List ℕ). ended l given.end) (sym (or_none_mark given.value c.if-value-eq4294967295.true)))
    (writes_then c.put_byte-next.ensures c.put_byte.ensures)

pub returns : goal.returns
returns c =
    let given = c.args in
    writes_same (ap (λ (l : List ℕ). ended l given.end) (sym (or_none_number given.value c.if-value-eq4294967295.false)))
    c.put_field.ensures
