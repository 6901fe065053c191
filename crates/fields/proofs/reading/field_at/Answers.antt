-- The tests of the code are those of the definition.
use mathlib.Core.Path.{sym, ◌∙◌}
use Rattle.fields.proofs.Formed.{formed_at, formed_field, formless_field}
use Rattle.fields.proofs.reading.field_at.Goals as goal

pub returns-then-count-alone : goal.returns-then-count-alone
returns-then-count-alone c =
    formed_field c.digits_at-read.ensures c.args.end
    (sym (formed_at c.args.bytes.now _ _ _ _ _ c.byte_at.ensures c.byte_at-2.ensures) ∙ c.if-count-alone.true)

pub returns-else-count-alone : goal.returns-else-count-alone
returns-else-count-alone c =
    formless_field c.digits_at-read.ensures c.args.end
    (sym (formed_at c.args.bytes.now _ _ _ _ _ c.byte_at.ensures c.byte_at-2.ensures) ∙ c.if-count-alone.false)
