-- The first i fields are written.
use mathlib.Core.Path.{◌≡◌, sym, ap, ◌∙◌}
use mathlib.Core.List.{[], ◌∷◌, ◌++◌}
use Prim.Native.Nat.{◌+◌}
use native.Mathlib.Omega.{arith}
use lib.ListN.{length, get_or}
use Rattle.fields.specs.Fields.{decimal}
use Rattle.fields.proofs.Written.{writes_nothing, writes_then, writes_same, writes_length}
use Rattle.line_writing.proofs.Rendered.{first_fields, first_none, first_next, first_all, next_length, first_within}
use Rattle.line_writing.proofs.put_line.Goals as goal

pub loop-i-init : goal.loop-i-init
loop-i-init c = writes_same (sym (first_none _)) (writes_nothing _ _ (omega (arith, c.requires)))

pub put_ended-next-requires : goal.put_ended-next-requires
put_ended-next-requires c =
    let values = c.args.values.now in
    let within = c.loop-i-test.true in
    omega (
      arith,
      next_length values c.loop-i.i within,
      first_within values (c.loop-i.i + 1) (omega arith) (omega arith),
      c.loop-i.invariant.behind,
      writes_length c.loop-i.invariant,
      c.requires,
    )

pub loop-i-preserved : goal.loop-i-preserved
loop-i-preserved c =
    let values = c.args.values.now in
    let same = first_next values c.loop-i.i c.loop-i-test.true in
    writes_same (ap (λ end. first_fields values c.loop-i.i ++ (decimal (get_or values c.loop-i.i 0) ++ (end ∷ []))) c.end_of.ensures.end ∙ sym same)
    (writes_then c.loop-i.invariant c.put_ended-next.ensures)

pub returns : goal.returns
returns c =
    let values = c.args.values.now in
    let all : c.loop-i.i ≡ length values = omega (arith, c.loop-i.auto.i-end, c.loop-i-test.false) in
    writes_same (first_all values c.loop-i.i all) c.loop-i.invariant
