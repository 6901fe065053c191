use native.Mathlib.Omega.{arith}
use Rattle.fields.specs.Fields.{comma}
use Rattle.fields.proofs.Written.{writes_same, writes_then}
use Rattle.report.proofs.Lines.{ended_length, field_most, heap_whole}
use Rattle.report.proofs.write_heap.Goals as goal

pub put_field-third-requires : goal.put_field-third-requires
put_field-third-requires c = omega (arith, ended_length c.args.word.now comma, c.put_word-second.ensures.behind)

pub put_field-fourth-requires : goal.put_field-fourth-requires
put_field-fourth-requires c =
    let given = c.args in
    omega (
      arith,
      ended_length given.word.now comma,
      field_most given.run.buckets comma,
      c.put_word-second.ensures.behind,
      c.put_field-third.ensures.behind,
    )

pub put_two-requires : goal.put_two-requires
put_two-requires c =
    let given = c.args in
    omega (
      arith,
      ended_length given.word.now comma,
      field_most given.run.buckets comma,
      field_most given.run.counts.placements comma,
      c.put_word-second.ensures.behind,
      c.put_field-third.ensures.behind,
      c.put_field-fourth.ensures.behind,
    )

pub returns : goal.returns
returns c =
    writes_same (heap_whole _ _ _ _ _)
    (writes_then (writes_then (writes_then c.put_word-second.ensures c.put_field-third.ensures) c.put_field-fourth.ensures)
    c.put_two.ensures)
