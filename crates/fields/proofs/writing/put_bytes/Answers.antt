-- The first bytes are written.
use native.Mathlib.Numerals.{add-one}
use native.Mathlib.Omega.{arith}
use lib.Seq.{take-suc}
use Rattle.fields.proofs.Written.{writes_nothing, writes_then}
use Rattle.fields.proofs.writing.put_bytes.Goals as goal

pub loop-byte-init : goal.loop-byte-init
loop-byte-init c = writes_nothing _ _ (omega arith)

pub loop-byte-preserved : goal.loop-byte-preserved
loop-byte-preserved c =
    let i = c.loop-byte.byte-index in
    rw (add-one i, take-suc c.args.bytes.now i 0 c.loop-byte-test.true) (writes_then c.loop-byte.invariant c.put_byte-next.ensures)
