-- `finding::lowest_segment` meets its contract.
use Prim.Native.Nat.{ℕ}
use Rattle.state.specs.Slots.{slot_of}
use Rattle.finding.proofs.Finding.{past_start, past_next, past_none}
use Rattle.finding.proofs.lowest_segment.Goals as goal

pub loop-segment-init : goal.loop-segment-init
loop-segment-init c = past_start c.requires

pub loop-segment-preserved : goal.loop-segment-preserved
loop-segment-preserved c =
    let slot : ℕ = slot_of c.args.layout.segments c.args.bucket c.loop-segment.segment in
    (past_next c.loop-segment.invariant (past_none c.args.layout.nodes c.args.layout.segments slot c.args.words.now c.first.result c.first.ensures c.loop-segment-test.ensures)).0
