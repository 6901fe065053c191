-- `placing::stays` meets its contract.
use mathlib.Core.Path.{sym, ◌∙◌}
use Rattle.placing.proofs.Staying.{Names, product_low, bucket_low, segment_high, below_end, stays_word}
use Rattle.placing.proofs.stays.Goals as goal

pub is_in_segment-requires : goal.is_in_segment-requires
is_in_segment-requires c =
    let names : Names c.args.place c.place_bucket-bucket.result c.place_slot-slot.result = record { bucket_is = c.place_bucket-bucket.ensures; slot_is = c.place_slot-slot.ensures } in
    let S = c.requires in
    let N = names in
    record { sized = S.formed.sized; le_bucket = (bucket_low S N, segment_high S N); key_bound = below_end S N }

pub returns : goal.returns
returns c e =
    let names : Names c.args.place c.place_bucket-bucket.result c.place_slot-slot.result = record { bucket_is = c.place_bucket-bucket.ensures; slot_is = c.place_slot-slot.ensures } in
    stays_word c.requires names c.if-key-front.false c.if-held-bucket.false (sym c.is_in_segment.ensures ∙ e)

pub overflow_sub-segment-2 : goal.overflow_sub-segment-2
overflow_sub-segment-2 c =
    let names : Names c.args.place c.place_bucket-bucket.result c.place_slot-slot.result = record { bucket_is = c.place_bucket-bucket.ensures; slot_is = c.place_slot-slot.ensures } in
    product_low c.requires names
