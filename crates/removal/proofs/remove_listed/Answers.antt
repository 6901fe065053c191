-- `removal::remove_listed` meets its contract.
use Prim.Native.Nat.{ℕ, ◌+◌, ◌-◌, ◌*◌, ◌≤◌, ◌<◌}
use native.Mathlib.Omega.{arith}
use lib.ListN.{get_or}
use Rattle.state.specs.declared.State.{State}
use Rattle.finding.specs.Finding.{looks_of}
use mathlib.Core.Path.{refl, ◌∙◌, ap}
use Rattle.state.specs.Tallies.{looks, after_event}
use Rattle.removal.proofs.Counts.{reached_low, roster_long, nodes_few, looks_few, looks_most}
use Rattle.removal.proofs.Listed.{listed_holds, slot_in, distances_long, renews, Taken, words_distribute, words_removed}
use Rattle.removal.proofs.remove_listed.Goals as goal

pub lowest_bucket-bucket-requires : goal.lowest_bucket-bucket-requires
lowest_bucket-bucket-requires c = listed_holds c.requires.some_rests.rests c.requires.current_value

pub least-v-requires-clause-slot_lt_slots : goal.least-v-requires-clause-slot_lt_slots
least-v-requires-clause-slot_lt_slots c =
    let slot_few : (c.lowest_bucket-bucket.result - 1) * c.args.layout.segments + (c.lowest_segment-segment.result - 1) < c.args.layout.slots = slot_in c.requires.some_rests.rests c.requires.current_value c.lowest_segment-segment.ensures in
    let p = c.requires in
    (slot_few, distances_long p.some_rests.rests p.current_value)

pub renew_bounds-requires : goal.renew_bounds-requires
renew_bounds-requires c =
    let p = c.requires in
    renews p.some_rests.rests p.current_value c.lowest_bucket-bucket.ensures c.lowest_segment-segment.ensures c.least-v.ensures c.scan_slot.ensures

-- The roster has a word for every node, also for the one of v's number; that the next word is written is for `returns`.
pub bounds-roster-next : goal.bounds-roster-next
bounds-roster-next c =
    let R = c.requires.some_rests.rests in
    omega (arith, reached_low R, roster_long R, c.least-v.ensures.in_slot.0)

pub looked-requires : goal.looked-requires
looked-requires c =
    let p = c.requires in
    omega (
      arith,
      looks_few p.some_rests.rests,
      c.looks_of-looks.ensures,
      looks_most c.args.layout.segments c.lowest_bucket-bucket.result c.lowest_segment-segment.result,
      c.lowest_segment-segment.ensures.slot.last,
      c.lowest_segment-segment.ensures.slot.high,
      p.some_rests.setting.agrees.sized.few,
      p.some_rests.setting.agrees.most,
    )

pub distribute-moved-requires : goal.distribute-moved-requires
distribute-moved-requires c =
    let key : ℕ = get_or c.args.distances.now c.least-v.result.0 0 in
    let scanned : State = record { front = key; current = 0; reached = c.args.state.reached + 1; tally = c.looked.result } in
    let taken : Taken key (looks_of c.args.layout.segments c.lowest_bucket-bucket.result c.lowest_segment-segment.result) c.args.state scanned = record {
      front = refl;
      current = refl;
      reached = refl;
      tally = c.looked.ensures ∙ ap (λ (k : ℕ). after_event (looks k) c.args.state.tally) c.looks_of-looks.ensures;
    } in
    let p = c.requires in
    words_distribute p.some_rests.rests p.current_value c.lowest_bucket-bucket.ensures c.lowest_segment-segment.ensures c.least-v.ensures c.scan_slot.ensures
    c.renew_bounds.ensures taken

pub returns : goal.returns
returns c X before parents h R =
    let key : ℕ = get_or c.args.distances.now c.least-v.result.0 0 in
    let scanned : State = record { front = key; current = 0; reached = c.args.state.reached + 1; tally = c.looked.result } in
    let taken : Taken key (looks_of c.args.layout.segments c.lowest_bucket-bucket.result c.lowest_segment-segment.result) c.args.state scanned = record {
      front = refl;
      current = refl;
      reached = refl;
      tally = c.looked.ensures ∙ ap (λ (k : ℕ). after_event (looks k) c.args.state.tally) c.looks_of-looks.ensures;
    } in
    words_removed R c.requires.current_value c.lowest_bucket-bucket.ensures c.lowest_segment-segment.ensures c.least-v.ensures c.scan_slot.ensures
    c.renew_bounds.ensures taken c.distribute-moved.ensures

pub overflow_add-scanned : goal.overflow_add-scanned
overflow_add-scanned c =
    let reached_few : c.args.state.reached + 1 ≤ 4096 = omega (arith, reached_low c.requires.some_rests.rests, nodes_few c.requires.some_rests.rests) in
    omega (arith, reached_few)
