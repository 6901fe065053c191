-- `placing::label` meets its contract.
use Prim.Native.Nat.{ℕ, ◌+◌, ◌≤◌}
use native.Mathlib.Omega.{arith}
use mathlib.Core.Path.{◌≡◌, refl, sym, ◌∙◌, ap}
use mathlib.Core.Logic.{◌≢◌}
use lib.ListN.{get_or}
use borrow.Author.Tests.{eqb-false}
use Rattle.buckets.specs.Words.{places, place_bucket}
use Rattle.state.specs.Tallies.{decrease, reads, after_event}
use Rattle.state.proofs.Tallies.{same_reads}
use Rattle.placing.proofs.Labelling.{entered_low, node, current_few, held_far, read_few, held_start, held_read, standing, stays_stands, held_entering, held_stands}
use Rattle.placing.proofs.label.Goals as goal

pub bucket_held-held-requires : goal.bucket_held-held-requires
bucket_held-held-requires c =
    let place : ℕ = get_or (places c.args.layout.nodes c.args.words.now) c.args.v.0 0 in
    let read : c.place_of-place.result ≡ place = c.place_of-place.ensures in
    let held : place ≢ 0 = λ e. eqb-false _ 0 (sym c.is_unlabelled.ensures ∙ c.if-is_unlabelled.false) (read ∙ e) in
    let from : c.place_bucket-start.result ≡ place_bucket place = c.place_bucket-start.ensures ∙ ap place_bucket read in
    let r = held_read c.requires.labels held from in
    record { start_in_bounds = r.0; le_start = r.1; key_bound = r.2 }

pub read-tally-requires : goal.read-tally-requires
read-tally-requires c =
    let place : ℕ = get_or (places c.args.layout.nodes c.args.words.now) c.args.v.0 0 in
    let read : c.place_of-place.result ≡ place = c.place_of-place.ensures in
    let held : place ≢ 0 = λ e. eqb-false _ 0 (sym c.is_unlabelled.ensures ∙ c.if-is_unlabelled.false) (read ∙ e) in
    let from : c.place_bucket-start.result ≡ place_bucket place = c.place_bucket-start.ensures ∙ ap place_bucket read in
    let L = c.requires.labels in
    omega (arith, same_reads c.decreased-decreased.ensures, read_few L (held_start L held from).1 c.bucket_held-held.ensures.2)

pub stays-requires : goal.stays-requires
stays-requires c =
    let place : ℕ = get_or (places c.args.layout.nodes c.args.words.now) c.args.v.0 0 in
    let read : c.place_of-place.result ≡ place = c.place_of-place.ensures in
    let held : place ≢ 0 = λ e. eqb-false _ 0 (sym c.is_unlabelled.ensures ∙ c.if-is_unlabelled.false) (read ∙ e) in
    let from : c.place_bucket-start.result ≡ place_bucket place = c.place_bucket-start.ensures ∙ ap place_bucket read in
    rw read (standing c.requires.labels held from c.bucket_held-held.ensures)

pub returns-then-stays-clause-stands : goal.returns-then-stays-clause-stands
returns-then-stays-clause-stands c =
    let told : c.read-tally.result ≡ after_event (reads c.bucket_held-held.result.reads) (after_event decrease c.args.state.tally) = c.read-tally.ensures ∙ ap (after_event (reads c.bucket_held-held.result.reads)) c.decreased-decreased.ensures in
    let place : ℕ = get_or (places c.args.layout.nodes c.args.words.now) c.args.v.0 0 in
    let read : c.place_of-place.result ≡ place = c.place_of-place.ensures in
    let held : place ≢ 0 = λ e. eqb-false _ 0 (sym c.is_unlabelled.ensures ∙ c.if-is_unlabelled.false) (read ∙ e) in
    let from : c.place_bucket-start.result ≡ place_bucket place = c.place_bucket-start.ensures ∙ ap place_bucket read in
    λ X before roster h' L.
    stays_stands L held from c.bucket_held-held.ensures (rw read at (c.stays.ensures c.if-stays.true)) c.args.arc.0 refl refl refl told

pub leave_slot-requires-clause-v_lt_n : goal.leave_slot-requires-clause-v_lt_n
leave_slot-requires-clause-v_lt_n c =
    let place : ℕ = get_or (places c.args.layout.nodes c.args.words.now) c.args.v.0 0 in
    let read : c.place_of-place.result ≡ place = c.place_of-place.ensures in
    let held : place ≢ 0 = λ e. eqb-false _ 0 (sym c.is_unlabelled.ensures ∙ c.if-is_unlabelled.false) (read ∙ e) in
    let L = c.requires.labels in
    (node L, held_far L held)

pub enter-current-requires : goal.enter-current-requires
enter-current-requires c =
    let place : ℕ = get_or (places c.args.layout.nodes c.args.words.now) c.args.v.0 0 in
    let read : c.place_of-place.result ≡ place = c.place_of-place.ensures in
    let held : place ≢ 0 = λ e. eqb-false _ 0 (sym c.is_unlabelled.ensures ∙ c.if-is_unlabelled.false) (read ∙ e) in
    let from : c.place_bucket-start.result ≡ place_bucket place = c.place_bucket-start.ensures ∙ ap place_bucket read in
    held_entering c.requires.labels held from c.bucket_held-held.ensures c.leave_slot.ensures

pub returns-clause-stands : goal.returns-clause-stands
returns-clause-stands c =
    let told : c.read-tally.result ≡ after_event (reads c.bucket_held-held.result.reads) (after_event decrease c.args.state.tally) = c.read-tally.ensures ∙ ap (after_event (reads c.bucket_held-held.result.reads)) c.decreased-decreased.ensures in
    let place : ℕ = get_or (places c.args.layout.nodes c.args.words.now) c.args.v.0 0 in
    let read : c.place_of-place.result ≡ place = c.place_of-place.ensures in
    let held : place ≢ 0 = λ e. eqb-false _ 0 (sym c.is_unlabelled.ensures ∙ c.if-is_unlabelled.false) (read ∙ e) in
    let from : c.place_bucket-start.result ≡ place_bucket place = c.place_bucket-start.ensures ∙ ap place_bucket read in
    λ X before roster h' L.
    held_stands L held from c.bucket_held-held.ensures c.leave_slot.ensures c.enter-current.ensures c.args.arc.0 refl refl refl told

pub overflow_add-result : goal.overflow_add-result
overflow_add-result c =
    let held-current : c.args.state.current + c.enter-current.result ≤ 4097 = omega (arith, current_few c.requires.labels, entered_low c.enter-current.ensures) in
    omega (arith, held-current)
