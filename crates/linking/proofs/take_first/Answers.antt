-- `linking::take_first` meets its contract: the head word tells, and is the one that points to the node.
use Prim.Native.Nat.{ℕ, suc, ◌+◌, ◌*◌, ◌-◌, ◌≤◌}
use native.Mathlib.Omega.{arith}
use mathlib.Core.Path.{◌≡◌, refl, sym, ◌∙◌}
use lib.ListN.{get_or}
use Rattle.buckets.specs.Words.{place_bucket, places}
use Rattle.buckets.specs.Answer.{InSlot}
use Rattle.buckets.specs.Links.Count.{take_ready, take_before, take_moved}
use Rattle.buckets.specs.Links.Walk.{first_none, first_some, first_home, first_held, first_bucket}
use Rattle.linking.proofs.take_first.Goals as goal

pub returns-then-first-eq0 : goal.returns-then-first-eq0
returns-then-first-eq0 c = (first_none c.requires.linked c.args.slot c.requires.slot_lt_slots.0 (omega arith), refl)

pub count_out-requires-clause-v_lt_n : goal.count_out-requires-clause-v_lt_n
count_out-requires-clause-v_lt_n c =
    let v : ℕ = get_or c.args.words.now (4 * c.args.n + 32 + c.args.slot) 0 - 1 in
    let is : get_or c.args.words.now (4 * c.args.n + 32 + c.args.slot) 0 ≡ suc v = omega arith in
    let in_slot : InSlot c.args.n c.args.segments c.args.slot c.args.words.now v = first_some c.requires.linked c.args.slot c.requires.slot_lt_slots.0 v is in
    let held : 512 ≤ get_or (places c.args.n c.args.words.now) v 0 = first_held c.requires.linked c.args.slot c.requires.slot_lt_slots.0 v in_slot in
    let bucket : c.args.bucket ≡ place_bucket (get_or c.args.words.now (2 * c.args.n + v) 0) = c.requires.slot_lt_slots.1 ∙ sym (first_bucket c.requires.linked c.args.slot c.requires.slot_lt_slots.0 v in_slot) in
    (in_slot.0, bucket)

pub count_out-requires-clause-held : goal.count_out-requires-clause-held
count_out-requires-clause-held c =
    let v : ℕ = get_or c.args.words.now (4 * c.args.n + 32 + c.args.slot) 0 - 1 in
    let is : get_or c.args.words.now (4 * c.args.n + 32 + c.args.slot) 0 ≡ suc v = omega arith in
    let in_slot : InSlot c.args.n c.args.segments c.args.slot c.args.words.now v = first_some c.requires.linked c.args.slot c.requires.slot_lt_slots.0 v is in
    let held : 512 ≤ get_or (places c.args.n c.args.words.now) v 0 = first_held c.requires.linked c.args.slot c.requires.slot_lt_slots.0 v in_slot in
    let bucket : c.args.bucket ≡ place_bucket (get_or c.args.words.now (2 * c.args.n + v) 0) = c.requires.slot_lt_slots.1 ∙ sym (first_bucket c.requires.linked c.args.slot c.requires.slot_lt_slots.0 v in_slot) in
    held

pub unlink-requires-clause-chains : goal.unlink-requires-clause-chains
unlink-requires-clause-chains c =
    let v : ℕ = get_or c.args.words.now (4 * c.args.n + 32 + c.args.slot) 0 - 1 in
    let is : get_or c.args.words.now (4 * c.args.n + 32 + c.args.slot) 0 ≡ suc v = omega arith in
    let in_slot : InSlot c.args.n c.args.segments c.args.slot c.args.words.now v = first_some c.requires.linked c.args.slot c.requires.slot_lt_slots.0 v is in
    let held : 512 ≤ get_or (places c.args.n c.args.words.now) v 0 = first_held c.requires.linked c.args.slot c.requires.slot_lt_slots.0 v in_slot in
    let bucket : c.args.bucket ≡ place_bucket (get_or c.args.words.now (2 * c.args.n + v) 0) = c.requires.slot_lt_slots.1 ∙ sym (first_bucket c.requires.linked c.args.slot c.requires.slot_lt_slots.0 v in_slot) in
    let home : get_or c.args.words.now (c.args.n + v) 0 ≡ 4 * c.args.n + 32 + c.args.slot = first_home c.requires.linked c.args.slot c.requires.slot_lt_slots.0 v is in
    let e = rw bucket at c.count_out.ensures in
    let r = take_ready c.requires.linked v in_slot.0 held e in
    r.1

pub unlink-requires-clause-v_lt_n : goal.unlink-requires-clause-v_lt_n
unlink-requires-clause-v_lt_n c =
    let v : ℕ = get_or c.args.words.now (4 * c.args.n + 32 + c.args.slot) 0 - 1 in
    let is : get_or c.args.words.now (4 * c.args.n + 32 + c.args.slot) 0 ≡ suc v = omega arith in
    let in_slot : InSlot c.args.n c.args.segments c.args.slot c.args.words.now v = first_some c.requires.linked c.args.slot c.requires.slot_lt_slots.0 v is in
    let held : 512 ≤ get_or (places c.args.n c.args.words.now) v 0 = first_held c.requires.linked c.args.slot c.requires.slot_lt_slots.0 v in_slot in
    let bucket : c.args.bucket ≡ place_bucket (get_or c.args.words.now (2 * c.args.n + v) 0) = c.requires.slot_lt_slots.1 ∙ sym (first_bucket c.requires.linked c.args.slot c.requires.slot_lt_slots.0 v in_slot) in
    let home : get_or c.args.words.now (c.args.n + v) 0 ≡ 4 * c.args.n + 32 + c.args.slot = first_home c.requires.linked c.args.slot c.requires.slot_lt_slots.0 v is in
    let e = rw bucket at c.count_out.ensures in
    let r = take_ready c.requires.linked v in_slot.0 held e in
    (in_slot.0, sym home ∙ sym (take_before c.requires.linked v in_slot.0 held e))

pub unlink-requires-clause-held : goal.unlink-requires-clause-held
unlink-requires-clause-held c =
    let v : ℕ = get_or c.args.words.now (4 * c.args.n + 32 + c.args.slot) 0 - 1 in
    let is : get_or c.args.words.now (4 * c.args.n + 32 + c.args.slot) 0 ≡ suc v = omega arith in
    let in_slot : InSlot c.args.n c.args.segments c.args.slot c.args.words.now v = first_some c.requires.linked c.args.slot c.requires.slot_lt_slots.0 v is in
    let held : 512 ≤ get_or (places c.args.n c.args.words.now) v 0 = first_held c.requires.linked c.args.slot c.requires.slot_lt_slots.0 v in_slot in
    let bucket : c.args.bucket ≡ place_bucket (get_or c.args.words.now (2 * c.args.n + v) 0) = c.requires.slot_lt_slots.1 ∙ sym (first_bucket c.requires.linked c.args.slot c.requires.slot_lt_slots.0 v in_slot) in
    let home : get_or c.args.words.now (c.args.n + v) 0 ≡ 4 * c.args.n + 32 + c.args.slot = first_home c.requires.linked c.args.slot c.requires.slot_lt_slots.0 v is in
    let e = rw bucket at c.count_out.ensures in
    let r = take_ready c.requires.linked v in_slot.0 held e in
    r.2

pub returns : goal.returns
returns c =
    let v : ℕ = get_or c.args.words.now (4 * c.args.n + 32 + c.args.slot) 0 - 1 in
    let is : get_or c.args.words.now (4 * c.args.n + 32 + c.args.slot) 0 ≡ suc v = omega arith in
    let in_slot : InSlot c.args.n c.args.segments c.args.slot c.args.words.now v = first_some c.requires.linked c.args.slot c.requires.slot_lt_slots.0 v is in
    let held : 512 ≤ get_or (places c.args.n c.args.words.now) v 0 = first_held c.requires.linked c.args.slot c.requires.slot_lt_slots.0 v in_slot in
    let bucket : c.args.bucket ≡ place_bucket (get_or c.args.words.now (2 * c.args.n + v) 0) = c.requires.slot_lt_slots.1 ∙ sym (first_bucket c.requires.linked c.args.slot c.requires.slot_lt_slots.0 v in_slot) in
    let e = rw bucket at c.count_out.ensures in
    (in_slot, take_moved c.requires.linked v in_slot.0 held e c.unlink.ensures)
