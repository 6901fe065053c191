-- `bounds::set_bounds` meets its contract: the bounds that are left to set, from bucket i on, come out as all of them do.
use Rattle.std.proofs.Common.{◌≡◌, ◌+◌, ◌-◌, ◌*◌, ◌++◌, min, refl, sym, ap₂, ◌∙◌, arith}
use lib.ListN.{take-append-drop}
use lib.Seq.{take-set-le}
use Rattle.theory.specs.Heap.{rebound}
use Rattle.bounds.specs.Words.{size_of, rebound_words}
use Rattle.bounds.proofs.Rebound.{rebound_turn}
use Rattle.bounds.proofs.set_bounds.Goals as goal

-- At first nothing is added.
pub loop-i-init : goal.loop-i-init
loop-i-init c =
    let e : min (c.args.before + 0) c.args.end ≡ c.args.before = omega arith in
    record { offset_fits = omega arith; front_kept = refl; bounds_left = rw e }

pub loop-i-preserved : goal.loop-i-preserved
loop-i-preserved c =
    let a = c.args in
    let x = size_of a.sizes.now c.loop-i.i in
    let e : min (a.before + (c.loop-i.offset + x)) a.end ≡ min (min (a.before + c.loop-i.offset) a.end + x) a.end = omega arith in
    let turn = rebound_turn (size_of a.sizes.now) a.end (min (a.before + c.loop-i.offset) a.end) c.loop-i.i a.to (4 * a.n) c.loop-i.words (omega arith) in
    record {
      offset_fits = omega (arith, c.type_inv.sizes c.loop-i.i);
      front_kept = take-set-le (4 * a.n) c.loop-i.words _ _ (omega arith) ∙ c.loop-i.invariant.front_kept;
      bounds_left = rw (c.raised.ensures, e) (turn ∙ c.loop-i.invariant.bounds_left);
    }

pub returns : goal.returns
unfolding rebound rebound_words
returns c =
    let a = c.args in
    let none : a.to - c.loop-i.i ≡ 0 = omega arith in
    sym (take-append-drop (4 * a.n) c.loop-i.words) ∙ ap₂ ◌++◌ c.loop-i.invariant.front_kept (rw none at c.loop-i.invariant.bounds_left)
