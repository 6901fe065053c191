-- `powers::with_zeros` meets its contract: after i turns the first i words stand in place of zeros, and zeros past them.
use Rattle.std.proofs.Common.{◌≡◌, ◌≢◌, length, get_or, refl, arith, zero-add}
use Rattle.std.proofs.Math.ListN.{replicate}
use Rattle.std.proofs.lemmas.List.{get_or-replicate, get_or-set_other, drop-replicate}
use Rattle.std.proofs.lemmas.List.Edits.{paste_none, paste_all}
use Rattle.std.specs.Int.Bits.{or_zero_l}
use Rattle.powers.proofs.Copied.{copied_more}
use Rattle.powers.proofs.with_zeros.Goals as goal

pub loop-i-init : goal.loop-i-init
loop-i-init c = record {
  copied = paste_none (replicate 21 0) 0 c.args.words.now;
  zero_left = λ k _ h. get_or-replicate 21 k 0 0 h;
}

pub loop-i-preserved : goal.loop-i-preserved
loop-i-preserved c =
    let i = c.loop-i.i in
    let zero_here : get_or c.loop-i.row i 0 ≡ 0 = c.loop-i.invariant.zero_left i (omega arith) (omega arith) in
    record {
      copied = rw (zero_here, or_zero_l (get_or c.args.words.now i 0), c.loop-i.invariant.copied) (copied_more (replicate 21 0) c.args.words.now i (omega arith) (omega arith));
      zero_left = λ k after h. let other : k ≢ i = omega arith in rw get_or-set_other (c.loop-i.invariant.zero_left k (omega arith) h);
    }

pub returns : goal.returns
returns c =
    let whole = paste_all (replicate 21 0) 0 c.args.words.now (length c.args.words.now) refl in
    let all_read : c.loop-i.i ≡ length c.args.words.now = omega arith in
    rw (c.loop-i.invariant.copied, all_read, whole, drop-replicate, zero-add)
