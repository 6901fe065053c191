-- `linking::unlink` meets its contract: the laws of `Links.Take` at the words of the slice.
use Prim.Native.Nat.{◌+◌, ◌<◌}
use native.Mathlib.Omega.{arith}
use lib.ListN.{get_or, length-set}
use Rattle.buckets.specs.Words.{node_or, heads}
use Rattle.buckets.specs.Words.Laws.{node_or_low}
use Rattle.buckets.specs.Links.Take.{home_low, next_le, take_relinked}
use Rattle.linking.proofs.unlink.Goals as goal

pub bounds-words-before : goal.bounds-words-before
bounds-words-before c =
    let low : c.args.before < heads c.args.n + c.args.slots = rw c.requires.v_lt_n.1 (home_low c.requires.words_fit c.requires.chains c.args.v c.requires.v_lt_n.0 c.requires.held) in
    simp length-set (omega (arith, low))

pub bounds-words-n-2 : goal.bounds-words-n-2
bounds-words-n-2 c =
    let target : node_or (get_or c.args.words.now c.args.v 0) c.args.v < c.args.n = node_or_low _ _ _ (next_le c.requires.words_fit c.requires.chains c.args.v c.requires.v_lt_n.0 c.requires.held) c.requires.v_lt_n.0 in
    simp length-set (omega (arith, c.node_or-u.ensures, target))

pub returns : goal.returns
returns c =
    take_relinked c.requires.words_fit c.requires.chains c.args.v c.requires.v_lt_n.0 c.requires.held _ _ _ _
    (omega (arith, c.requires.v_lt_n.1, c.node_or-u.ensures)) c.args.before c.requires.v_lt_n.1
