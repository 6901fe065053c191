-- `linking::link` meets its contract: the laws of `Links.Put` at the words of the slice.
use Prim.Native.Nat.{◌+◌, ◌*◌, ◌≤◌, ◌<◌}
use native.Mathlib.Omega.{arith}
use lib.ListN.{get_or}
use Rattle.buckets.specs.Words.{node_or}
use Rattle.buckets.specs.Words.Laws.{node_or_low}
use Rattle.buckets.specs.Links.Put.{head_le, put_relinked}
use Rattle.linking.proofs.link.Goals as goal

pub bounds-words-n : goal.bounds-words-n
bounds-words-n c =
    let first-le : get_or c.args.words.now (4 * c.args.n + 32 + c.args.slot) 0 ≤ c.args.n = head_le c.requires.words_fit c.requires.chains c.args.v c.args.slot c.requires.v_lt_n.0 c.requires.v_lt_n.1 in
    let target : node_or (get_or c.args.words.now (4 * c.args.n + 32 + c.args.slot) 0) c.args.v < c.args.n = node_or_low _ _ _ (first-le) c.requires.v_lt_n.0 in
    omega (arith, c.node_or-u.ensures, target)

pub returns : goal.returns
returns c =
    put_relinked c.requires.words_fit c.requires.chains c.args.v c.args.slot c.requires.v_lt_n.0 c.requires.v_lt_n.1 _ _ _ _ _ _
    (omega (arith, c.requires.v_lt_n.2, c.node_or-u.ensures)) c.requires.free
