-- `bounds::first_bounds` meets its contract.
use Rattle.std.proofs.Common.{◌+◌, ◌*◌, List, ap, ◌∙◌, ℕ, arith}
use Rattle.std.proofs.Math.ListN.{set}
use Rattle.bounds.proofs.First.{first_made}
use Rattle.bounds.proofs.first_bounds.Goals as goal

pub returns : goal.returns
returns c =
    let a = c.args in
    ap (λ (l : List ℕ). set l (4 * a.n + a.buckets) a.top) c.set_bounds.ensures
    ∙ first_made a.n a.sizes.now a.buckets a.top _ a.words.now c.raised-first.ensures (c.requires.sized.positive 1 (omega arith)) (omega arith) (omega arith)
