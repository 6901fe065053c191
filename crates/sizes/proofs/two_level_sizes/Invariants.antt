-- `sizes::two_level_sizes` meets its contract: after i turns the first i powers are copied, and zeros stand past them.
use Prim.Native.Nat.{◌≤◌}
use mathlib.Core.Path.{◌≡◌}
use lib.ListN.{replicate}
use lib.Seq.{paste}
use Rattle.sizes.proofs.two_level_sizes.Given as goal

abbrev pub invariant-loop-i : goal.invariant-loop-i
invariant-loop-i l = (l.i ≤ 21) × (l.sizes ≡ paste (replicate 22 0) 0 l.powers l.i)
