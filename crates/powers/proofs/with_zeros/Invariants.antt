-- `powers::with_zeros` meets its contract: after i turns the first i words stand in place of zeros, and zeros past them.
use Rattle.std.proofs.Common.{◌≡◌, ℕ, ◌≤◌, ◌<◌, get_or}
use Rattle.std.proofs.Math.ListN.{replicate}
use Rattle.std.proofs.Math.Seq.{paste}
use Rattle.powers.proofs.with_zeros.Given as goal

abbrev pub invariant-loop-i : goal.invariant-loop-i
invariant-loop-i l = record {
  copied : l.row ≡ paste (replicate 21 0) 0 l.words l.i;
  zero_left : (k : ℕ) → l.i ≤ k → k < 21 → get_or l.row k 0 ≡ 0;
}
