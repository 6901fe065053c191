-- `check_lists::starts::any_falls` meets its contract: while no word fell, each word before i is at most the next.
use mathlib.Core.Path.{◌≡◌}
use mathlib.Core.Bool.{false}
use Prim.Native.Nat.{ℕ, ◌-◌, ◌≤◌, ◌<◌}
use lib.ListN.{get_or}
use Rattle.check_lists.proofs.starts.any_falls.Given as goal

abbrev pub invariant-loop-i : goal.invariant-loop-i
invariant-loop-i l = (1 ≤ l.i) × (l.any ≡ false → (k : ℕ) → k < l.i → 0 < k → get_or l.words (k - 1) 0 ≤ get_or l.words k 0)
