-- `check_lists::limits::any_above` meets its contract: a word above the limit was passed exactly if not every word passed is at most it.
use mathlib.Core.Path.{◌≡◌}
use mathlib.Core.Bool.{false}
use Prim.Native.Nat.{ℕ, ◌≤◌, ◌<◌}
use lib.ListN.{get_or}
use Rattle.check_lists.proofs.limits.any_above.Given as goal

abbrev pub invariant-loop-word : goal.invariant-loop-word
invariant-loop-word l = (l.any ≡ false → (k : ℕ) → k < l.word-index → get_or l.words k 0 ≤ l.limit) × (((k : ℕ) → k < l.word-index → get_or l.words k 0 ≤ l.limit) → l.any ≡ false)
