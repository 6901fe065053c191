-- `check_lists::limits::first_above` meets its contract: the indices that are left decide.
use mathlib.Core.Path.{◌≡◌}
use Prim.Native.Nat.{◌-◌}
use Rattle.check_lists.specs.Lists.{least_failing, word_above}
use Rattle.check_lists.proofs.limits.first_above.Given as goal

abbrev pub invariant-loop-i : goal.invariant-loop-i
invariant-loop-i l = least_failing (word_above l.limit l.words) l.first (l.last - l.first) ≡ least_failing (word_above l.limit l.words) l.i (l.last - l.i)
