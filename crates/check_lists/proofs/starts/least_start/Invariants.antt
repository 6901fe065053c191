-- `check_lists::starts::least_start` meets its contract: the indices that are left decide.
use Rattle.model.specs.declared.Kind.TheVariants.{Starts}
use mathlib.Core.Path.{◌≡◌}
use Prim.Native.Nat.{◌+◌, ◌-◌}
use Rattle.check_lists.specs.Lists.{least_fault, start_fails, starts_check}
use Rattle.check_lists.proofs.starts.least_start.Given as goal

abbrev pub invariant-loop-i : goal.invariant-loop-i
invariant-loop-i l = starts_check l.n l.arcs l.starts ≡ least_fault Starts (start_fails l.n l.arcs l.starts) l.i (l.n + 1 - l.i)
