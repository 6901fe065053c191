-- `check_lists::starts::starts_check` meets its contract: starts that rise from 0 to m have no fault.
use mathlib.Core.Path.{sym}
use mathlib.Core.Bool.{not, ◌||◌}
use native.Mathlib.Omega.{arith}
use lib.Dec.{eqb}
use lib.ListN.{get_or}
use borrow.Author.Tests.{eqb-true, not-false}
use borrow.Author.Rules.{rules}
use Rattle.check_lists.proofs.Start.{rise_passes}
use Rattle.check_lists.proofs.Tests.{or_left, or_right}
use Rattle.check_lists.proofs.starts.starts_check.Goals as goal

pub overflow_cast-ends : goal.overflow_cast-ends
overflow_cast-ends c = omega (arith, c.type_inv.starts c.args.n)

pub returns-else-ends-any_falls : goal.returns-else-ends-any_falls
returns-else-ends-any_falls c =
    let n = c.args.n in
    let arcs = c.args.arcs in
    let starts = c.args.starts.now in
    let ends = not (eqb (get_or starts 0 0) 0) || not (eqb (get_or starts n 0) arcs) in
    let fit = or_left ends _ c.if-ends-any_falls.false in
    sym (rise_passes n arcs starts (search rules)
    (eqb-true _ _ (not-false (eqb (get_or starts 0 0) 0) (or_left _ (not (eqb (get_or starts n 0) arcs)) fit)))
    (eqb-true _ _ (not-false (eqb (get_or starts n 0) arcs) (or_right (not (eqb (get_or starts 0 0) 0)) _ fit)))
    (c.any_falls.ensures (or_right ends _ c.if-ends-any_falls.false)))
