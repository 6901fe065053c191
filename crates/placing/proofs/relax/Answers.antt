-- `placing::relax` meets its contract.
use native.Mathlib.Omega.{arith}
use Rattle.placing.proofs.Relaxation.{sum_fits, head_in, relax_labels, relaxed_label, relaxed_same}
use Rattle.placing.proofs.relax.Goals as goal

pub overflow_add-sum : goal.overflow_add-sum
overflow_add-sum c = omega (arith, sum_fits c.requires.relaxes)

pub bounds-distances-at : goal.bounds-distances-at
bounds-distances-at c = head_in c.requires.relaxes

pub label-requires : goal.label-requires
label-requires c =
    let p = c.requires in
    record { setting = p.setting; before = p.before; roster = p.roster; heap = p.heap; labels = relax_labels p.relaxes c.if-sum-distances.true }

pub returns-then-sum-distances-clause-stands : goal.returns-then-sum-distances-clause-stands
returns-then-sum-distances-clause-stands c =
    let falls = c.if-sum-distances.true in
    let made = c.label.ensures in
    λ X before roster u ls h R. rw (relaxed_label R falls) at (made.stands X before roster h (relax_labels R falls))

pub returns-clause-stands : goal.returns-clause-stands
returns-clause-stands c = λ X before roster u ls h R. rw (← (relaxed_same R c.if-sum-distances.false)) R.stands
