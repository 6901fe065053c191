-- `placing::insert_node` meets its contract.
use Prim.Native.Nat.{◌+◌, ◌≤◌}
use native.Mathlib.Omega.{arith}
use native.Mathlib.Nat.{le_refl}
use mathlib.Core.Path.{refl, ◌∙◌, ap}
use Rattle.state.specs.Tallies.{reads, after_event}
use Rattle.state.proofs.Tallies.{same_reads}
use Rattle.placing.proofs.Labelling.{entered_low, current_few, read_few, fresh_entering, fresh_stands}
use Rattle.placing.proofs.insert_node.Goals as goal

pub enter-current-requires : goal.enter-current-requires
enter-current-requires c = fresh_entering c.requires.some_labels.labels c.requires.v_value c.bucket_of-found.ensures

pub read-requires : goal.read-requires
read-requires c = omega (arith, same_reads c.inserted.ensures, read_few c.requires.some_labels.labels (le_refl _) c.bucket_of-found.ensures.1)

pub returns-clause-stands : goal.returns-clause-stands
returns-clause-stands c = λ X before roster h L.
    fresh_stands L c.requires.v_value c.bucket_of-found.ensures c.enter-current.ensures c.args.arc.0 refl refl refl
    (c.read.ensures ∙ ap (after_event (reads c.bucket_of-found.result.reads)) c.inserted.ensures)

pub overflow_add-result : goal.overflow_add-result
overflow_add-result c =
    let current-low : c.args.state.current + c.enter-current.result ≤ 4097 = omega (arith, current_few c.requires.some_labels.labels, entered_low c.enter-current.ensures) in
    omega (arith, current-low)
