-- `search::start` meets its contract.
use mathlib.Core.Path.{◌≡◌, ◌∙◌, ap}
use mathlib.Core.List.{[]}
use lib.ListN.{get_or}
use Rattle.buckets.specs.Words.{places}
use Rattle.theory.specs.Heap.{heap_blank}
use Rattle.search.proofs.Blank.{bounds_in, blank_place, start_labels, started, blank_state}
use borrow.Author.Rules.{rules}
use Rattle.state.specs.declared.State.{State}
use Rattle.search.proofs.start.Goals as goal

pub first_bounds-requires : goal.first_bounds-requires
first_bounds-requires c =
    let p = c.requires in
    record { buckets_in_bounds = bounds_in p.starts c.fill.ensures; sized = p.setting.agrees.sized }

pub insert_node-requires : goal.insert_node-requires
insert_node-requires c =
    let unlabelled : get_or (places c.args.layout.nodes c.first_bounds.new.words) c.args.source.0 0 ≡ 0 = blank_place c.requires.starts c.fill.ensures c.first_bounds.ensures c.fill-2.ensures c.fill-3.ensures
    c.args.source.0 in
    let zeros : c.default-blank.result ≡ blank_state = search rules in
    let p = c.requires in rw zeros (record { some_labels = record { setting = p.setting; before = []; roster = []; heap = heap_blank p.setting.network p.setting.shape; labels = start_labels p.starts c.fill.ensures c.first_bounds.ensures c.fill-2.ensures c.fill-3.ensures [] }; v_value = unlabelled })

pub returns : goal.returns
returns c =
    let zeros : c.default-blank.result ≡ blank_state = search rules in
    let made = c.insert_node.ensures in
    record {
      stands = λ X before S.
          rw (← (started S)) (made.stands X before before (heap_blank X.network X.shape) (rw zeros (start_labels S c.fill.ensures c.first_bounds.ensures c.fill-2.ensures c.fill-3.ensures before)));
      front = made.front ∙ ap (λ (s : State). s.front) zeros;
    }
