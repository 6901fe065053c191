-- `search::run` meets its contract.
use Rattle.theory.specs.Heap.{heap_start}
use Rattle.search.proofs.Stepping.{start_steps}
use Rattle.search.proofs.run.Goals as goal

pub scan_all-requires : goal.scan_all-requires
scan_all-requires c =
    let p = c.requires in
    record {
      setting = p.setting;
      before = c.args.roster.now;
      heap = heap_start p.setting.network p.setting.shape;
      steps = start_steps p.runs (c.start-state.ensures.stands p.setting c.args.roster.now p.runs.starts) c.start-state.ensures.front;
    }

pub returns : goal.returns
returns c X R =
    c.scan_all.ensures X c.args.roster.now (heap_start X.network X.shape) (start_steps R (c.start-state.ensures.stands X c.args.roster.now R.starts) c.start-state.ensures.front)
