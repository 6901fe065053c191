-- `bounds::set_bounds` meets its contract: the bounds that are left to set, from bucket i on, come out as all of them do.
use Rattle.std.proofs.Common.{◌≡◌, ◌+◌, ◌-◌, ◌*◌, ◌≤◌, take, min}
use Rattle.theory.specs.Heap.{rebound}
use Rattle.bounds.specs.Words.{bounds_of, size_of}
use Rattle.bounds.proofs.set_bounds.Given as goal

abbrev pub invariant-loop-i : goal.invariant-loop-i
invariant-loop-i l = record {
  offset_fits : l.offset + l.from * 4294967296 ≤ l.i * 4294967296;
  front_kept : take (4 * l.n) l.words ≡ take (4 * l.n) l.initial.words;
  bounds_left : rebound (size_of l.sizes) l.end (min (l.before + l.offset) l.end) l.i (l.to - l.i) (bounds_of l.n l.words)
      ≡ rebound (size_of l.sizes) l.end l.before l.from (l.to - l.from) (bounds_of l.n l.initial.words);
}
