-- `bounds::bucket_of` meets its contract: the search that is left, from bucket i down, finds what the whole search does, and reads so many
-- bounds fewer as were read before it.
use Rattle.std.proofs.Common.{◌≡◌, ◌+◌}
use Rattle.theory.specs.Heap.{bucket_from, reads_from}
use Rattle.bounds.specs.Words.{bounds_of}
use Rattle.bounds.proofs.bucket_of.Given as goal

abbrev pub invariant-loop-i : goal.invariant-loop-i
invariant-loop-i l = record {
  bucket : bucket_from (bounds_of l.n l.words) l.key l.i ≡ bucket_from (bounds_of l.n l.words) l.key l.start;
  reads : reads_from (bounds_of l.n l.words) l.key l.i + l.start ≡ reads_from (bounds_of l.n l.words) l.key l.start + l.i;
}
