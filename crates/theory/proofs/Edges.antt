-- Every row of the table of edges holds of the definitions: one computed theorem, so that a case is added as a row.
use mathlib.Core.Path.{◌≡◌, refl}
use mathlib.Core.List.{map}
use Rattle.theory.specs.Network.{links_from, tail_hold, network}
use Rattle.theory.specs.Search.{label, remove, blank}
use Rattle.theory.specs.Shape.{log_from, ceil_log, one_level_buckets, two_level_buckets, one_level, two_level}
use Rattle.theory.specs.Heap.{bucket_from, reads_from, heap_label, heap_relax, heap_relax_all, pick, rebound, bounds_after, move, heap_remove, heap_scan, heap_from, bounds_from, first_bounds, heap_blank, heap_start, heap}
use Rattle.theory.specs.Runs.{steps_of}
use Rattle.theory.specs.Edges.{answer_to, edges}

pub edges_hold : map (λ row. answer_to row.question) edges ≡ map (λ row. row.answer) edges
unfolding edges answer_to steps_of network links_from tail_hold label remove blank log_from ceil_log one_level_buckets two_level_buckets one_level two_level bucket_from reads_from heap_label heap_relax heap_relax_all pick rebound bounds_after move heap_remove heap_scan heap_from bounds_from first_bounds heap_blank heap_start heap
edges_hold = refl
