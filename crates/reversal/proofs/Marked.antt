-- Every row of the table holds of the definitions. Computed.
use mathlib.Core.Path.{◌≡◌, refl}
use mathlib.Core.List.{map}
use Rattle.theory.specs.Maps.{tail_from_lem}
use Rattle.theory.specs.Network.{links_from, tail_hold, network}
use Rattle.theory.specs.Search.{label, remove, blank}
use Rattle.theory.specs.Shape.{log_from, ceil_log, one_level_buckets, two_level_buckets, one_level, two_level}
use Rattle.theory.specs.Heap.{bucket_from, reads_from, heap_label, heap_relax, heap_relax_all, pick, rebound, bounds_after, move, heap_remove, heap_scan, heap_from, bounds_from, first_bounds, heap_blank, heap_start, heap}
use Rattle.theory.specs.Runs.{steps_of}
use Rattle.grouping.specs.Groups.{keys_below, having, groups_from, starts_from}
use Rattle.reversal.specs.Reversed.{old_numbers, reversed}
use Rattle.reversal.specs.Marked.{reversal_answer, reversal_rows}

pub reversal_rows_hold : map (λ row. reversal_answer row.question) reversal_rows ≡ map (λ row. row.answer) reversal_rows
unfolding reversal_rows reversal_answer reversed old_numbers keys_below having groups_from starts_from tail_from_lem steps_of network links_from tail_hold label remove blank log_from ceil_log one_level_buckets two_level_buckets one_level two_level bucket_from reads_from heap_label heap_relax heap_relax_all pick rebound bounds_after move heap_remove heap_scan heap_from bounds_from first_bounds heap_blank heap_start heap
reversal_rows_hold = refl
