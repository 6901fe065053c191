-- Every marked case holds of the definitions: one theorem over the table. The rows of numbers hold by theory's theorem; the files are
-- computed. Assumes nothing.
use mathlib.Core.Path.{◌≡◌, refl, ◌∙◌, ap, ap₂, sym}
use mathlib.Core.List.{List, [], ◌∷◌, ◌++◌, map, map-append}
use lib.ListN.{replicate}
use Rattle.theory.specs.Network.{links_from, tail_hold, network}
use Rattle.theory.specs.Search.{label, remove, blank}
use Rattle.theory.specs.Shape.{log_from, ceil_log, one_level_buckets, two_level_buckets, one_level, two_level}
use Rattle.theory.specs.Heap.{bucket_from, reads_from, heap_label, heap_relax, heap_relax_all, pick, rebound, bounds_after, move, heap_remove, heap_scan, heap_from, bounds_from, first_bounds, heap_blank, heap_start, heap}
use Rattle.theory.specs.Runs.{inputs, steps_of}
use Rattle.theory.specs.Edges.{Row, answer_to, edges}
use Rattle.theory.proofs.Edges.{edges_hold}
use Rattle.check_numbers.specs.Numbers.{fault_if}
use Rattle.check_lists.specs.Lists.{least_fault}
use Rattle.check_sums.specs.Sums.{sums_check}
use Rattle.checks.specs.Checks.{first_fault, lent_checks}
use Rattle.fields.specs.Fields.{digits, number_from, is_field, field, fields, decimal_by, render_fields}
use Rattle.fields.specs.Texts.{bytes_of}
use Rattle.grouping.specs.Groups.{keys_below, having, groups_from, starts_from}
use Rattle.grouping.specs.Arcs.{starts_of, heads_of, costs_of}
use Rattle.grouping.specs.Listing.{listing_arcs}
use Rattle.cursor.specs.Lines.{line_numbers}
use Rattle.plan_lines.specs.Lines.{arc_line, hold_line, header_line}
use Rattle.plan_lines.specs.Told.{lines_taken, lines_arcs, lines_holds}
use Rattle.plan_checks.specs.Checking.{arc_checks, arcs_check, hold_lines_check, behind_checks, lines_checks, header_checks, plan_check}
use Rattle.reader.specs.Plans.{plan_of, plan_run}
use Rattle.report.specs.Report.{refused_text, counts_line, heap_line, or_none, node_line, node_lines, accepted_text}
use Rattle.planning.specs.Planning.{planning_check, plan_text_lem}
use Rattle.planning.specs.Marked.{Told, answer, numbers, given_for, said, listing_file, files, marked}

-- ---- the rows of numbers

rows_given : (rows : List Row) → map given_for (map numbers rows) ≡ map answer (map (λ row. answer_to row.question) rows)
unfolding given_for
rows_given [] = refl
rows_given (row ∷ rows) = ap (λ (l : List Told). answer (answer_to row.question) ∷ l) (rows_given rows)

rows_said : (rows : List Row) → map said (map numbers rows) ≡ map answer (map (λ row. row.answer) rows)
unfolding said
rows_said [] = refl
rows_said (row ∷ rows) = ap (λ (l : List Told). answer row.answer ∷ l) (rows_said rows)

numbers_hold : map given_for (map numbers edges) ≡ map said (map numbers edges)
numbers_hold = rows_given edges ∙ ap (map answer) edges_hold ∙ sym (rows_said edges)

-- ---- the files

files_hold : map given_for files ≡ map said files
unfolding given_for said files steps_of network links_from tail_hold label remove blank log_from ceil_log one_level_buckets two_level_buckets one_level two_level bucket_from reads_from heap_label heap_relax heap_relax_all pick rebound bounds_after move heap_remove heap_scan heap_from bounds_from first_bounds heap_blank heap_start heap plan_text_lem planning_check bytes_of fault_if first_fault lent_checks digits number_from is_field field fields decimal_by render_fields line_numbers arc_line hold_line header_line lines_taken lines_arcs lines_holds arc_checks arcs_check hold_lines_check least_fault sums_check behind_checks lines_checks header_checks plan_check keys_below having groups_from starts_from refused_text counts_line heap_line or_none node_line node_lines accepted_text
files_hold = refl

-- ---- the table

pub marked_hold : map given_for marked ≡ map said marked
marked_hold =
    map-append given_for (map numbers edges) files
    ∙ ap₂ (λ (rows texts : List Told). rows ++ texts) numbers_hold files_hold
    ∙ sym (map-append said (map numbers edges) files)

-- ---- the listing

-- The map of the listing is that of its arcs, which a road file may tell in another order.
pub listing_told : plan_run (plan_of (bytes_of listing_file)) ≡ inputs 5 9 0 (starts_of 5 listing_arcs) (heads_of 5 listing_arcs) (costs_of 5 listing_arcs) (replicate 5 0)
unfolding listing_arcs bytes_of digits number_from is_field field fields line_numbers arc_line header_line lines_arcs keys_below having groups_from starts_from
listing_told = refl
