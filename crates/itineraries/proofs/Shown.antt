-- What the definition gives for files: the listing (document 01, "Planning file"), also with holds (document 02, paper 2), and an empty file,
-- which is turned down. Assumes nothing.
use mathlib.Core.Path.{◌≡◌, refl}
use Rattle.theory.specs.Maps.{tail_from_lem}
use Rattle.theory.specs.Network.{links_from, tail_hold, network}
use Rattle.theory.specs.Search.{label, remove, blank}
use Rattle.theory.specs.Shape.{log_from, ceil_log, one_level_buckets, one_level}
use Rattle.theory.specs.Heap.{bucket_from, heap_label, heap_relax, heap_relax_all, pick, rebound, bounds_after, move, heap_remove, heap_scan, heap_from, bounds_from, first_bounds, heap_blank, heap_start, heap}
use Rattle.theory.specs.Runs.{steps_of}
use Rattle.check_numbers.specs.Numbers.{fault_if}
use Rattle.check_lists.specs.Lists.{least_fault}
use Rattle.check_sums.specs.Sums.{sums_check}
use Rattle.checks.specs.Checks.{first_fault, lent_checks}
use Rattle.fields.specs.Fields.{digits, number_from, is_field, field, fields, decimal_by, render_fields}
use Rattle.fields.specs.Texts.{bytes_of}
use Rattle.grouping.specs.Groups.{keys_below, having, groups_from, starts_from}
use Rattle.cursor.specs.Lines.{line_numbers}
use Rattle.plan_lines.specs.Lines.{arc_line, hold_line, header_line}
use Rattle.plan_lines.specs.Told.{lines_taken, lines_arcs, lines_holds}
use Rattle.plan_checks.specs.Checking.{arc_checks, arcs_check, hold_lines_check, behind_checks, lines_checks, header_checks, plan_check}
use Rattle.report.specs.Report.{refused_text}
use Rattle.walk.specs.Walk.{walk_back}
use Rattle.planning.specs.Planning.{planning_check}
use Rattle.itineraries.specs.Itineraries.{route_line, line_if_reached, route_lines, routes_text}

-- With a hold of 1 for node 2 and of 2 for node 3 the route to node 1 stays, and costs 8 (document 02, paper 2).
pub listing_shown : (routes_text (bytes_of "5,7,9,0,3\n0,1,9\n0,2,4\n0,3,6\n2,1,4\n2,3,2\n3,1,0\n4,0,1\n") ≡ bytes_of "0,0,0\n1,6,0,3,1\n2,4,0,2\n3,6,0,3\n")
    × (routes_text (bytes_of "5,7,9,0,3,1\n0,1,9\n0,2,4\n0,3,6\n2,1,4\n2,3,2\n3,1,0\n4,0,1\n0\n0\n1\n2\n0\n") ≡ bytes_of "0,0,0\n1,8,0,3,1\n2,4,0,2\n3,6,0,3\n")
unfolding routes_text route_lines line_if_reached route_line tail_from_lem walk_back steps_of network links_from tail_hold label remove blank log_from ceil_log one_level_buckets one_level bucket_from heap_label heap_relax heap_relax_all pick rebound bounds_after move heap_remove heap_scan heap_from bounds_from first_bounds heap_blank heap_start heap planning_check bytes_of fault_if first_fault lent_checks digits number_from is_field field fields decimal_by render_fields line_numbers arc_line hold_line header_line lines_taken lines_arcs lines_holds arc_checks arcs_check hold_lines_check least_fault sums_check behind_checks lines_checks header_checks plan_check keys_below having groups_from starts_from
listing_shown = (refl, refl)

pub empty_shown : routes_text (bytes_of "") ≡ bytes_of "refused,11,1\n"
unfolding routes_text planning_check bytes_of digits is_field field fields decimal_by render_fields line_numbers header_line plan_check refused_text
empty_shown = refl
