-- Every row of the table holds of the definitions, and a road file with the listing's arcs in another order gives the listing's three lists.
-- Computed.
use mathlib.Core.Path.{◌≡◌, refl}
use mathlib.Core.List.{map}
use Rattle.fields.specs.Fields.{digits, number_from, is_field, field, fields}
use Rattle.fields.specs.Texts.{bytes_of}
use Rattle.check_numbers.specs.Numbers.{fault_if}
use Rattle.checks.specs.Checks.{first_fault, lent_checks}
use Rattle.grouping.specs.Groups.{keys_below, having, groups_from, starts_from}
use Rattle.grouping.specs.Arcs.{starts_of, heads_of, costs_of}
use Rattle.grouping.specs.Listing.{listing_arcs}
use Rattle.dimacs_lines.specs.Lines.{begins, comment_from, road_line, lines_from}
use Rattle.dimacs_checks.specs.Checking.{heading_from, problem_checks, road_arc_checks, lines_check, road_check}
use Rattle.dimacs.specs.Roads.{line_arcs}
use Rattle.dimacs.specs.Marked.{accepted, map_told, given_for_road, shuffled, rows}

pub rows_hold : map given_for_road rows ≡ map (λ row. row.told) rows
unfolding given_for_road rows road_check heading_from problem_checks lines_check road_arc_checks lines_from road_line comment_from begins bytes_of digits number_from is_field field fields fault_if first_fault lent_checks line_arcs keys_below having groups_from starts_from
rows_hold = refl

pub listing_same : map_told (bytes_of shuffled) ≡ accepted 5 7 (starts_of 5 listing_arcs) (heads_of 5 listing_arcs) (costs_of 5 listing_arcs)
unfolding listing_arcs heading_from lines_from road_line comment_from begins bytes_of digits number_from is_field field fields line_arcs keys_below having groups_from starts_from
listing_same = refl
