-- Every row of the table holds of the definitions. Computed.
use mathlib.Core.Path.{◌≡◌, refl}
use mathlib.Core.List.{map}
use Rattle.theory.specs.Maps.{tail_from_lem}
use Rattle.check_numbers.specs.Numbers.{fault_if}
use Rattle.check_lists.specs.Lists.{least_fault, start_fails, starts_check, heads_check, holds_check}
use Rattle.check_sums.specs.Sums.{sums_check}
use Rattle.checks.specs.Checks.{first_fault, lent_checks, size_checks, lists_checks, map_checks}
use Rattle.fields.specs.Fields.{decimal_by, render_fields}
use Rattle.fields.specs.Texts.{bytes_of}
use Rattle.plan_text.specs.Rendering.{render_arcs, render_holds, all_zero, render_plan}
use Rattle.plan_text.specs.Files.{plan_file}
use Rattle.writer.specs.Promise.{write_checks}
use Rattle.writer.specs.Marked.{given_for_writing, written_rows}

pub written_rows_hold : map given_for_writing written_rows ≡ map (λ row. row.told) written_rows
unfolding given_for_writing written_rows start_fails write_checks plan_file render_plan render_arcs render_holds all_zero decimal_by render_fields bytes_of first_fault lent_checks size_checks lists_checks map_checks sums_check starts_check heads_check holds_check least_fault fault_if tail_from_lem
written_rows_hold = refl
