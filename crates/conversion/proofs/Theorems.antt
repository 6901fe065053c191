-- What `convert` prints for a road file that is converted is read back to that road file's map, and its output is always long enough. The
-- listing's arcs in another order give the listing. Assumes nothing.
use Prim.Native.Nat.{ℕ}
use Prim.Native.String.{String}
use mathlib.Core.Path.{◌≡◌, refl, ap, subst, ◌∙◌}
use mathlib.Core.List.{List, [], ◌∷◌, ◌++◌}
use Rattle.std.specs.Prelude.{Ok}
use Rattle.model.specs.Answers.{fault_of}
use Rattle.model.specs.declared.Kind.TheVariants.{Source, SegmentCount, RoadOrder}
use Rattle.theory.specs.Maps.{tail_from_lem}
use Rattle.theory.specs.Runs.{Inputs}
use Rattle.theory.specs.declared.Levels.TheVariants.{Two}
use Rattle.check_numbers.specs.Numbers.{fault_if}
use Rattle.check_lists.specs.Lists.{least_fault, start_fails, starts_check, heads_check, holds_check}
use Rattle.check_sums.specs.Sums.{sums_check}
use Rattle.checks.specs.Checks.{first_fault, lent_checks, size_checks, lists_checks, map_checks, levels_checks}
use Rattle.checks.proofs.Order.{pass_parts}
use Rattle.fields.specs.Fields.{digits, number_from, is_field, field, fields, decimal_by, render_fields}
use Rattle.fields.specs.Texts.{bytes_of}
use Rattle.grouping.specs.Groups.{keys_below, having, groups_from, starts_from}
use Rattle.dimacs_lines.specs.Lines.{begins, comment_from, road_line, lines_from}
use Rattle.dimacs_checks.specs.Checking.{heading_from, problem_checks, road_arc_checks, lines_check, road_check}
use Rattle.dimacs.specs.Roads.{line_arcs, road_inputs}
use Rattle.dimacs.specs.Marked.{shuffled}
use Rattle.reader.specs.Plans.{plan_of, plan_run}
use Rattle.reader.specs.Promise.{PlanAnswer, PlanPromised}
use Rattle.report.specs.Report.{refused_text}
use Rattle.plan_text.specs.Rendering.{render_arcs, all_zero, render_plan}
use Rattle.plan_text.specs.Files.{plan_file}
use Rattle.plan_text.specs.ReadBack.{LongEnough, ReadBack}
use Rattle.plan_text.proofs.Files.{file_run, read_back}
use Rattle.writer.specs.Promise.{write_checks, Writable}
use Rattle.conversion.specs.Conversion.{road_file_check, conversion_check, conversion_text}
use Rattle.conversion.proofs.Reading.{passed_writable, room_enough}

-- ---- the output

-- The writer's 10 cannot come (document 02, paper 5).
pub output_enough : (bytes : List ℕ) (C source K : ℕ) → road_file_check bytes C ≡ Ok tt
    → first_fault (write_checks (road_inputs bytes C source) K 40992) ≡ first_fault (map_checks (road_inputs bytes C source) ++ levels_checks (Two K))
output_enough bytes C source K e = room_enough bytes C source K e

-- ---- a road file that is converted

module _ (bytes : List ℕ) (C source K : ℕ) (converted : conversion_check bytes C source K ≡ Ok tt) where
  abbrev I : Inputs
  I = road_inputs bytes C source

  writable : Writable I K
  unfolding conversion_check
  writable = passed_writable bytes C source K (pass_parts (road_file_check bytes C ∷ []) (map_checks I ++ levels_checks (Two K)) converted).1

  text_is : conversion_text bytes C source K ≡ plan_file I K
  unfolding conversion_text
  text_is = rw converted refl

  -- Read into lists that are long enough, what is printed gives the road file's map, C, source and K (document 02, paper 5).
  pub converted_read_back : {starts heads costs holds starts' heads' costs' holds' : List ℕ} {answer : PlanAnswer} → LongEnough I.map starts heads costs holds
      → PlanPromised (conversion_text bytes C source K) starts heads costs holds starts' heads' costs' holds' answer
      → ReadBack I K starts heads costs holds starts' heads' costs' holds' answer
  converted_read_back {starts} {heads} {costs} {holds} {starts'} {heads'} {costs'} {holds'} {answer} long promised =
      read_back I K writable.valid writable.allowed.0 writable.allowed.1 long
      (subst (λ (text : List ℕ). PlanPromised text starts heads costs holds starts' heads' costs' holds' answer) text_is promised)

  -- A run on it is a run on the road file's map (document 02, paper 5).
  pub converted_run : plan_run (plan_of (conversion_text bytes C source K)) ≡ I
  converted_run =
      ap (λ (text : List ℕ). plan_run (plan_of text)) text_is ∙ file_run I K writable.valid writable.allowed.0 writable.allowed.1

-- ---- computed

-- What `convert` prints for a text with C, source and K.
abbrev printed : String → (C source K : ℕ) → List ℕ
printed file C source K = conversion_text (bytes_of file) C source K

-- Document 01's listing, from its arcs in another order (document 01, "Planning file"; document 02, paper 5).
pub listing_converted : printed shuffled 9 0 3 ≡ bytes_of "5,7,9,0,3\n0,1,9\n0,2,4\n0,3,6\n2,1,4\n2,3,2\n3,1,0\n4,0,1\n"
unfolding conversion_text conversion_check road_file_check road_check heading_from problem_checks lines_check road_arc_checks lines_from road_line comment_from begins digits number_from is_field field fields line_arcs keys_below having groups_from starts_from plan_file render_plan render_arcs all_zero decimal_by render_fields bytes_of first_fault lent_checks size_checks lists_checks map_checks sums_check starts_check heads_check holds_check least_fault start_fails fault_if tail_from_lem
listing_converted = refl

-- The reader's numbers come first, then the writer's (document 02, paper 5).
pub refusals_printed : printed "" 9 0 3 ∷ printed shuffled 9 5 3 ∷ printed shuffled 9 0 1 ∷ [] ≡
    refused_text (fault_of RoadOrder 1) ∷ refused_text (fault_of Source 0) ∷ refused_text (fault_of SegmentCount 0) ∷ []
unfolding conversion_text conversion_check road_file_check road_check heading_from problem_checks lines_check road_arc_checks lines_from road_line comment_from begins digits number_from is_field field fields line_arcs keys_below having groups_from starts_from bytes_of first_fault lent_checks size_checks lists_checks map_checks sums_check starts_check heads_check holds_check least_fault start_fails fault_if tail_from_lem
refusals_printed = refl
