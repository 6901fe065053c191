-- The planning file of a valid map passes its checks, tells that map, is read back, and takes so many bytes at the most. Assumes nothing.
use Prim.Native.Nat.{ℕ, ◌+◌, ◌*◌, ◌≤◌}
use native.Mathlib.Omega.{arith}
use mathlib.Core.Path.{◌≡◌, refl, ◌∙◌, ap, ap₂}
use mathlib.Core.Bool.{Bool, true, false, cond}
use mathlib.Core.List.{List, []}
use lib.ListN.{length, length-append}
use Rattle.std.specs.Prelude.{Ok}
use Rattle.model.specs.Answers.{words_after}
use Rattle.theory.specs.Maps.{Map, arcs}
use Rattle.theory.specs.Runs.{Inputs, ValidInputs}
use Rattle.theory.proofs.Sums.{length_list_below}
use Rattle.check_lists.specs.Lists.{NoneAbove}
use Rattle.plan_checks.specs.Checking.{plan_check}
use Rattle.reader.specs.Plans.{Plan, plan_of, plan_run}
use Rattle.reader.specs.Promise.{PlanAnswer, plan_header, PlanPromised}
use Rattle.plan_text.specs.Rendering.{render_holds, hold_lines, render_plan, all_zero}
use Rattle.plan_text.specs.Files.{arcs_of, plan_file}
use Rattle.plan_text.specs.ReadBack.{LongEnough, ReadBack}
use Rattle.plan_text.proofs.MapArcs.{arcs_rise, starts_back, heads_back, costs_back, map_arcs_in, map_sums_in}
use Rattle.plan_text.proofs.Most.{map_arc, header_most, arcs_most, hold_lines_most}
use Rattle.plan_text.proofs.Passes.{PlanInRange, plan_told_lem, plan_passes}
use Rattle.plan_text.proofs.Rendered.{plan_told}

module _ (I : Inputs) (K : ℕ) (valid : ValidInputs I) (low : 2 ≤ K) (high : K ≤ 64) where
  abbrev M : Map
  M = I.map

  none_above : NoneAbove I.ceiling M.holds
  none_above v l = valid.holds_most v (omega (arith, valid.sound.holds_length))

  arc_count : length (arcs_of M) ≡ arcs M
  arc_count = length_list_below (arcs M) (map_arc M)

  in_range : PlanInRange M.nodes I.ceiling I.source K (arcs_of M) M.holds
  in_range = record {
    some_node = valid.sound.some_node;
    few_nodes = valid.sound.few_nodes;
    few_arcs = omega (arith, arc_count, valid.sound.few_arcs);
    low_ceiling = valid.low_ceiling;
    source_node = valid.sound.source_node;
    segments_low = low;
    segments_high = high;
    tails_rising = arcs_rise valid.sound;
    arcs_in = map_arcs_in valid;
    sums_low = map_sums_in valid;
    holds_length = valid.sound.holds_length;
    holds_low = none_above;
  }

  -- ---- its checks

  pub file_passes : (starts heads costs holds : ℕ) → M.nodes + 1 ≤ starts → arcs M ≤ heads → arcs M ≤ costs → M.nodes ≤ holds
      → plan_check (plan_file I K) starts heads costs holds ≡ Ok tt
  unfolding plan_file
  file_passes starts heads costs holds starts_fit heads_fit costs_fit holds_fit =
      plan_passes in_range starts heads costs holds starts_fit (omega (arith, arc_count)) (omega (arith, arc_count)) holds_fit

  -- ---- what it tells

  file_plan : plan_of (plan_file I K) ≡ plan_told M.nodes I.ceiling I.source K (arcs_of M) M.holds
  unfolding plan_file
  file_plan = plan_told_lem in_range

  pub file_run : plan_run (plan_of (plan_file I K)) ≡ I
  file_run = ap plan_run file_plan ∙ rw (starts_back valid.sound, heads_back valid.sound, costs_back valid.sound) refl

  pub file_count : (plan_of (plan_file I K)).header.count ≡ arcs M
  file_count = ap (λ (plan : Plan). plan.header.count) file_plan ∙ arc_count

  pub file_segments : (plan_of (plan_file I K)).header.segments ≡ K
  file_segments = ap (λ (plan : Plan). plan.header.segments) file_plan

  -- ---- reading it

  -- A map's planning file is read back to that map (document 02, paper 5).
  pub read_back : {starts heads costs holds starts' heads' costs' holds' : List ℕ} {answer : PlanAnswer} → LongEnough M starts heads costs holds
      → PlanPromised (plan_file I K) starts heads costs holds starts' heads' costs' holds' answer
      → ReadBack I K starts heads costs holds starts' heads' costs' holds' answer
  read_back {starts} {heads} {costs} {holds} long promised =
      let passed = file_passes (length starts) (length heads) (length costs) (length holds)
      long.starts_fit long.heads_fit long.costs_fit long.holds_fit in
      let done = rw passed at promised in
      let header = (plan_of (plan_file I K)).header in
      record {
        accepted =
            done.answered
            ∙ ap (λ (run : Inputs). Ok (plan_header run.map.nodes header.count run.ceiling run.source header.segments)) file_run
            ∙ ap₂ (λ (m segments : ℕ). Ok (plan_header M.nodes m I.ceiling I.source segments)) file_count file_segments;
        starts_same = done.starts_after ∙ ap (λ (run : Inputs). words_after (Ok tt) run.map.starts starts) file_run;
        heads_same = done.heads_after ∙ ap (λ (run : Inputs). words_after (Ok tt) run.map.heads heads) file_run;
        costs_same = done.costs_after ∙ ap (λ (run : Inputs). words_after (Ok tt) run.map.costs costs) file_run;
        holds_same = done.holds_after ∙ ap (λ (run : Inputs). words_after (Ok tt) run.map.holds holds) file_run;
      }

  -- ---- its length

  hold_bytes : length (hold_lines M.holds) ≤ 8 * M.nodes
  hold_bytes = go (all_zero M.holds)
    where
      most : length (render_holds M.holds) ≤ 8 * M.nodes
      most = omega (arith, hold_lines_most M.holds (λ v l. omega (arith, none_above v l, valid.low_ceiling)), valid.sound.holds_length)

      go : (plain : Bool) → length (cond plain [] (render_holds M.holds)) ≤ 8 * M.nodes
      go true = omega arith
      go false = most

  -- A buffer of so many bytes is long enough for the map's planning file (document 02, paper 5).
  pub file_most : length (plan_file I K) ≤ 29 + 18 * arcs M + 8 * M.nodes
  unfolding plan_file render_plan
  file_most =
      let few : length (arcs_of M) ≤ 65536 = omega (arith, arc_count, valid.sound.few_arcs) in
      simp length-append
      (omega (
        arith,
        header_most M.nodes (length (arcs_of M)) I.ceiling I.source K valid.sound.few_nodes few valid.low_ceiling valid.sound.source_node high M.holds,
        arcs_most valid (arcs M) (omega arith),
        hold_bytes,
      ))
