-- A planning file that passes its checks gives a map that passes those of both runs. Assumes nothing.
use mathlib.Core.Bool.{Bool}
use mathlib.Core.Path.{◌≡◌, ◌∙◌}
use mathlib.Core.List.{List}
use Prim.Native.Nat.{ℕ, ◌+◌, ◌≤◌}
use native.Mathlib.Omega.{arith}
use lib.ListN.{length, drop}
use Rattle.std.specs.Prelude.{Ok, Option, None, Some}
use Rattle.theory.specs.Runs.{ValidInputs, Allowed, work_words}
use Rattle.theory.specs.declared.Levels.{Levels}
use Rattle.theory.specs.declared.Levels.TheVariants.{Two}
use Rattle.checks.specs.Checks.{first_fault, run_checks, Lengths}
use Rattle.checks.proofs.Valid.{ready_passed}
use Rattle.grouping.proofs.Valid.{arcs_ends, heads_length, costs_length, held_valid}
use Rattle.plan_lines.specs.declared.HeaderLine.{HeaderLine}
use Rattle.plan_lines.specs.Lines.{header_line}
use Rattle.plan_lines.specs.Told.{behind_arcs, lines_arcs, node_holds}
use Rattle.plan_sums.proofs.Passed.{sums_in}
use Rattle.plan_checks.specs.Checking.{header_line_check, plan_check}
use Rattle.plan_checks.proofs.Shown.{arcs_shown}
use Rattle.reader.specs.Plans.{header_numbers, Plan, plan_under, plan_of, plan_heads, plan_costs, plan_run}
use Rattle.reader.proofs.Passed.{FilePassed, file_passed}

-- what a file tells and the words of the lists lent for it, with which both runs can be made
pub record Runnable (plan : Plan) (starts heads costs holds : ℕ) : Type 0 where
  pub valid : ValidInputs (plan_run plan)
  pub heads_count : length (plan_heads plan) ≡ plan.header.count
  pub costs_count : length (plan_costs plan) ≡ plan.header.count
  pub segments_low : 2 ≤ plan.header.segments
  pub segments_high : plan.header.segments ≤ 64
  pub starts_fit : plan.header.nodes + 1 ≤ starts
  pub heads_fit : plan.header.count ≤ heads
  pub costs_fit : plan.header.count ≤ costs
  pub holds_fit : plan.header.nodes ≤ holds

-- ---- the checks of a file

module _ (bytes : List ℕ) (starts heads costs holds : ℕ) where
  header_runnable : (n m C source K : ℕ) (held : Bool) (taken : ℕ) → FilePassed n m C source K held (drop taken bytes) starts heads costs holds
      → Runnable (plan_under (header_numbers (Some (record { nodes = n; arcs = m; ceiling = C; source = source; segments = K; held = held; taken = taken }))) bytes) starts heads costs holds
  header_runnable n m C source K held taken p =
      let lines = drop taken bytes in
      let read = lines_arcs m lines in
      let told = node_holds held n (behind_arcs m lines) in
      let shown = arcs_shown n C m 0 0 lines p.arcs_passed in
      let ends = arcs_ends shown.ranged in
      let few : length read ≤ 65536 = omega (arith, p.arcs_few, shown.count) in
      record {
        valid =
            held_valid n read ends C told (sums_in C read told p.sums_passed) p.held_shown.count
            (λ v l. p.held_shown.most v (omega (arith, p.held_shown.count))) source
            p.nodes_low p.nodes_high few p.ceiling_low p.source_node;
        heads_count = heads_length n read ends ∙ shown.count;
        costs_count = costs_length n read ends ∙ shown.count;
        segments_low = p.segments_low;
        segments_high = p.segments_high;
        starts_fit = p.starts_fit;
        heads_fit = p.heads_fit;
        costs_fit = p.costs_fit;
        holds_fit = p.holds_fit;
      }

  line_runnable : (line : Option HeaderLine) → header_line_check line bytes starts heads costs holds ≡ Ok tt
      → Runnable (plan_under (header_numbers line) bytes) starts heads costs holds
  line_runnable None e = absurd (let z : ◌≡◌ {A = ℕ} 0 1 = cc in omega arith)
  line_runnable (Some line) e =
      header_runnable line.nodes line.arcs line.ceiling line.source line.segments line.held line.taken
      (file_passed line.nodes line.arcs line.ceiling line.source line.segments line.held (drop line.taken bytes) starts heads costs holds e)

  pub read_runnable : plan_check bytes starts heads costs holds ≡ Ok tt → Runnable (plan_of bytes) starts heads costs holds
  unfolding plan_check
  read_runnable e = line_runnable (header_line bytes) e

-- ---- the checks of the runs

-- no run on the file's map is refused, where the lists lent to it are long enough; of two levels with the file's K
module _ {plan : Plan} {starts heads costs holds : ℕ} (R : Runnable plan starts heads costs holds) where
  pub runs_pass : (L : Levels) → Allowed L → (room : Lengths) → plan.header.nodes ≤ room.distances → plan.header.nodes ≤ room.parents
      → plan.header.nodes ≤ room.roster → work_words L plan.header.nodes ≤ room.work
      → first_fault (run_checks L (plan_run plan) room) ≡ Ok tt
  runs_pass L allowed room d p r w =
      ready_passed (record { valid = R.valid; allowed = allowed; distances_fit = d; parents_fit = p; roster_fit = r; work_fit = w })

  pub file_allowed : Allowed (Two plan.header.segments)
  file_allowed = (R.segments_low, R.segments_high)
