-- What a planning file shows that passes its checks. Assumes nothing.
use mathlib.Core.Bool.{Bool, true, false}
use mathlib.Core.Path.{◌≡◌}
use mathlib.Core.List.{List, ◌++◌}
use Prim.Native.Nat.{ℕ, ◌+◌, ◌≤◌, ◌<◌}
use native.Mathlib.Omega.{arith}
use lib.ListN.{length-replicate}
use Rattle.std.specs.Prelude.{Ok}
use Rattle.theory.proofs.Lists.{get_d_replicate_same}
use Rattle.checks.specs.Checks.{first_fault, lent_checks}
use Rattle.checks.proofs.Order.{AllPass, none, more, passed_all}
use Rattle.checks.proofs.Sizes.{passed_range, passed_heads, passed_ceiling, passed_source, passed_lent}
use Rattle.plan_lines.specs.Told.{behind_arcs, lines_arcs, held_lines, node_holds}
use Rattle.plan_sums.specs.Sums.{arc_sums_check}
use Rattle.plan_checks.specs.Checking.{arcs_check, hold_lines_check, behind_checks, lines_checks, header_checks}
use Rattle.plan_checks.proofs.Held.{HoldsShown, holds_shown}

-- Holds that are not told are 0 and pass too.
node_holds_shown : (C m : ℕ) (held : Bool) (n : ℕ) (bytes : List ℕ) → hold_lines_check C m (held_lines held n) 0 bytes ≡ Ok tt → HoldsShown C n (node_holds held n bytes)
node_holds_shown C m false n bytes passed = record {
  count = length-replicate n 0;
  most = λ v l. omega (arith, get_d_replicate_same {A = ℕ} n v 0);
}
node_holds_shown C m true n bytes passed = holds_shown C m n 0 bytes passed

-- A file of this line 1, by the bytes behind it and the words of the lists lent for it.
pub record FilePassed (n m C source K : ℕ) (held : Bool) (lines : List ℕ) (starts heads costs holds : ℕ) : Type 0 where
  pub nodes_low : 1 ≤ n
  pub nodes_high : n ≤ 4096
  pub arcs_few : m ≤ 65536
  pub ceiling_low : C ≤ 1048575
  pub source_node : source < n
  pub segments_low : 2 ≤ K
  pub segments_high : K ≤ 64
  pub starts_fit : n + 1 ≤ starts
  pub heads_fit : m ≤ heads
  pub costs_fit : m ≤ costs
  pub holds_fit : n ≤ holds
  pub arcs_passed : arcs_check n C m 0 0 lines ≡ Ok tt
  pub held_shown : HoldsShown C n (node_holds held n (behind_arcs m lines))
  pub sums_passed : arc_sums_check C (lines_arcs m lines) (node_holds held n (behind_arcs m lines)) ≡ Ok tt

module _ (n m C source K : ℕ) (held : Bool) (lines : List ℕ) (starts heads costs holds : ℕ) where
  pub file_passed : first_fault (header_checks n m C source K starts heads costs holds ++ lines_checks n m C held lines) ≡ Ok tt
      → FilePassed n m C source K held lines starts heads costs holds
  unfolding header_checks lent_checks lines_checks behind_checks
  file_passed passed = go (passed_all _ passed)
    where
      go : AllPass (header_checks n m C source K starts heads costs holds ++ lines_checks n m C held lines)
          → FilePassed n m C source K held lines starts heads costs holds
      go (more by-1 (more by_4 (more by_2 (more by-3 (more by-9 (more first (more second (more third (more fourth
          (more arcs (more held_lines_lem (more left_over (more sums none))))))))))))) =
          let nodes = passed_range _ n 1 4096 by-1 in
          let segments = passed_range _ K 2 64 by-9 in
          record {
            nodes_low = nodes.0;
            nodes_high = nodes.1;
            arcs_few = passed_heads m by_4;
            ceiling_low = passed_ceiling C by_2;
            source_node = passed_source n source by-3;
            segments_low = segments.0;
            segments_high = segments.1;
            starts_fit = passed_lent 0 starts (n + 1) first;
            heads_fit = passed_lent 1 heads m second;
            costs_fit = passed_lent 2 costs m third;
            holds_fit = passed_lent 3 holds n fourth;
            arcs_passed = arcs;
            held_shown = node_holds_shown C m held n (behind_arcs m lines) held_lines_lem;
            sums_passed = sums;
          }
