-- A planning file that was rendered from numbers, arcs and holds in range, the arcs in the order of their tails, tells them and passes its
-- checks. Assumes nothing.
use Prim.Native.Nat.{ℕ, ◌+◌, ◌≤◌, ◌<◌}
use native.Mathlib.Omega.{arith}
use mathlib.Core.Bool.{Bool, true, false, cond, not}
use mathlib.Core.Path.{◌≡◌, refl, sym}
use mathlib.Core.List.{List, [], ◌∷◌, ◌++◌, append-nil}
use lib.ListN.{length}
use borrow.Author.Tests.{le-ltb}
use Rattle.std.specs.Prelude.{Ok}
use Rattle.check_lists.specs.Lists.{NoneAbove}
use Rattle.checks.specs.Checks.{first_fault, lent_checks}
use Rattle.checks.proofs.Order.{none, more, all_passed_lem, parts_pass}
use Rattle.checks.proofs.Sizes.{test_passes, range_passes, ceiling_passes, source_passes, lent_passes}
use Rattle.fields.proofs.Parsing.{FitFields}
use Rattle.grouping.specs.Arcs.{PlanArc, tail_key}
use Rattle.grouping.proofs.All.{All}
use Rattle.grouping.proofs.Order.{Rising}
use Rattle.grouping.proofs.Valid.{SumIn, ArcsIn}
use Rattle.plan_lines.specs.Told.{lines_taken, behind_lines}
use Rattle.plan_sums.proofs.Passed.{sums_passed}
use Rattle.plan_checks.specs.Checking.{arcs_check, hold_lines_check, behind_checks, lines_checks, header_checks, plan_check}
use Rattle.reader.specs.Plans.{plan_of}
use Rattle.plan_text.specs.Rendering.{all_zero, render_arcs, render_holds, render_plan}
use Rattle.plan_text.proofs.Lines.{FitArcs, fit_arcs, fit_holds, arcs_read, behind_arcs_lem, arc_lines_pass, behind_holds, hold_lines_pass}
use Rattle.plan_text.proofs.Rendered.{held_told, plan_told, behind_line_one, header_rendered, plan_rendered}

-- Numbers, arcs and holds in range, the arcs in the order of their tails.
pub record PlanInRange (n C source K : ℕ) (arcs : List PlanArc) (holds : List ℕ) : Type 0 where
  pub some_node : 1 ≤ n
  pub few_nodes : n ≤ 4096
  pub few_arcs : length arcs ≤ 65536
  pub low_ceiling : C ≤ 1048575
  pub source_node : source < n
  pub segments_low : 2 ≤ K
  pub segments_high : K ≤ 64
  pub tails_rising : Rising tail_key n 0 arcs
  pub arcs_in : ArcsIn n C arcs
  pub sums_low : All (SumIn C holds) arcs
  pub holds_length : length holds ≡ n
  pub holds_low : NoneAbove C holds

module _ {n C source K : ℕ} {arcs : List PlanArc} {holds : List ℕ} (r : PlanInRange n C source K arcs holds) where
  fit : FitFields (n ∷ length arcs ∷ C ∷ source ∷ K ∷ [])
  fit = omega arith

  fits : FitArcs arcs
  fits = fit_arcs r.few_nodes r.low_ceiling r.arcs_in

  held : FitFields holds
  held = fit_holds r.low_ceiling holds r.holds_low

  pub plan_told_lem : plan_of (render_plan n C source K arcs holds) ≡ plan_told n C source K arcs holds
  plan_told_lem = plan_rendered n C source K arcs holds fit fits held r.holds_length

  -- ---- the lines behind line 1

  told_arcs_pass : (rest : List ℕ) → arcs_check n C (length arcs) 0 0 (render_arcs arcs ++ rest) ≡ Ok tt
  told_arcs_pass rest = arc_lines_pass n C 0 0 arcs rest fits r.tails_rising r.arcs_in

  held_pass : hold_lines_check C (length arcs) n 0 (render_holds holds) ≡ Ok tt
  held_pass = rw (sym r.holds_length, sym (append-nil (render_holds holds))) (hold_lines_pass C (length arcs) 0 holds [] held r.holds_low)

  nothing_left : behind_lines 1 n (render_holds holds) ≡ []
  nothing_left = rw (sym r.holds_length, sym (append-nil (render_holds holds))) (behind_holds holds [] held)

  lines_pass : (plain : Bool) → all_zero holds ≡ plain
      → first_fault (lines_checks n (length arcs) C (not plain) (render_arcs arcs ++ cond plain [] (render_holds holds))) ≡ Ok tt
  unfolding lines_checks behind_checks hold_lines_check lines_taken
  lines_pass true e =
      rw (arcs_read arcs [] fits, behind_arcs_lem arcs [] fits, held_told holds held r.holds_length true e)
      (all_passed_lem (more (told_arcs_pass []) (more refl (more (test_passes _ _ refl) (more (sums_passed C arcs holds r.sums_low) none)))))
  lines_pass false e =
      rw (
        arcs_read arcs (render_holds holds) fits,
        behind_arcs_lem arcs (render_holds holds) fits,
        nothing_left,
        held_told holds held r.holds_length false e,
      )
      (all_passed_lem (more (told_arcs_pass (render_holds holds)) (more held_pass (more (test_passes _ _ refl) (more (sums_passed C arcs holds r.sums_low) none)))))

  -- ---- line 1, and the file

  -- the words of the lists lent for it, the last for the holds
  module _ (starts heads costs rests : ℕ) (starts_fit : n + 1 ≤ starts) (heads_fit : length arcs ≤ heads) (costs_fit : length arcs ≤ costs) (holds_fit : n ≤ rests) where
    header_passes : first_fault (header_checks n (length arcs) C source K starts heads costs rests) ≡ Ok tt
    unfolding header_checks lent_checks
    header_passes =
        all_passed_lem
        (more (range_passes _ n 1 4096 r.some_node r.few_nodes)
        (more (test_passes _ 0 (le-ltb 65536 (length arcs) r.few_arcs))
        (more (ceiling_passes C r.low_ceiling)
        (more (source_passes n source r.source_node)
        (more (range_passes _ K 2 64 r.segments_low r.segments_high)
        (more (lent_passes 0 starts (n + 1) starts_fit)
        (more (lent_passes 1 heads (length arcs) heads_fit)
        (more (lent_passes 2 costs (length arcs) costs_fit)
        (more (lent_passes 3 rests n holds_fit) none)))))))))

    pub plan_passes : plan_check (render_plan n C source K arcs holds) starts heads costs rests ≡ Ok tt
    unfolding plan_check
    plan_passes =
        rw (header_rendered n C source K arcs holds fit, behind_line_one n C source K arcs holds)
        (parts_pass (header_checks n (length arcs) C source K starts heads costs rests) _ header_passes (lines_pass (all_zero holds) refl))
