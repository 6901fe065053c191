-- What was rendered as a planning file is read back: line 1's numbers, the arcs, the holds, and their map. Assumes nothing.
use Prim.Native.Nat.{ℕ, zero, suc}
use native.Mathlib.Omega.{arith}
use mathlib.Core.Bool.{Bool, true, false, cond, not, ◌&&◌}
use mathlib.Core.Path.{◌≡◌, refl, sym, ◌∙◌, ap}
use mathlib.Core.List.{List, [], ◌∷◌, ◌++◌, append-nil}
use lib.Dec.{eqb}
use lib.ListN.{length, drop, replicate, length-replicate}
use lib.Seq.{drop-append_seam}
use borrow.Author.Tests.{eqb-true}
use Rattle.theory.specs.Runs.{inputs}
use Rattle.theory.proofs.Cases.{differ}
use Rattle.fields.specs.Fields.{comma, render_line}
use Rattle.fields.proofs.Parsing.{FitFields}
use Rattle.grouping.specs.Arcs.{PlanArc, numbered, starts_of, heads_of, costs_of}
use Rattle.grouping.proofs.Valid.{same_map}
use Rattle.plan_lines.specs.declared.HeaderLine.{HeaderLine}
use Rattle.std.specs.Prelude.{Option, Some}
use Rattle.plan_lines.specs.Lines.{header_line}
use Rattle.plan_lines.specs.Told.{node_holds}
use Rattle.reader.specs.Plans.{header_numbers, Plan, plan_of, plan_run}
use Rattle.plan_text.specs.Rendering.{all_zero, render_arcs, render_holds, header_fields, hold_lines, render_plan}
use Rattle.plan_text.proofs.Header.{line_one_read}
use Rattle.plan_text.proofs.Lines.{FitArcs, arcs_read, behind_arcs_lem, holds_read}

-- ---- holds that are not told

all_zeros : (holds : List ℕ) → all_zero holds ≡ true → replicate (length holds) 0 ≡ holds
unfolding all_zero
all_zeros [] e = refl
all_zeros (hold ∷ holds) e = go (eqb hold 0) refl e (all_zeros holds)
  where
    go : (t : Bool) → eqb hold 0 ≡ t → (t && all_zero holds) ≡ true → (all_zero holds ≡ true → replicate (length holds) 0 ≡ holds)
        → 0 ∷ replicate (length holds) 0 ≡ hold ∷ holds
    go true same e rest = rw (eqb-true hold 0 same) (ap (λ (more : List ℕ). 0 ∷ more) (rest e))
    go false same e rest = differ (cc)

-- a hold for each node, told or not
pub held_told : {n : ℕ} (holds : List ℕ) → FitFields holds → length holds ≡ n → (plain : Bool) → all_zero holds ≡ plain
    → node_holds (not plain) n (cond plain [] (render_holds holds)) ≡ holds
held_told holds held count true e = rw (sym count) (all_zeros holds e)
held_told holds held count false e = rw (sym count, sym (append-nil (render_holds holds))) (holds_read holds [] held)

-- ---- what the file tells

module _ (n C source K : ℕ) (arcs : List PlanArc) (holds : List ℕ) where
  abbrev line_one : List ℕ
  line_one = render_line comma (header_fields n (length arcs) C source K holds)

  abbrev lines_behind : List ℕ
  lines_behind = render_arcs arcs ++ hold_lines holds

  -- Line 1 as it is read.
  abbrev pub header_told : Option HeaderLine
  header_told = Some (record {
    nodes = n;
    arcs = length arcs;
    ceiling = C;
    source = source;
    segments = K;
    held = not (all_zero holds);
    taken = length line_one;
  })

  -- What the file tells.
  abbrev pub plan_told : Plan
  plan_told = record { header = header_numbers header_told; arcs = arcs; holds = holds }

  pub behind_line_one : drop (length line_one) (render_plan n C source K arcs holds) ≡ lines_behind
  unfolding render_plan
  behind_line_one = drop-append_seam line_one lines_behind

  module _ (fit : FitFields (n ∷ length arcs ∷ C ∷ source ∷ K ∷ [])) where
    pub header_rendered : header_line (render_plan n C source K arcs holds) ≡ header_told
    unfolding render_plan
    header_rendered = line_one_read n (length arcs) C source K fit lines_behind holds

    -- What was rendered is told (document 02, paper 5).
    pub plan_rendered : FitArcs arcs → FitFields holds → length holds ≡ n → plan_of (render_plan n C source K arcs holds) ≡ plan_told
    plan_rendered fits held count =
        rw (
          header_rendered,
          behind_line_one,
          arcs_read arcs (hold_lines holds) fits,
          behind_arcs_lem arcs (hold_lines holds) fits,
          held_told holds held count (all_zero holds) refl,
        ) refl

-- ---- arcs in any order

fit_zeros : (n : ℕ) → FitFields (replicate n 0)
fit_zeros zero = tt
fit_zeros (suc n) = (omega arith, fit_zeros n)

-- Arcs in any order have the map of the planning file with the same arcs grouped by tail (document 02, paper 1).
module _ (n C source K : ℕ) (arcs : List PlanArc) where
  abbrev told : List PlanArc
  told = numbered n arcs

  pub grouped_rendered : FitFields (n ∷ length told ∷ C ∷ source ∷ K ∷ []) → FitArcs told
      → plan_run (plan_of (render_plan n C source K told (replicate n 0))) ≡ inputs n C source (starts_of n arcs) (heads_of n arcs) (costs_of n arcs) (replicate n 0)
  grouped_rendered fit fits =
      ap plan_run (plan_rendered n C source K told (replicate n 0) fit fits (fit_zeros n) (length-replicate n 0))
      ∙ same_map n C source arcs (replicate n 0)
