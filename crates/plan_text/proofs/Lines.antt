-- The lines behind line 1 of a rendered planning file are read back, and pass their checks. Assumes nothing.
use Prim.Native.Nat.{ℕ, suc, ◌≤◌}
use native.Mathlib.Omega.{arith}
use mathlib.Core.Path.{◌≡◌, refl, sym, ap}
use mathlib.Core.List.{List, [], ◌∷◌, ◌++◌, append_assoc}
use lib.Dec.{ltb, leb}
use lib.ListN.{length, length-append}
use lib.Seq.{drop-append_seam}
use borrow.Author.Tests.{le-ltb, lt-leb}
use Rattle.std.specs.Prelude.{Ok, Some}
use Rattle.check_lists.proofs.Tests.{or_neither}
use Rattle.check_lists.specs.Lists.{NoneAbove}
use Rattle.checks.proofs.Order as checked
use Rattle.checks.proofs.Sizes.{test_passes}
use Rattle.fields.specs.Fields.{comma, render_line}
use Rattle.fields.proofs.Parsing.{FitFields}
use Rattle.cursor.proofs.LinesRead.{numbers_rendered}
use Rattle.grouping.specs.Arcs.{PlanArc, tail_key}
use Rattle.grouping.proofs.All.{none, more}
use Rattle.grouping.proofs.Order.{Rising}
use Rattle.grouping.proofs.Order as rising
use Rattle.grouping.proofs.Valid.{ArcsIn}
use Rattle.plan_lines.specs.Lines.{arc_of, arc_line, hold_line_of, hold_line}
use Rattle.plan_lines.specs.Told.{lines_taken, behind_lines, behind_arcs, lines_arcs, lines_holds}
use Rattle.plan_checks.specs.Checking.{arc_checks, arcs_check, hold_lines_check}
use Rattle.plan_text.specs.Rendering.{arc_numbers, render_arcs, render_holds}

-- ---- the arcs

-- Every number of the arcs fits a field.
abbrev pub FitArcs : List PlanArc → Type 0
FitArcs [] = Unit {0}
FitArcs (arc ∷ arcs) = FitFields (arc_numbers arc) × FitArcs arcs

pub fit_arcs : {n C : ℕ} → n ≤ 4096 → C ≤ 1048575 → {arcs : List PlanArc} → ArcsIn n C arcs → FitArcs arcs
fit_arcs few low none = tt
fit_arcs few low (more r all) = (omega arith, fit_arcs few low all)

abbrev line_of_arc : PlanArc → List ℕ
line_of_arc arc = render_line comma (arc_numbers arc)

arc_read : (arc : PlanArc) (rest : List ℕ) → FitFields (arc_numbers arc)
    → arc_line (line_of_arc arc ++ rest) ≡ Some (record { tail = arc.tail; head = arc.head; cost = arc.cost; taken = length (line_of_arc arc) })
unfolding arc_line
arc_read arc rest fit = ap arc_of (numbers_rendered (arc_numbers arc) rest fit (omega arith))

pub arcs_read : (arcs : List PlanArc) (rest : List ℕ) → FitArcs arcs → lines_arcs (length arcs) (render_arcs arcs ++ rest) ≡ arcs
unfolding lines_arcs render_arcs
arcs_read [] rest fit = refl
arcs_read (arc ∷ arcs) rest fit =
    rw (
      append_assoc (line_of_arc arc) (render_arcs arcs) rest,
      arc_read arc (render_arcs arcs ++ rest) fit.0,
      drop-append_seam (line_of_arc arc) (render_arcs arcs ++ rest),
      arcs_read arcs rest fit.1,
    ) refl

arcs_taken : (arcs : List PlanArc) (rest : List ℕ) → FitArcs arcs → lines_taken 3 (length arcs) (render_arcs arcs ++ rest) ≡ length (render_arcs arcs)
unfolding lines_taken render_arcs
arcs_taken [] rest fit = refl
arcs_taken (arc ∷ arcs) rest fit =
    rw (
      append_assoc (line_of_arc arc) (render_arcs arcs) rest,
      numbers_rendered (arc_numbers arc) (render_arcs arcs ++ rest) fit.0 (omega arith),
      drop-append_seam (line_of_arc arc) (render_arcs arcs ++ rest),
      arcs_taken arcs rest fit.1,
    ) (sym (length-append (line_of_arc arc) (render_arcs arcs)))

pub behind_arcs_lem : (arcs : List PlanArc) (rest : List ℕ) → FitArcs arcs → behind_arcs (length arcs) (render_arcs arcs ++ rest) ≡ rest
behind_arcs_lem arcs rest fit = rw (arcs_taken arcs rest fit) (drop-append_seam (render_arcs arcs) rest)

pub arc_lines_pass : (n C i before : ℕ) (arcs : List PlanArc) (rest : List ℕ) → FitArcs arcs → Rising tail_key n before arcs → ArcsIn n C arcs
    → arcs_check n C (length arcs) i before (render_arcs arcs ++ rest) ≡ Ok tt
unfolding arcs_check render_arcs arc_checks
arc_lines_pass n C i before [] rest fit rises all = refl
arc_lines_pass n C i before (arc ∷ arcs) rest fit (rising.more low node rises) (more r all) =
    rw (
      append_assoc (line_of_arc arc) (render_arcs arcs) rest,
      arc_read arc (render_arcs arcs ++ rest) fit.0,
      drop-append_seam (line_of_arc arc) (render_arcs arcs ++ rest),
    )
    (checked.all_passed_lem
    (checked.more (test_passes _ i (or_neither (ltb arc.tail before) (leb n arc.tail) (le-ltb arc.tail before low) (lt-leb n arc.tail node)))
    (checked.more (test_passes _ i (lt-leb n arc.head r.ends.head_node))
    (checked.more (test_passes _ i (le-ltb C arc.cost r.cost_most))
    (checked.more (arc_lines_pass n C (suc i) arc.tail arcs rest fit.1 rises all) checked.none)))))

-- ---- the holds

pub fit_holds : {C : ℕ} → C ≤ 1048575 → (holds : List ℕ) → NoneAbove C holds → FitFields holds
fit_holds low [] most = tt
fit_holds low (hold ∷ holds) most = (omega (arith, most 0 (omega arith)), fit_holds low holds (λ v l. most (suc v) (omega arith)))

abbrev line_of_hold : ℕ → List ℕ
line_of_hold hold = render_line comma (hold ∷ [])

hold_read : (hold : ℕ) (rest : List ℕ) → FitFields (hold ∷ []) → hold_line (line_of_hold hold ++ rest) ≡ Some (record { hold = hold; taken = length (line_of_hold hold) })
unfolding hold_line
hold_read hold rest fit = ap hold_line_of (numbers_rendered (hold ∷ []) rest fit (omega arith))

pub holds_read : (holds rest : List ℕ) → FitFields holds → lines_holds (length holds) (render_holds holds ++ rest) ≡ holds
unfolding lines_holds render_holds
holds_read [] rest fit = refl
holds_read (hold ∷ holds) rest fit =
    rw (
      append_assoc (line_of_hold hold) (render_holds holds) rest,
      hold_read hold (render_holds holds ++ rest) (fit.0, tt),
      drop-append_seam (line_of_hold hold) (render_holds holds ++ rest),
      holds_read holds rest fit.1,
    ) refl

holds_taken : (holds rest : List ℕ) → FitFields holds → lines_taken 1 (length holds) (render_holds holds ++ rest) ≡ length (render_holds holds)
unfolding lines_taken render_holds
holds_taken [] rest fit = refl
holds_taken (hold ∷ holds) rest fit =
    rw (
      append_assoc (line_of_hold hold) (render_holds holds) rest,
      numbers_rendered (hold ∷ []) (render_holds holds ++ rest) (fit.0, tt) (omega arith),
      drop-append_seam (line_of_hold hold) (render_holds holds ++ rest),
      holds_taken holds rest fit.1,
    ) (sym (length-append (line_of_hold hold) (render_holds holds)))

pub behind_holds : (holds rest : List ℕ) → FitFields holds → behind_lines 1 (length holds) (render_holds holds ++ rest) ≡ rest
behind_holds holds rest fit = rw (holds_taken holds rest fit) (drop-append_seam (render_holds holds) rest)

pub hold_lines_pass : (C m v : ℕ) (holds rest : List ℕ) → FitFields holds → NoneAbove C holds
    → hold_lines_check C m (length holds) v (render_holds holds ++ rest) ≡ Ok tt
unfolding hold_lines_check render_holds
hold_lines_pass C m v [] rest fit most = refl
hold_lines_pass C m v (hold ∷ holds) rest fit most =
    rw (
      append_assoc (line_of_hold hold) (render_holds holds) rest,
      hold_read hold (render_holds holds ++ rest) (fit.0, tt),
      drop-append_seam (line_of_hold hold) (render_holds holds ++ rest),
    )
    (checked.all_passed_lem
    (checked.more (test_passes _ v (le-ltb C hold (most 0 (omega arith))))
    (checked.more (hold_lines_pass C m (suc v) holds rest fit.1 (λ w l. most (suc w) (omega arith))) checked.none)))
