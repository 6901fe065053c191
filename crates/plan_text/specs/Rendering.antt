-- A planning file rendered from what it tells, in one form (document 01, "Planning file"; document 02, papers 2 and 5).
use Rattle.std.specs.Prelude.{ℕ, Bool, true, cond, ◌&&◌, List, [], ◌∷◌, ◌++◌, eqb, length}
use Rattle.fields.specs.Fields.{comma, render_line}
use Rattle.grouping.specs.Arcs.{PlanArc}

-- The numbers of an arc's line: tail, head, cost (document 01, "Planning file").
abbrev pub arc_numbers : PlanArc → List ℕ
arc_numbers arc = arc.tail ∷ arc.head ∷ arc.cost ∷ []

-- The lines of the arcs (document 01, "Planning file").
unfoldable pub render_arcs : List PlanArc → List ℕ
render_arcs [] = []
render_arcs (arc ∷ arcs) = render_line comma (arc_numbers arc) ++ render_arcs arcs

-- The lines of the holds, one for each (document 02, paper 2).
unfoldable pub render_holds : List ℕ → List ℕ
render_holds [] = []
render_holds (hold ∷ holds) = render_line comma (hold ∷ []) ++ render_holds holds

-- All holds are 0 (document 02, paper 5).
unfoldable pub all_zero : List ℕ → Bool
all_zero [] = true
all_zero (hold ∷ holds) = eqb hold 0 && all_zero holds

-- The fields of line 1: n, m, C, source and K, and a sixth, 1, unless all holds are 0 (document 02, papers 2 and 5).
abbrev pub header_fields : (n m C source K : ℕ) → (holds : List ℕ) → List ℕ
header_fields n m C source K holds = n ∷ m ∷ C ∷ source ∷ K ∷ cond (all_zero holds) [] (1 ∷ [])

-- What stands behind the arcs: the lines of the holds, unless all are 0 (document 02, papers 2 and 5).
abbrev pub hold_lines : (holds : List ℕ) → List ℕ
hold_lines holds = cond (all_zero holds) [] (render_holds holds)

-- A planning file: line 1, the lines of the arcs, then those of the holds (document 02, paper 5).
unfoldable pub render_plan : (n C source K : ℕ) → List PlanArc → (holds : List ℕ) → List ℕ
render_plan n C source K arcs holds = render_line comma (header_fields n (length arcs) C source K holds) ++ (render_arcs arcs ++ hold_lines holds)
