-- The text of a planning file from its parts, and what is shown of them before it is written (document 02, paper 5).
use Rattle.std.specs.Prelude.{ℕ, ◌≤◌, List, ◌++◌, length}
use Rattle.theory.specs.Maps.{map_of, Sound}
use Rattle.fields.specs.Fields.{comma, render_line}
use Rattle.plan_text.specs.Rendering.{render_arcs, render_holds}
use Rattle.plan_text.specs.Files.{arc_list}

-- The lists are those of a map in order, whatever its holds and the source (document 02, paper 5).
pub record InOrder (n : ℕ) (starts heads costs : List ℕ) : Type 0 where
  pub holds : List ℕ
  pub source : ℕ
  pub sound : Sound (map_of n starts heads costs holds) source

-- Line 1 has at most seven numbers, the lists are those of a map in order, and no more holds are told than there can be nodes (document 02,
-- paper 5).
pub record TextLines (first : List ℕ) (n : ℕ) (starts heads costs told : List ℕ) : Type 0 where
  pub few_numbers : length first ≤ 7
  pub in_order : InOrder n starts heads costs
  pub few_holds : length told ≤ 4096

-- Line 1, the lines of the arcs, and those of the holds that are told (document 02, paper 5).
unfoldable pub text_of : (first : List ℕ) → (n : ℕ) → (starts heads costs told : List ℕ) → List ℕ
text_of first n starts heads costs told = render_line comma first ++ (render_arcs (arc_list n starts heads costs) ++ render_holds told)
