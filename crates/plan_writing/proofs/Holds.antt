-- The lines of the first holds. Assumes nothing.
use Prim.Native.Nat.{ℕ, ◌+◌, ◌*◌, ◌≤◌, ◌<◌}
use native.Mathlib.Numerals.{add-one}
use native.Mathlib.Omega.{arith}
use mathlib.Core.Path.{◌≡◌, refl, ap, ◌∙◌}
use mathlib.Core.List.{List, [], ◌∷◌, ◌++◌}
use lib.ListN.{length, get_or, take, drop, length-append, take-append-drop}
use Rattle.fields.specs.Fields.{comma, render_line}
use Rattle.line_writing.proofs.Rendered.{line_most}
use Rattle.plan_text.specs.Rendering.{render_holds}
use Rattle.plan_text.proofs.Most.{holds_prefix, hold_lines_next}

pub lines_most : (holds : List ℕ) → length (render_holds holds) ≤ 21 * length holds
unfolding render_holds
lines_most [] = omega arith
lines_most (hold ∷ holds) = omega (arith, length-append (render_line comma (hold ∷ [])) (render_holds holds), line_most (hold ∷ []), lines_most holds)

module _ (holds : List ℕ) where
  pub no_line : render_holds (take 0 holds) ≡ []
  unfolding render_holds
  no_line = refl

  module _ (v : ℕ) (l : v < length holds) where
    pub line_next : render_holds (take (v + 1) holds) ≡ render_holds (take v holds) ++ render_line comma (get_or holds v 0 ∷ [])
    line_next = rw (add-one v) (hold_lines_next v holds l)

    pub line_next_length : length (render_holds (take (v + 1) holds)) ≡ length (render_holds (take v holds)) + length (render_line comma (get_or holds v 0 ∷ []))
    line_next_length = ap length line_next ∙ length-append (render_holds (take v holds)) (render_line comma (get_or holds v 0 ∷ []))

  pub lines_within : (v : ℕ) → length (render_holds (take v holds)) ≤ length (render_holds holds)
  lines_within v =
      omega (
        arith,
        ap (λ (list : List ℕ). length (render_holds list)) (take-append-drop v holds),
        ap length (holds_prefix (take v holds) (drop v holds)),
        length-append (render_holds (take v holds)) (render_holds (drop v holds)),
      )
