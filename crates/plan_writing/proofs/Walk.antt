-- The arcs of a map one behind the other, with the node that each leaves, and the lines of those passed. Assumes nothing.
use Prim.Native.Nat.{ℕ, zero, suc, ◌+◌, ◌*◌, ◌≤◌, ◌<◌}
use native.Mathlib.Numerals.{add-one}
use native.Mathlib.Omega.{arith}
use mathlib.Core.Logic.{inl, inr}
use mathlib.Core.Path.{◌≡◌, ap, ◌∙◌}
use mathlib.Core.List.{List, [], ◌∷◌, ◌++◌}
use lib.ListN.{length, get_or, length-append}
use Rattle.theory.specs.Sums.{list_below}
use Rattle.theory.specs.Maps.{tail_of}
use Rattle.theory.proofs.Cases.{split}
use Rattle.theory.proofs.Maps.Arcs.{starts_mono}
use Rattle.theory.proofs.Maps.Tails.{tail_is}
use Rattle.fields.specs.Fields.{comma, render_line}
use Rattle.grouping.specs.Arcs.{PlanArc}
use Rattle.line_writing.proofs.Rendered.{line_most}
use Rattle.plan_text.specs.Rendering.{arc_numbers, render_arcs}
use Rattle.plan_text.specs.Files.{arc_at}
use Rattle.plan_text.proofs.Most.{arc_lines_next}
use Rattle.plan_writing.specs.Texts.{InOrder}

-- ---- the lines of the first arcs

module _ (each : ℕ → PlanArc) where
  abbrev passed : ℕ → List ℕ
  passed a = render_arcs (list_below a each)

  next_length : (a : ℕ) → length (passed (suc a)) ≡ length (passed a) + length (render_line comma (arc_numbers (each a)))
  next_length a = ap length (arc_lines_next a each) ∙ length-append (passed a) (render_line comma (arc_numbers (each a)))

  -- no more than those of more arcs
  pub passed_within : (a b : ℕ) → a ≤ b → length (passed a) ≤ length (passed b)
  passed_within a zero l = let e : a ≡ 0 = omega arith in rw e (omega arith)
  passed_within a (suc b) l = elim (split a (suc b)) [
    | inl k ↦ omega (arith, passed_within a b (omega arith), next_length b)
    | inr k ↦ let e : a ≡ suc b = omega arith in rw e (omega arith)
  ]

  pub passed_most : (a : ℕ) → length (passed a) ≤ 63 * a
  unfolding render_arcs
  passed_most zero = omega arith
  passed_most (suc a) = omega (arith, next_length a, line_most (arc_numbers (each a)), passed_most a)

-- ---- node by node

module _ {n : ℕ} {starts heads costs : List ℕ} (o : InOrder n starts heads costs) where
  last_start : get_or starts n 0 ≡ length heads
  last_start = o.sound.starts_last

  pub none_walked : render_arcs (list_below (get_or starts 0 0) (arc_at n starts heads costs)) ≡ []
  unfolding render_arcs
  none_walked = ap (λ (arcs : ℕ). render_arcs (list_below arcs (arc_at n starts heads costs))) o.sound.starts_first

  -- arc a leaves node v
  module _ (v a : ℕ) (node : v < n) (low : get_or starts v 0 ≤ a) (here : a < get_or starts (v + 1) 0) where
    pub arc_within : a < length heads
    arc_within = omega (arith, starts_mono o.sound (v + 1) n (omega arith) (omega arith), last_start)

    tail_here : tail_of n starts a ≡ v
    tail_here = tail_is o.sound a v (low, rw (add-one v) at here)

    -- the line of arc a behind those before it
    pub line_walked : render_arcs (list_below (a + 1) (arc_at n starts heads costs))
        ≡ render_arcs (list_below a (arc_at n starts heads costs)) ++ render_line comma (v ∷ get_or heads a 0 ∷ get_or costs a 0 ∷ [])
    line_walked =
        rw (add-one a)
        (arc_lines_next a (arc_at n starts heads costs)
        ∙ ap (λ (tail : ℕ). render_arcs (list_below a (arc_at n starts heads costs)) ++ render_line comma (tail ∷ get_or heads a 0 ∷ get_or costs a 0 ∷ [])) tail_here)

    pub length_walked : length (render_arcs (list_below (a + 1) (arc_at n starts heads costs)))
        ≡ length (render_arcs (list_below a (arc_at n starts heads costs))) + length (render_line comma (v ∷ get_or heads a 0 ∷ get_or costs a 0 ∷ []))
    length_walked =
        ap length line_walked
        ∙ length-append (render_arcs (list_below a (arc_at n starts heads costs))) (render_line comma (v ∷ get_or heads a 0 ∷ get_or costs a 0 ∷ []))
