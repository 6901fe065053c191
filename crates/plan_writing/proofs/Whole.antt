-- The text from its three parts: how long it is and can be. Assumes nothing.
use Prim.Native.Nat.{ℕ, ◌+◌, ◌≤◌}
use native.Mathlib.Omega.{arith}
use mathlib.Core.Path.{◌≡◌}
use mathlib.Core.List.{List, ◌++◌, append_assoc}
use lib.ListN.{length, length-append}
use Rattle.fields.specs.Fields.{comma, render_line}
use Rattle.line_writing.proofs.Rendered.{line_most}
use Rattle.plan_text.specs.Rendering.{render_arcs, render_holds}
use Rattle.plan_text.specs.Files.{arc_at, arc_list}
use Rattle.plan_writing.specs.Texts.{TextLines, text_of}
use Rattle.plan_writing.proofs.Walk.{passed_most}
use Rattle.plan_writing.proofs.Holds.{lines_most}

module _ (first : List ℕ) (n : ℕ) (starts heads costs told : List ℕ) where
  abbrev arc_lines : List ℕ
  arc_lines = render_arcs (arc_list n starts heads costs)

  pub text_length : length (text_of first n starts heads costs told) ≡ length (render_line comma first) + length arc_lines + length (render_holds told)
  unfolding text_of
  text_length =
      omega (
        arith,
        length-append (render_line comma first) (arc_lines ++ render_holds told),
        length-append arc_lines (render_holds told),
      )

  -- the parts one behind the other, as they are written
  pub text_parts : (render_line comma first ++ arc_lines) ++ render_holds told ≡ text_of first n starts heads costs told
  unfolding text_of
  text_parts = append_assoc (render_line comma first) arc_lines (render_holds told)

  pub parts_most : TextLines first n starts heads costs told
      → (length (render_line comma first) ≤ 147) × (length arc_lines ≤ 4128768) × (length (render_holds told) ≤ 86016)
  parts_most t = (
    omega (arith, line_most first, t.few_numbers),
    omega (arith, passed_most (arc_at n starts heads costs) (length heads), t.in_order.sound.few_arcs),
    omega (arith, lines_most told, t.few_holds),
  )
