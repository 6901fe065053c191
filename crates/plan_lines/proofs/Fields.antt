-- Each kind of line is a line of so many fields, and lies within the bytes. Assumes nothing.
use Prim.Native.Nat.{ℕ, ◌≤◌}
use native.Mathlib.Omega.{arith}
use mathlib.Core.Bool.{Bool, true, false, cond}
use mathlib.Core.Path.{◌≡◌, refl}
use mathlib.Core.List.{List}
use lib.Dec.{eqb}
use lib.ListN.{length, get_or}
use borrow.Author.Tests.{eq-eqb, ne_eqb}
use Rattle.std.specs.Prelude.{Option, None, Some}
use Rattle.cursor.specs.declared.LineNumbers.{LineNumbers}
use Rattle.cursor.specs.Lines.{line_numbers}
use Rattle.plan_lines.specs.declared.ArcLine.{ArcLine}
use Rattle.plan_lines.specs.declared.HoldLine.{HoldLine}
use Rattle.plan_lines.specs.declared.HeaderLine.{HeaderLine}
use Rattle.plan_lines.specs.Lines.{arc_of, arc_line, hold_line_of, hold_line, header_told, held_header_of, header_of, header_line}
use Rattle.plan_lines.proofs.Reach.{LineAt, line_within}

differ : {A : Type 0} → ◌≡◌ {A = ℕ} 0 1 → A
differ z = absurd (omega arith)

module _ (width : ℕ) (bytes : List ℕ) {line : LineNumbers} where
  pub line_at : line_numbers width bytes ≡ Some line → LineAt width bytes line.taken
  line_at e = record { numbers = line.numbers; read = e }

-- ---- arcs and holds

module _ (bytes : List ℕ) where
  pub arc_line_lem : {line : ArcLine} → arc_line bytes ≡ Some line → LineAt 3 bytes line.taken
  unfolding arc_line
  arc_line_lem {line} e = go (line_numbers 3 bytes) refl e
    where
      go : (found : Option LineNumbers) → line_numbers 3 bytes ≡ found → arc_of found ≡ Some line → LineAt 3 bytes line.taken
      go None f e = differ (cc)
      go (Some found) f e =
          let same : found.taken ≡ line.taken = cc in
          rw same at (line_at 3 bytes f)

  pub hold_line_lem : {line : HoldLine} → hold_line bytes ≡ Some line → LineAt 1 bytes line.taken
  unfolding hold_line
  hold_line_lem {line} e = go (line_numbers 1 bytes) refl e
    where
      go : (found : Option LineNumbers) → line_numbers 1 bytes ≡ found → hold_line_of found ≡ Some line → LineAt 1 bytes line.taken
      go None f e = differ (cc)
      go (Some found) f e =
          let same : found.taken ≡ line.taken = cc in
          rw same at (line_at 1 bytes f)

-- ---- line 1

module _ (bytes : List ℕ) {line : LineNumbers} where
  pub five_header : line_numbers 5 bytes ≡ Some line → Some (header_told line false) ≡ header_line bytes
  unfolding header_line
  five_header e = rw e

  module _ (e : line_numbers 6 bytes ≡ Some line) where
    pub six_header : get_or line.numbers 5 0 ≡ 1 → Some (header_told line true) ≡ held_header_of (line_numbers 6 bytes)
    six_header one = rw (e, eq-eqb (get_or line.numbers 5 0) 1 one)

    pub other_header : (get_or line.numbers 5 0 ≡ 1 → ⊥) → None ≡ held_header_of (line_numbers 6 bytes)
    other_header none = rw (e, ne_eqb (get_or line.numbers 5 0) 1 none)

pub not_five : (bytes : List ℕ) → line_numbers 5 bytes ≡ None → held_header_of (line_numbers 6 bytes) ≡ header_line bytes
unfolding header_line
not_five bytes e = rw e

pub header_within : (bytes : List ℕ) {line : HeaderLine} → header_line bytes ≡ Some line → line.taken ≤ length bytes
unfolding header_line
header_within bytes {line} e = five (line_numbers 5 bytes) refl e
  where
    chosen : (told : Bool) (found : LineNumbers) → found.taken ≤ length bytes → cond told (Some (header_told found true)) None ≡ Some line → line.taken ≤ length bytes
    chosen true found l e = let same : found.taken ≡ line.taken = cc in omega arith
    chosen false found l e = differ (cc)

    six : (found : Option LineNumbers) → line_numbers 6 bytes ≡ found → held_header_of found ≡ Some line → line.taken ≤ length bytes
    six None f e = differ (cc)
    six (Some found) f e = chosen (eqb (get_or found.numbers 5 0) 1) found (line_within (line_at 6 bytes f)) e

    five : (found : Option LineNumbers) → line_numbers 5 bytes ≡ found → header_of found (line_numbers 6 bytes) ≡ Some line → line.taken ≤ length bytes
    five None f e = six (line_numbers 6 bytes) refl e
    five (Some found) f e =
        let same : found.taken ≡ line.taken = cc in omega (arith, line_within (line_at 5 bytes f))
