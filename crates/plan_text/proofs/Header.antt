-- Line 1 of a rendered planning file is read back, with five fields or with six. Assumes nothing.
use Prim.Native.Nat.{ℕ, suc, ◌+◌, ◌<◌}
use native.Mathlib.Omega.{arith}
use mathlib.Core.Bool.{Bool, true, false, cond, not}
use mathlib.Core.Path.{◌≡◌, refl, sym, ◌∙◌, ap}
use mathlib.Core.Logic.{◌≢◌}
use mathlib.Core.List.{List, [], ◌∷◌, ◌++◌, append_assoc}
use lib.ListN.{length, drop}
use lib.Seq.{drop-append-add}
use Rattle.fields.specs.Fields.{is_digit, NoLine, fields, line_feed, comma, decimal, render_fields, render_line}
use Rattle.fields.proofs.Parsing.{NoDigits, FitFields, number_decimal, number_other}
use Rattle.std.specs.Prelude.{None, Some}
use Rattle.cursor.specs.Lines.{line_numbers_of, line_numbers}
use Rattle.cursor.proofs.LinesRead.{numbers_rendered}
use Rattle.plan_lines.specs.Lines.{header_line}
use Rattle.plan_lines.proofs.Fields.{five_header, six_header, not_five}
use Rattle.plan_text.specs.Rendering.{all_zero, header_fields}

-- ---- fields of which one is ended by another byte than the one asked for

behind_field : (value : ℕ) (end : ℕ) (rest : List ℕ) → drop (suc (length (decimal value))) (decimal value ++ (end ∷ rest)) ≡ rest
behind_field value end rest =
    let e : suc (length (decimal value)) ≡ length (decimal value) + 1 = omega arith in
    rw (e, drop-append-add)

module _ (end other : ℕ) (ends others : List ℕ) (plain : is_digit other ≡ false) (away : other ≢ end) where
  fields_other : (shared values rest : List ℕ) → NoDigits shared → FitFields values → length shared < length values
      → fields (shared ++ (end ∷ ends)) (render_fields (shared ++ (other ∷ others)) values ++ rest) ≡ NoLine
  unfolding fields render_fields
  fields_other [] [] rest apart fit l = absurd (omega arith)
  fields_other [] (value ∷ values) rest apart fit l =
      rw (
        append_assoc (decimal value) (other ∷ render_fields others values) rest,
        number_other end other plain away value (render_fields others values ++ rest),
      )
  fields_other (first ∷ shared) [] rest apart fit l = absurd (omega arith)
  fields_other (first ∷ shared) (value ∷ values) rest apart fit l =
      let more = render_fields (shared ++ (other ∷ others)) values in
      rw (
        append_assoc (decimal value) (first ∷ more) rest,
        number_decimal first apart.0 value fit.0 (more ++ rest),
        behind_field value first (more ++ rest),
        fields_other shared values rest apart.1 fit.1 (omega arith),
      )

-- ---- line 1

module _ (n m C source K : ℕ) (fit : FitFields (n ∷ m ∷ C ∷ source ∷ K ∷ [])) (rest : List ℕ) where
  abbrev line_one : (plain : Bool) → List ℕ
  line_one plain = render_line comma (n ∷ m ∷ C ∷ source ∷ K ∷ cond plain [] (1 ∷ []))

  -- six fields are no five
  six_not_five : line_numbers 5 (line_one false ++ rest) ≡ None
  unfolding line_numbers
  six_not_five =
      let away : comma ≢ line_feed = λ e. omega arith in
      ap line_numbers_of
      (fields_other line_feed comma [] (line_feed ∷ []) refl away (comma ∷ comma ∷ comma ∷ comma ∷ []) (n ∷ m ∷ C ∷ source ∷ K ∷ 1 ∷ []) rest
      (refl, (refl, (refl, (refl, tt)))) (omega arith) (omega arith))

  by_plain : (plain : Bool) → header_line (line_one plain ++ rest) ≡ Some (record { nodes = n; arcs = m; ceiling = C; source = source; segments = K; held = not plain; taken = length (line_one plain) })
  by_plain true =
      sym (five_header (line_one true ++ rest) (numbers_rendered (n ∷ m ∷ C ∷ source ∷ K ∷ []) rest fit (omega arith)))
  by_plain false =
      let read = numbers_rendered (n ∷ m ∷ C ∷ source ∷ K ∷ 1 ∷ []) rest (omega arith) (omega arith) in
      sym (six_header (line_one false ++ rest) read refl ∙ not_five (line_one false ++ rest) six_not_five)

  pub line_one_read : (holds : List ℕ)
      → header_line (render_line comma (header_fields n m C source K holds) ++ rest)
      ≡ Some (record { nodes = n; arcs = m; ceiling = C; source = source; segments = K; held = not (all_zero holds); taken = length (render_line comma (header_fields n m C source K holds)) })
  line_one_read holds = by_plain (all_zero holds)
