-- A line's numbers: from what the reading of a line gives back, how far they reach, and that a rendered line is read back. Assumes nothing.
use Prim.Native.Nat.{ℕ, zero, suc, ◌+◌, ◌≤◌}
use native.Mathlib.Omega.{arith}
use mathlib.Core.Path.{◌≡◌, refl, sym, ◌∙◌, ap}
use mathlib.Core.List.{List, [], ◌∷◌, ◌++◌}
use lib.ListN.{length, get_or, take, drop, replicate}
use lib.Seq.{get_or-drop}
use Rattle.std.specs.Prelude.{None, Some}
use Rattle.fields.specs.Fields.{Line, NoLine, Numbers, comma, line_ends, line, render_line}
use Rattle.fields.specs.Reading.{line_taken, fields_into}
use Rattle.fields.proofs.LineReading.{missing_line, line_read}
use Rattle.fields.proofs.Lines.{line_within}
use Rattle.fields.proofs.Parsing.{FitFields, line_render}
use Rattle.cursor.specs.declared.LineNumbers.{LineNumbers}
use Rattle.cursor.specs.Lines.{line_numbers_of, line_numbers}

-- ---- words behind a line's numbers that stay 0

zeros : (k i : ℕ) → ◌≡◌ {A = ℕ} (get_or (replicate k 0) i 0) 0
zeros zero i = refl
zeros (suc k) zero = refl
zeros (suc k) (suc i) = zeros k i

padded : (values rest : List ℕ) → ((i : ℕ) → get_or rest i 0 ≡ 0) → (i : ℕ) → get_or (values ++ rest) i 0 ≡ get_or values i 0
padded [] rest z i = z i
padded (value ∷ values) rest z zero = refl
padded (value ∷ values) rest z (suc i) = padded values rest z i

-- seven words by their places
seven : (words : List ℕ) → length words ≡ 7
    → words
    ≡ get_or words 0 0 ∷ get_or words 1 0 ∷ get_or words 2 0 ∷ get_or words 3 0 ∷ get_or words 4 0 ∷ get_or words 5 0 ∷ get_or words 6 0 ∷ []
seven [] l = absurd (omega arith)
seven (a ∷ []) l = absurd (omega arith)
seven (a ∷ b ∷ []) l = absurd (omega arith)
seven (a ∷ b ∷ c ∷ []) l = absurd (omega arith)
seven (a ∷ b ∷ c ∷ d ∷ []) l = absurd (omega arith)
seven (a ∷ b ∷ c ∷ d ∷ e ∷ []) l = absurd (omega arith)
seven (a ∷ b ∷ c ∷ d ∷ e ∷ f ∷ []) l = absurd (omega arith)
seven (a ∷ b ∷ c ∷ d ∷ e ∷ f ∷ g ∷ []) l = refl
seven (a ∷ b ∷ c ∷ d ∷ e ∷ f ∷ g ∷ h ∷ words) l = absurd (omega arith)

-- ---- a line that is read into the first of seven words

module _ (count : ℕ) (bytes : List ℕ) where
  pub numbers_missing : {long : ℕ} → count ≡ long → line_taken (line comma long bytes) ≡ None → None ≡ line_numbers count bytes
  unfolding line_numbers
  numbers_missing same e = sym (ap line_numbers_of (missing_line (line comma count bytes) (rw (sym same) at e)))

  abbrev part : List ℕ
  part = take count (replicate 7 0)

  abbrev rest : List ℕ
  rest = drop count (replicate 7 0)

  rest_zero : (i : ℕ) → get_or rest i 0 ≡ 0
  rest_zero i = get_or-drop count (replicate 7 0) i 0 ∙ zeros 7 (count + i)

  pub numbers_read : {read : List ℕ} {taken : ℕ} → 1 ≤ count → count ≡ length part → line_taken (line comma (length part) bytes) ≡ Some taken
      → read ≡ fields_into (line_ends comma (length part)) bytes part → length (read ++ rest) ≡ 7
      → Some (record { numbers = read ++ rest; taken = taken }) ≡ line_numbers count bytes
  unfolding line_numbers
  numbers_read {read} {taken} some same e f long =
      ap (λ (words : List ℕ). let told : LineNumbers = record { numbers = words; taken = taken } in Some told) (seven (read ++ rest) long)
      ∙ rw (line_read comma count bytes part some (sym same) (rw (sym same) at e), sym (rw (sym same) at f)) (simp (padded read rest rest_zero) refl)

-- ---- a line lies within the bytes

pub numbers_within : (count : ℕ) (bytes : List ℕ) {found : LineNumbers} → line_numbers count bytes ≡ Some found → found.taken ≤ length bytes
unfolding line_numbers
numbers_within count bytes {found} e = go (line comma count bytes) refl e
  where
    go : (read : Line) → line comma count bytes ≡ read → line_numbers_of read ≡ Some found → found.taken ≤ length bytes
    go NoLine f e = absurd (let z : ◌≡◌ {A = ℕ} 0 1 = cc in omega arith)
    go (Numbers values taken) f e =
        let same : taken ≡ found.taken = cc in
        omega (arith, line_within comma count (omega arith) bytes values taken f)

-- ---- a line that was rendered

pub numbers_rendered : (values rest : List ℕ) → FitFields values → 1 ≤ length values
    → line_numbers (length values) (render_line comma values ++ rest) ≡ line_numbers_of (Numbers values (length (render_line comma values)))
unfolding line_numbers
numbers_rendered values rest fit some = ap line_numbers_of (line_render comma refl values rest fit some)
