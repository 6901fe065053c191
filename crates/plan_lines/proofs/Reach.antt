-- How far lines reach: they lie within the bytes, and where a pass over them has come to. Assumes nothing.
use Prim.Native.Nat.{ℕ, zero, suc, ◌+◌, ◌-◌, ◌≤◌, ◌<◌}
use native.Mathlib.Nat.{sub-zero}
use native.Mathlib.Numerals.{add-one}
use native.Mathlib.Omega.{arith}
use mathlib.Core.Path.{◌≡◌, refl, ◌∙◌, ap}
use mathlib.Core.List.{List}
use lib.ListN.{length, drop, length-drop}
use lib.Seq.{drop-drop}
use Rattle.std.specs.Prelude.{Option, None, Some}
use Rattle.cursor.specs.declared.LineNumbers.{LineNumbers}
use Rattle.cursor.specs.Lines.{line_numbers}
use Rattle.cursor.proofs.LinesRead.{numbers_within}
use Rattle.plan_lines.specs.Told.{lines_taken}

-- A line of so many fields that takes so many bytes.
pub record LineAt (width : ℕ) (bytes : List ℕ) (taken : ℕ) : Type 0 where
  pub numbers : List ℕ
  pub read : line_numbers width bytes ≡ Some (record { numbers = numbers; taken = taken })

pub line_within : {width : ℕ} {bytes : List ℕ} {taken : ℕ} → LineAt width bytes taken → taken ≤ length bytes
line_within {width} {bytes} line = numbers_within width bytes line.read

pub next_within : {width : ℕ} (bytes : List ℕ) (at : ℕ) {taken : ℕ} → at ≤ length bytes → LineAt width (drop at bytes) taken → at + taken ≤ length bytes
next_within bytes at h line = omega (arith, line_within line, length-drop at bytes)

-- ---- the bytes of lines

module _ (width left : ℕ) (bytes : List ℕ) where
  pub taken_none : line_numbers width bytes ≡ None → lines_taken width (suc left) bytes ≡ 0
  unfolding lines_taken
  taken_none e = rw e

  pub taken_next : {taken : ℕ} → LineAt width bytes taken → lines_taken width (suc left) bytes ≡ taken + lines_taken width left (drop taken bytes)
  unfolding lines_taken
  taken_next line = rw line.read

pub taken_within : (width left : ℕ) (bytes : List ℕ) → lines_taken width left bytes ≤ length bytes
unfolding lines_taken
taken_within width zero bytes = omega arith
taken_within width (suc left) bytes = go (line_numbers width bytes) refl (λ taken. taken_within width left (drop taken bytes))
  where
    go : (found : Option LineNumbers) → line_numbers width bytes ≡ found
        → ((taken : ℕ) → lines_taken width left (drop taken bytes) ≤ length (drop taken bytes)) → lines_taken width (suc left) bytes ≤ length bytes
    go None e rest = omega (arith, taken_none width left bytes e)
    go (Some found) e rest =
        let line : LineAt width bytes found.taken = record { numbers = found.numbers; read = e } in
        omega (arith, taken_next width left bytes line, line_within line, rest found.taken, length-drop found.taken bytes)

-- ---- a pass over lines

-- From `from` on i lines have been passed, and `at` is the place behind them.
pub record Reached (width count : ℕ) (bytes : List ℕ) (from at i : ℕ) : Type 0 where
  pub within : at ≤ length bytes
  pub low : from ≤ at
  pub few : i ≤ count
  pub place : from + lines_taken width count (drop from bytes) ≡ at + lines_taken width (count - i) (drop at bytes)

pub reached_start : (width count : ℕ) (bytes : List ℕ) (from : ℕ) → from ≤ length bytes → Reached width count bytes from from 0
reached_start width count bytes from h = record { within = h; low = omega arith; few = omega arith; place = rw sub-zero }

module _ {width count : ℕ} {bytes : List ℕ} {from at i : ℕ} (r : Reached width count bytes from at i) where
  pub reached_next : {taken : ℕ} → i < count → LineAt width (drop at bytes) taken → Reached width count bytes from (at + taken) (i + 1)
  reached_next {taken} l line =
      let left : count - i ≡ suc (count - suc i) = omega arith in
      rw add-one
      (record {
        within = next_within bytes at r.within line;
        low = omega (arith, r.low);
        few = l;
        place =
            r.place
            ∙ ap (λ (lines : ℕ). at + lines_taken width lines (drop at bytes)) left
            ∙ omega (arith, taken_next width (count - suc i) (drop at bytes) line, ap (lines_taken width (count - suc i)) (drop-drop taken at bytes));
      })

  pub reached_stop : i < count → line_numbers width (drop at bytes) ≡ None → at ≡ from + lines_taken width count (drop from bytes)
  reached_stop l e =
      let left : count - i ≡ suc (count - suc i) = omega arith in
      omega (arith, r.place, ap (λ (lines : ℕ). lines_taken width lines (drop at bytes)) left, taken_none width (count - suc i) (drop at bytes) e)

  pub reached_end : count ≤ i → at ≡ from + lines_taken width count (drop from bytes)
  unfolding lines_taken
  reached_end l =
      let none_left : count - i ≡ 0 = omega arith in
      omega (arith, r.place, ap (λ (lines : ℕ). lines_taken width lines (drop at bytes)) none_left)
