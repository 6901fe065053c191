-- The lines with numbers, from what the reading of those numbers gives back. Assumes nothing.
use Prim.Native.Nat.{ℕ, ◌+◌, ◌≤◌}
use native.Mathlib.Omega.{arith}
use mathlib.Core.Path.{◌≡◌, sym, ap}
use mathlib.Core.List.{List}
use lib.ListN.{length, drop, replicate, length-drop, length-replicate}
use lib.Seq.{drop-drop}
use Rattle.std.specs.Prelude.{Option, None, Some}
use Rattle.fields.specs.Fields.{Line, NoLine, Numbers, line_ends, line}
use Rattle.fields.specs.Reading.{line_taken, fields_into}
use Rattle.fields.proofs.Lines.{line_within}
use Rattle.fields.proofs.LineReading.{missing_line, line_read}
use Rattle.dimacs_lines.specs.declared.RoadLine.{RoadLine}
use Rattle.dimacs_lines.specs.Lines.{space}

-- `of` tells what the numbers mean, `count` of them behind `skipped` bytes.
module _ (of : Line → Option RoadLine) (count skipped : ℕ) (bytes : List ℕ) (at : ℕ) where
  pub numbers_missing : line_taken (line space count (drop (at + skipped) bytes)) ≡ None
      → of NoLine ≡ of (line space count (drop skipped (drop at bytes)))
  numbers_missing e = rw drop-drop (sym (ap of (missing_line _ e)))

  -- what is skipped and the numbers lie within the bytes
  pub numbers_within : {taken : ℕ} → 1 ≤ count → at + skipped ≤ length bytes
      → line_taken (line space count (drop (at + skipped) bytes)) ≡ Some taken → skipped + taken ≤ length bytes
  numbers_within {taken} some h e =
      let behind = drop (at + skipped) bytes in
      let found = line_read space count behind (replicate count 0) some (length-replicate count 0) e in
      omega (arith, line_within space count (omega arith) behind _ taken found, length-drop (at + skipped) bytes)

  pub numbers_read : (values words : List ℕ) {taken : ℕ} → 1 ≤ count → length words ≡ count
      → line_taken (line space count (drop (at + skipped) bytes)) ≡ Some taken
      → values ≡ fields_into (line_ends space count) (drop (at + skipped) bytes) words
      → of (Numbers values taken) ≡ of (line space count (drop skipped (drop at bytes)))
  numbers_read values words some l e f = rw (drop-drop, f) (sym (ap of (line_read space count _ words some l e)))
