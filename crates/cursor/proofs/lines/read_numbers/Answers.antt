-- The words past the line's numbers stay 0.
use Prim.Native.Nat.{ℕ, ◌≤◌}
use mathlib.Core.Path.{◌≡◌, refl, sym, ◌∙◌}
use mathlib.Core.List.{List, ◌++◌}
use native.Mathlib.Omega.{arith}
use lib.ListN.{length, take, drop, replicate, length-append, length-drop}
use lib.Seq.{length-take-le}
use Rattle.cursor.proofs.LinesRead.{numbers_missing, numbers_read}
use Rattle.cursor.proofs.lines.read_numbers.Goals as goal

-- as many words are lent as the line has fields
lent : (words : List ℕ) {count : ℕ} → count ≤ 7 → length words ≡ 7 → count ≡ length (take count words)
lent words {count} few seven = sym (length-take-le count words (omega arith))

pub returns-in_err-taken : goal.returns-in_err-taken
returns-in_err-taken c =
    c.from_residual.ensures ∙ numbers_missing c.args.count _ (lent _ c.requires.1.1 refl) (sym c.in_err-taken.ensures.answer)

pub returns : goal.returns
returns c =
    let words : List ℕ = replicate 7 0 in
    let some = lent words c.requires.1.1 refl in
    let long : length (c.line_at.new.values ++ drop c.args.count words) ≡ 7 = omega (arith, length-append c.line_at.new.values (drop c.args.count words), length-drop c.args.count words, c.line_at.auto.values, some, c.requires.1.1) in
    numbers_read c.args.count _ c.requires.1.0 some (sym c.in_ok-taken.ensures.answer) c.in_ok-taken.ensures.list long
