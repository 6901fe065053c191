-- What was rendered is read back as it was: a number below 10^7, and a line of such numbers. Assumes nothing.
use mathlib.Core.Path.{◌≡◌, refl, ap}
use mathlib.Core.Bool.{true, false, and-false}
use mathlib.Core.Logic.{◌≢◌, inl, inr}
use mathlib.Core.List.{List, [], ◌∷◌, ◌++◌, append_assoc}
use Prim.Native.Nat.{ℕ, zero, suc, ◌+◌, ◌-◌, ◌*◌, ◌^◌, ◌/◌, ◌%◌, ◌≤◌, ◌<◌}
use native.Mathlib.Omega.{arith}
use lib.ListN.{length, get_or, drop, replicate, length-append, length-replicate, get_or-append}
use lib.Seq.{get_or-append_seam, drop-append-add}
use borrow.Author.Tests.{le-leb, eq-eqb, ne_eqb}
use Rattle.std.specs.Prelude.{None, Some}
use Rattle.fields.specs.Fields.{is_digit, digits, number_from, is_field, field, Numbers, fields, line_feed, line_ends, line, decimal_by, decimal, render_fields, render_line}
use Rattle.fields.proofs.Decimals.{by_digits, one_digit, by_tenth, digits_least, tenth_length, tenth_below}

-- Every byte is a digit.
data Digits : List ℕ → Type 0 where
  none : Digits []
  one : {byte : ℕ} {bytes : List ℕ} → is_digit byte ≡ true → Digits bytes → Digits (byte ∷ bytes)

digit_byte : (digit : ℕ) → digit < 10 → is_digit (48 + digit) ≡ true
digit_byte digit l = rw (le-leb 48 (48 + digit) (omega arith), le-leb (48 + digit) 57 (omega arith))

both : {xs ys : List ℕ} → Digits xs → Digits ys → Digits (xs ++ ys)
both none h = h
both (one d more) h = one d (both more h)

decimal_digits : (places value : ℕ) → Digits (decimal_by places value)
unfolding decimal_by
decimal_digits zero value = one (digit_byte (value % 10) (omega arith)) none
decimal_digits (suc places) value = elim (by_digits value) [
  | inl l ↦ rw (one_digit (suc places) value l) (one (digit_byte value l) none)
  | inr l ↦ rw (by_tenth places value l) (both (decimal_digits places (value / 10)) (one (digit_byte (value % 10) (omega arith)) none))
]

-- Digits are read up to the byte that is none.
digits_read : (end : ℕ) → is_digit end ≡ false → {bytes : List ℕ} → Digits bytes → (rest : List ℕ) → digits (bytes ++ (end ∷ rest)) ≡ bytes
unfolding digits
digits_read end e none rest = rw e
digits_read end e (one {byte} {bytes} d more) rest =
    rw d (ap (λ (l : List ℕ). byte ∷ l) (digits_read end e more rest))

-- The last digit of a number counts once, those before it ten times.
number_last : (before : ℕ) (xs : List ℕ) (digit : ℕ) → number_from before (xs ++ ((48 + digit) ∷ [])) ≡ 10 * number_from before xs + digit
unfolding number_from
number_last before [] digit =
    let e : 48 + digit - 48 ≡ digit = omega arith in
    rw e
number_last before (x ∷ xs) digit = number_last (10 * before + (x - 48)) xs digit

number_read : (places value : ℕ) → value < 10 ^ suc places → number_from 0 (decimal_by places value) ≡ value
unfolding number_from
number_read zero value l =
    rw (one_digit 0 value (omega arith)) (omega arith)
number_read (suc places) value l = elim (by_digits value) [
  | inl m ↦ rw (one_digit (suc places) value m) (omega arith)
  | inr m ↦ rw (
    by_tenth places value m,
    number_last 0 (decimal_by places (value / 10)) (value % 10),
    number_read places (value / 10) (tenth_below (suc places) value l),
  ) (omega arith)
]

-- The first digit of a number above 0 is not 0.
first_digit : (places value : ℕ) → value < 10 ^ suc places → 1 ≤ value → 48 < get_or (decimal_by places value) 0 0
first_digit zero value l h = rw (one_digit 0 value (omega arith)) (omega arith)
first_digit (suc places) value l h = elim (by_digits value) [
  | inl m ↦ rw (one_digit (suc places) value m) (omega arith)
  | inr m ↦ rw (by_tenth places value m, get_or-append (decimal_by places (value / 10)) _ 0 0 (digits_least places (value / 10)))
      (first_digit places (value / 10) (tenth_below (suc places) value l) (omega arith))
]

-- A number below a power of ten has no more digits than the power.
pub digits_below : (places most value : ℕ) → value < 10 ^ suc most → length (decimal_by places value) ≤ suc most
unfolding decimal_by
digits_below zero most value l = omega arith
digits_below (suc places) zero value l = omega (arith, ap length (one_digit (suc places) value (omega arith)))
digits_below (suc places) (suc most) value l = elim (by_digits value) [
  | inl m ↦ omega (arith, ap length (one_digit (suc places) value m))
  | inr m ↦ omega (arith, tenth_length places value m, digits_below places most (value / 10) (tenth_below (suc most) value l))
]

decimal_field : (value : ℕ) → value < 10 ^ 7 → is_field (decimal value) ≡ true
unfolding is_field
decimal_field value l = elim (by_digits value) [
  | inl m ↦ rw (one_digit 19 value m)
  | inr m ↦ rw (
    le-leb 1 (length (decimal value)) (digits_least 19 value),
    le-leb (length (decimal value)) 7 (digits_below 19 6 value l),
    ne_eqb (length (decimal value)) 1 (λ e. omega (arith, tenth_length 18 value m, digits_least 18 (value / 10))),
    ne_eqb (get_or (decimal value) 0 0) 48 (λ e. omega (arith, first_digit 19 value (omega arith) (omega arith))),
  )
]

-- A number below 10^7 that was rendered is the field that is read.
pub number_decimal : (end : ℕ) → is_digit end ≡ false → (value : ℕ) → value < 10 ^ 7 → (rest : List ℕ)
    → field end (decimal value ++ (end ∷ rest)) ≡ Some (record { value = value; taken = suc (length (decimal value)) })
unfolding field
number_decimal end e value l rest =
    rw (
      digits_read end e (decimal_digits 19 value) rest,
      decimal_field value l,
      get_or-append_seam (decimal value) end rest 256,
      eq-eqb end end refl,
      number_read 19 value (omega arith),
    )

-- A number that another byte ends is no field.
pub number_other : (end other : ℕ) → is_digit other ≡ false → other ≢ end → (value : ℕ) (rest : List ℕ)
    → field end (decimal value ++ (other ∷ rest)) ≡ None
unfolding field
number_other end other e away value rest =
    rw (
      digits_read other e (decimal_digits 19 value) rest,
      get_or-append_seam (decimal value) other rest 256,
      ne_eqb other end away,
      and-false (is_field (decimal value)),
    )

-- No end is a digit.
abbrev pub NoDigits : (ends : List ℕ) → Type 0
NoDigits [] = Unit
NoDigits (end ∷ ends) = (is_digit end ≡ false) × NoDigits ends

-- Each value fits a field.
abbrev pub FitFields : (values : List ℕ) → Type 0
FitFields [] = Unit
FitFields (value ∷ values) = (value < 10 ^ 7) × FitFields values

behind : (xs : List ℕ) (end : ℕ) (rest : List ℕ) → drop (suc (length xs)) (xs ++ (end ∷ rest)) ≡ rest
behind xs end rest =
    let e : suc (length xs) ≡ length xs + 1 = omega arith in
    rw (e, drop-append-add)

pub fields_render : (ends values rest : List ℕ) → NoDigits ends → FitFields values → length ends ≡ length values
    → fields ends (render_fields ends values ++ rest) ≡ Numbers values (length (render_fields ends values))
unfolding fields render_fields
fields_render [] [] rest apart fit same = refl
fields_render [] (value ∷ values) rest apart fit same = absurd (omega arith)
fields_render (end ∷ ends) [] rest apart fit same = absurd (omega arith)
fields_render (end ∷ ends) (value ∷ values) rest apart fit same =
    rw (
      append_assoc (decimal value) (end ∷ render_fields ends values) rest,
      number_decimal end apart.0 value fit.0 (render_fields ends values ++ rest),
      behind (decimal value) end (render_fields ends values ++ rest),
      fields_render ends values rest apart.1 fit.1 (omega arith),
    )
    (ap (λ (k : ℕ). Numbers (value ∷ values) k) (omega (arith, length-append (decimal value) (end ∷ render_fields ends values))))

separators_apart : (separator count : ℕ) → is_digit separator ≡ false → NoDigits (replicate count separator ++ (line_feed ∷ []))
separators_apart separator zero e = (refl, tt)
separators_apart separator (suc count) e = (e, separators_apart separator count e)

pub ends_length : (separator count : ℕ) → 1 ≤ count → length (line_ends separator count) ≡ count
ends_length separator count l = omega (
  arith,
  length-append (replicate (count - 1) separator) (line_feed ∷ []),
  length-replicate (count - 1) separator,
)

-- A line of numbers below 10^7 that was rendered is the line that is read.
pub line_render : (separator : ℕ) → is_digit separator ≡ false → (values rest : List ℕ) → FitFields values → 1 ≤ length values
    → line separator (length values) (render_line separator values ++ rest) ≡ Numbers values (length (render_line separator values))
line_render separator e values rest fit l =
    fields_render (line_ends separator (length values)) values rest (separators_apart separator (length values - 1) e) fit
    (ends_length separator (length values) l)
