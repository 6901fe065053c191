-- Laws of the digits of a number: how many there are, and how each is got from those before it. Assumes nothing.
use mathlib.Core.Path.{◌≡◌, refl, sym, ap, ◌∙◌}
use mathlib.Core.Bool.{Bool, true, false}
use mathlib.Core.Logic.{◌⊎◌, inl, inr}
use mathlib.Core.List.{List, [], ◌∷◌, ◌++◌}
use Prim.Native.Nat.{ℕ, zero, suc, ◌+◌, ◌^◌, ◌/◌, ◌%◌, ◌≤◌, ◌<◌}
use native.Mathlib.Nat.{pow-succ'}
use native.Mathlib.Omega.{arith}
use lib.Dec.{ltb}
use lib.ListN.{length, length-append}
use borrow.Author.Tests.{lt-ltb, le-ltb, ltb-true, ltb-false}
use Rattle.fields.specs.Fields.{decimal_by, decimal}

-- a number has one digit, or a tenth and a last digit
pub by_digits : (value : ℕ) → (value < 10) ⊎ (10 ≤ value)
by_digits value = go (ltb value 10) refl
  where
    go : (t : Bool) → ltb value 10 ≡ t → (value < 10) ⊎ (10 ≤ value)
    go true e = inl (ltb-true value 10 e)
    go false e = inr (ltb-false value 10 e)

pub one_digit : (places value : ℕ) → value < 10 → decimal_by places value ≡ (48 + value) ∷ []
unfolding decimal_by
one_digit zero value l =
    let e : value % 10 ≡ value = omega arith in
    rw e
one_digit (suc places) value l = rw (lt-ltb value 10 l)

pub by_tenth : (places value : ℕ) → 10 ≤ value
    → decimal_by (suc places) value ≡ decimal_by places (value / 10) ++ ((48 + value % 10) ∷ [])
unfolding decimal_by
by_tenth places value l = rw (le-ltb value 10 l)

pub tenth_length : (places value : ℕ) → 10 ≤ value → length (decimal_by (suc places) value) ≡ length (decimal_by places (value / 10)) + 1
tenth_length places value l = ap length (by_tenth places value l) ∙ length-append (decimal_by places (value / 10)) _

pub digits_most : (places value : ℕ) → length (decimal_by places value) ≤ suc places
unfolding decimal_by
digits_most zero value = omega arith
digits_most (suc places) value = elim (by_digits value) [
  | inl l ↦ omega (arith, ap length (one_digit (suc places) value l))
  | inr l ↦ omega (arith, tenth_length places value l, digits_most places (value / 10))
]

pub digits_least : (places value : ℕ) → 1 ≤ length (decimal_by places value)
unfolding decimal_by
digits_least zero value = omega arith
digits_least (suc places) value = elim (by_digits value) [
  | inl l ↦ omega (arith, ap length (one_digit (suc places) value l))
  | inr l ↦ omega (arith, tenth_length places value l)
]

-- a tenth of a number below a power of ten is below the power before
pub tenth_below : (places value : ℕ) → value < 10 ^ suc places → value / 10 < 10 ^ places
tenth_below places value l = omega (arith, rw pow-succ' at l)

-- places beyond those of the number add no digit
pub digits_enough : (places value : ℕ) → value < 10 ^ suc places → decimal_by (suc places) value ≡ decimal_by places value
digits_enough zero value l = one_digit 1 value (omega arith) ∙ sym (one_digit 0 value (omega arith))
digits_enough (suc places) value l = elim (by_digits value) [
  | inl m ↦ one_digit (suc (suc places)) value m ∙ sym (one_digit (suc places) value m)
  | inr m ↦ by_tenth (suc places) value m
      ∙ ap (λ (l : List ℕ). l ++ ((48 + value % 10) ∷ [])) (digits_enough places (value / 10) (tenth_below (suc places) value l))
      ∙ sym (by_tenth places value m)
]

pub decimal_most : (value : ℕ) → length (decimal value) ≤ 20
decimal_most value = digits_most 19 value

-- the digits of a word of 64 bits are those of its tenth and the last one
pub decimal_tenth : (value : ℕ) → value < 2 ^ 64 → 10 ≤ value → decimal value ≡ decimal (value / 10) ++ ((48 + value % 10) ∷ [])
decimal_tenth value below l =
    by_tenth 18 value l ∙ ap (λ (l : List ℕ). l ++ ((48 + value % 10) ∷ [])) (sym (digits_enough 18 (value / 10) (omega arith)))

pub decimal_tenth_length : (value : ℕ) → value < 2 ^ 64 → 10 ≤ value → length (decimal value) ≡ length (decimal (value / 10)) + 1
decimal_tenth_length value below l = ap length (decimal_tenth value below l) ∙ length-append (decimal (value / 10)) _

-- a number has one digit at least, and just one where it is below ten
pub decimal_least : (value : ℕ) → 1 ≤ length (decimal value)
decimal_least value = digits_least 19 value

pub one_digit_length : (value : ℕ) → value < 10 → length (decimal value) ≡ 1
one_digit_length value l = ap length (one_digit 19 value l)

pub digit_alone : (value : ℕ) → value < 10 → decimal value ≡ (48 + value) ∷ []
digit_alone value l = one_digit 19 value l
