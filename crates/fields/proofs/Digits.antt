-- Digits read one at a time: after `count` of them the rest follows, whatever they are. Assumes nothing.
use mathlib.Core.Path.{◌≡◌, refl, ◌∙◌, ap}
use mathlib.Core.Bool.{Bool, true, false, ◌&&◌, false≢true}
use mathlib.Core.List.{List, [], ◌∷◌}
use Prim.Native.Nat.{ℕ, zero, suc, ◌+◌, ◌-◌, ◌*◌, ◌^◌, ◌≤◌, ◌<◌}
use native.Mathlib.Nat.{pow-succ', pow-le-pow_right}
use native.Mathlib.Numerals.{add-one}
use native.Mathlib.Omega.{arith}
use lib.Dec.{leb}
use lib.ListN.{length, get_or, drop}
use lib.Seq.{drop-nil}
use borrow.Author.Tests.{leb-true}
use Rattle.fields.specs.Fields.{is_digit, digits, number_from, byte_at}
use Rattle.fields.specs.Reading.{DigitsRead}

-- ---- a byte that is a digit, and one that is not

and_first : (a b : Bool) → (a && b) ≡ true → a ≡ true
and_first true b e = refl
and_first false b e = e

pub and_second : (a b : Bool) → (a && b) ≡ true → b ≡ true
and_second true b e = e
and_second false b e = absurd (false≢true e)

pub digit_low : (byte : ℕ) → is_digit byte ≡ true → 48 ≤ byte
digit_low byte e = leb-true 48 byte (and_first (leb 48 byte) (leb byte 57) e)

pub digit_high : (byte : ℕ) → is_digit byte ≡ true → byte ≤ 57
digit_high byte e = leb-true byte 57 (and_second (leb 48 byte) (leb byte 57) e)

digit_within : (bytes : List ℕ) (i : ℕ) → is_digit (byte_at bytes i) ≡ true → i < length bytes
digit_within [] i e = absurd (false≢true e)
digit_within (byte ∷ bytes) zero e = omega arith
digit_within (byte ∷ bytes) (suc i) e = let l = digit_within bytes i e in omega arith

digits_more : (bytes : List ℕ) (i : ℕ) → is_digit (byte_at bytes i) ≡ true → digits (drop i bytes) ≡ byte_at bytes i ∷ digits (drop (suc i) bytes)
unfolding digits
digits_more [] i e = absurd (false≢true e)
digits_more (byte ∷ bytes) zero e = rw e
digits_more (byte ∷ bytes) (suc i) e = digits_more bytes i e

digits_end : (bytes : List ℕ) (i : ℕ) → is_digit (byte_at bytes i) ≡ false → digits (drop i bytes) ≡ []
unfolding digits
digits_end [] i e = rw drop-nil
digits_end (byte ∷ bytes) zero e = rw e
digits_end (byte ∷ bytes) (suc i) e = digits_end bytes i e

-- ---- the digits counted so far

pub record Counted (bytes : List ℕ) (count value : ℕ) : Type 0 where
  pub within : count ≤ length bytes
  pub few : count ≤ 8
  pub low : value < 10 ^ count
  pub length_so : length (digits bytes) ≡ count + length (digits (drop count bytes))
  pub number_so : number_from 0 (digits bytes) ≡ number_from value (digits (drop count bytes))

pub counted_start : (bytes : List ℕ) → Counted bytes 0 0
counted_start bytes = record { within = omega arith; few = omega arith; low = omega arith; length_so = omega arith; number_so = refl }

module _ {bytes : List ℕ} {count value : ℕ} (c : Counted bytes count value) where
  -- a number that one digit more still fits
  pub small : count < 8 → value < 10000000
  small h =
      let l : 10 ^ count ≤ 10 ^ 7 = pow-le-pow_right (omega arith) {i = count} {j = 7} (omega (arith, h)) in
      omega (arith, c.low)

  pub counted_next : count < 8 → is_digit (byte_at bytes count) ≡ true
      → Counted bytes (count + 1) (10 * value + (byte_at bytes count - 48))
  unfolding number_from
  counted_next h e =
      let more = digits_more bytes count e in
      let l = digit_within bytes count e in
      let high = digit_high (byte_at bytes count) e in
      let power : 10 ^ suc count ≡ 10 * 10 ^ count = pow-succ' 10 count in
      rw add-one
      (record {
        within = omega arith;
        few = omega (arith, h);
        low = omega (arith, c.low);
        length_so = omega (arith, c.length_so, ap length more);
        number_so = c.number_so ∙ ap (number_from value) more;
      })

  pub counted_end : count < 8 → is_digit (byte_at bytes count) ≡ false → DigitsRead bytes count value
  unfolding number_from
  counted_end h e =
      let no = digits_end bytes count e in
      record {
        within = c.within;
        few = λ _. omega (arith, c.length_so, ap length no);
        spelled = λ _. c.number_so ∙ ap (number_from value) no;
        many = λ l. absurd (omega (arith, h));
      }

  pub counted_full : 8 ≤ count → DigitsRead bytes 8 value
  counted_full h = record {
    within = omega (arith, c.within);
    few = λ l. absurd (omega arith);
    spelled = λ l. absurd (omega arith);
    many = λ _. omega (arith, c.few, c.length_so);
  }

-- ---- a byte at a place

-- within a list it does not matter what stands past its end
pub get_d_within : (words : List ℕ) (i past past' : ℕ) → i < length words → get_or words i past ≡ get_or words i past'
get_d_within [] i past past' l = absurd (omega arith)
get_d_within (word ∷ words) zero past past' l = refl
get_d_within (word ∷ words) (suc i) past past' l = get_d_within words i past past' (omega arith)
