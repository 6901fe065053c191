-- Whether the digits that were counted are a field, and the field then. Assumes nothing.
use mathlib.Core.Path.{◌≡◌, refl, sym, ◌∙◌, ap, ap₂}
use mathlib.Core.Bool.{Bool, true, false, cond, not, ◌&&◌, ◌||◌, false≢true}
use mathlib.Core.List.{List, [], ◌∷◌}
use Prim.Native.Nat.{ℕ, ◌+◌, ◌≤◌, ◌<◌}
use native.Mathlib.Nat.{add-zero}
use native.Mathlib.Numerals.{add-one}
use native.Mathlib.Omega.{arith}
use lib.Dec.{leb, eqb}
use lib.ListN.{length, get_or, drop}
use lib.Seq.{get_or-drop}
use borrow.Author.Tests.{lt-leb, leb-true, leb-false}
use Rattle.std.specs.Prelude.{None, Some}
use Rattle.fields.specs.Fields.{is_digit, digits, is_field, byte_at, field}
use Rattle.fields.specs.Reading.{DigitsRead}

-- the first digit is the first byte
first_digit : (bytes : List ℕ) → 1 ≤ length (digits bytes) → get_or (digits bytes) 0 0 ≡ byte_at bytes 0
unfolding digits
first_digit [] l = absurd (omega arith)
first_digit (byte ∷ bytes) l = go (is_digit byte) l
  where
    go : (t : Bool) → 1 ≤ length (cond t (byte ∷ digits bytes) []) → get_or (cond t (byte ∷ digits bytes) []) 0 0 ≡ byte
    go true l = refl
    go false l = absurd (omega arith)

-- the tests of the code, in its order: `first` is the first byte, `last` the one behind the digits
abbrev pub tested : (count first last end : ℕ) → Bool
tested count first last end = leb 1 count && leb count 7 && (eqb count 1 || not (eqb first 48)) && eqb last end

abbrev pub formed : (bytes : List ℕ) → (count end : ℕ) → Bool
formed bytes count end = tested count (byte_at bytes 0) (byte_at bytes count) end

pub formed_at : (bytes : List ℕ) (at count first last end : ℕ) → first ≡ byte_at bytes at → last ≡ byte_at bytes (at + count)
    → (leb 1 count && leb count 7 && (eqb count 1 || not (eqb first 48)) && eqb last end) ≡ formed (drop at bytes) count end
formed_at bytes at count first last end e f =
    ap₂ (λ (first last : ℕ). tested count first last end) (e ∙ sym (rw add-zero at (get_or-drop at bytes 0 256)))
    (f ∙ sym (get_or-drop at bytes count 256))

and_none : (a b c : Bool) → (a && false && b && c) ≡ false
and_none true b c = refl
and_none false b c = refl

second_of : (a b c d : Bool) → (a && b && c && d) ≡ true → b ≡ true
second_of true true c d e = refl
second_of true false c d e = e
second_of false b c d e = absurd (false≢true e)

and_same : (a b c c' d : Bool) → (a ≡ true → c ≡ c') → (a && b && c && d) ≡ (a && b && c' && d)
and_same true b c c' d h = rw (h refl)
and_same false b c c' d h = refl

-- the tests of the definition
abbrev meant : (bytes : List ℕ) → (end : ℕ) → Bool
meant bytes end = is_field (digits bytes) && eqb (byte_at bytes (length (digits bytes))) end

module _ {bytes : List ℕ} {count value : ℕ} (read : DigitsRead bytes count value) (end : ℕ) where
  few : count ≤ 7 → formed bytes count end ≡ meant bytes end
  unfolding is_field
  few l =
      rw (read.few l)
      (and_same (leb 1 count) (leb count 7) _ _ (eqb (byte_at bytes count) end)
      (λ some. ap (λ (byte : ℕ). eqb count 1 || not (eqb byte 48)) (sym (first_digit bytes (omega (arith, read.few l, leb-true 1 count some))))))

  many : 7 < count → formed bytes count end ≡ meant bytes end
  unfolding is_field
  many l =
      let n = length (digits bytes) in
      let alone = eqb count 1 || not (eqb (byte_at bytes 0) 48) in
      let alone' = eqb n 1 || not (eqb (get_or (digits bytes) 0 0) 48) in
      rw (lt-leb count 7 l, lt-leb n 7 (read.many l))
      (and_none (leb 1 count) alone (eqb (byte_at bytes count) end) ∙ sym (and_none (leb 1 n) alone' (eqb (byte_at bytes n) end)))

  same : formed bytes count end ≡ meant bytes end
  same = go (leb count 7) refl
    where
      go : (t : Bool) → leb count 7 ≡ t → formed bytes count end ≡ meant bytes end
      go true e = few (leb-true count 7 e)
      go false e = many (leb-false count 7 e)

  pub formed_field : formed bytes count end ≡ true → Some (record { value = value; taken = count + 1 }) ≡ field end bytes
  unfolding field
  formed_field e =
      let l = leb-true count 7 (second_of (leb 1 count) (leb count 7) (eqb count 1 || not (eqb (byte_at bytes 0) 48)) (eqb (byte_at bytes count) end) e) in
      rw (sym same ∙ e, read.spelled l, read.few l, add-one)

  pub formless_field : formed bytes count end ≡ false → None ≡ field end bytes
  unfolding field
  formless_field e = rw (sym same ∙ e)
