-- Fields one behind the other, by their places in the bytes. Assumes nothing.
use mathlib.Core.Path.{◌≡◌, refl}
use mathlib.Core.Bool.{Bool, true, false, cond, ◌&&◌}
use mathlib.Core.List.{List, [], ◌∷◌, ◌++◌}
use Prim.Native.Nat.{ℕ, zero, suc, ◌+◌, ◌-◌, ◌≤◌, ◌<◌}
use native.Mathlib.Omega.{arith}
use lib.Dec.{ltb, eqb}
use lib.ListN.{length, drop, replicate, length-drop, get_or-eq_default}
use borrow.Author.Tests.{ltb-true, ltb-false, eqb-true}
use Rattle.fields.specs.declared.Field.{Field}
use Rattle.std.specs.Prelude.{Option, None, Some}
use Rattle.fields.specs.Fields.{digits, number_from, is_field, byte_at, field, Line, NoLine, Numbers, joined, followed, fields, line_feed, line_ends, line}
use Rattle.fields.proofs.Digits.{and_second}

-- a byte stands within the bytes
byte_within : (bytes : List ℕ) (i byte : ℕ) → byte < 256 → byte_at bytes i ≡ byte → i < length bytes
byte_within bytes i byte l e = go (ltb i (length bytes)) refl
  where
    go : (t : Bool) → ltb i (length bytes) ≡ t → i < length bytes
    go true f = ltb-true i (length bytes) f
    go false f = absurd (omega (arith, e, get_or-eq_default bytes 256 {n = i} (ltb-false i (length bytes) f)))

-- a field takes a byte for each digit, and the one that ends it
field_within : (bytes : List ℕ) (end : ℕ) {read : Field} → end < 256 → field end bytes ≡ Some read → read.taken ≤ length bytes
unfolding field
field_within bytes end {read} l e = go (is_field (digits bytes) && eqb (byte_at bytes (length (digits bytes))) end) refl e
  where
    go : (t : Bool) → (is_field (digits bytes) && eqb (byte_at bytes (length (digits bytes))) end) ≡ t
        → cond t (Some (record { value = number_from 0 (digits bytes); taken = suc (length (digits bytes)) })) None ≡ Some read → read.taken ≤ length bytes
    go true f e =
        let ends = eqb-true (byte_at bytes (length (digits bytes))) end (and_second (is_field (digits bytes)) _ f) in
        let same : suc (length (digits bytes)) ≡ read.taken = cc in
        omega (arith, byte_within bytes (length (digits bytes)) end l ends)
    go false f e = absurd (let z : ◌≡◌ {A = ℕ} 0 1 = cc in omega arith)

module _ (bytes : List ℕ) (at end : ℕ) where
  -- the place behind a field
  pub behind_within : {read : Field} → end < 256 → at ≤ length bytes → field end (drop at bytes) ≡ Some read
      → at + read.taken ≤ length bytes
  behind_within l h e = omega (arith, field_within (drop at bytes) end l e, length-drop at bytes)

-- ---- a line lies within the bytes

-- what ends each field is a byte
data EndsInBytes : List ℕ → Type 0 where
  none : EndsInBytes []
  more : {end : ℕ} {ends : List ℕ} → end < 256 → EndsInBytes ends → EndsInBytes (end ∷ ends)

fields_within : (ends : List ℕ) → EndsInBytes ends → (bytes values : List ℕ) (taken : ℕ) → fields ends bytes ≡ Numbers values taken
    → taken ≤ length bytes
unfolding fields
fields_within [] none bytes values taken e = let same : 0 ≡ taken = cc in omega arith
fields_within (end ∷ ends) (more l m) bytes values taken e = go (field end bytes) refl e (λ at. fields_within ends m (drop at bytes))
  where
    behind : (at : ℕ) → at ≤ length bytes → (value : ℕ) (line : Line) → fields ends (drop at bytes) ≡ line
        → joined value at line ≡ Numbers values taken
        → ((values : List ℕ) (taken : ℕ) → fields ends (drop at bytes) ≡ Numbers values taken → taken ≤ length (drop at bytes))
        → taken ≤ length bytes
    behind at h value NoLine f e rest = absurd (let z : ◌≡◌ {A = ℕ} 0 1 = cc in omega arith)
    behind at h value (Numbers values' taken') f e rest =
        let sum : at + taken' ≡ taken = cc in
        omega (arith, rest values' taken' f, length-drop at bytes)

    go : (found : Option Field) → field end bytes ≡ found → followed found (λ at. fields ends (drop at bytes)) ≡ Numbers values taken
        → ((at : ℕ) (values : List ℕ) (taken : ℕ) → fields ends (drop at bytes) ≡ Numbers values taken → taken ≤ length (drop at bytes))
        → taken ≤ length bytes
    go None f e rest = absurd (let z : ◌≡◌ {A = ℕ} 0 1 = cc in omega arith)
    go (Some read) f e rest =
        behind read.taken (field_within bytes end l f) read.value (fields ends (drop read.taken bytes)) refl e (rest read.taken)

line_ends_lem : (separator : ℕ) → separator < 256 → (count : ℕ) → EndsInBytes (replicate count separator ++ (line_feed ∷ []))
line_ends_lem separator l zero = let byte : line_feed < 256 = omega arith in more byte none
line_ends_lem separator l (suc count) = more l (line_ends_lem separator l count)

pub line_within : (separator count : ℕ) → separator < 256 → (bytes values : List ℕ) (taken : ℕ) → line separator count bytes ≡ Numbers values taken
    → taken ≤ length bytes
line_within separator count l bytes values taken e = fields_within (line_ends separator count) (line_ends_lem separator l (count - 1)) bytes values taken e
