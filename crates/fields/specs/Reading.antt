-- What the reading of a field's digits and of a line finds (document 01, "Planning file").
use Rattle.std.specs.Prelude.{ℕ, ◌≤◌, ◌<◌, ◌≡◌, List, [], ◌∷◌, length, drop, Option, None, Some}
use Rattle.fields.specs.declared.Field.{Field}
use Rattle.fields.specs.Fields.{digits, number_from, field, Line, NoLine, Numbers}

-- The digits at the front of the bytes, of which at most 8 are counted: a field has 7 at the most (document 01, "Planning file").
pub record DigitsRead (bytes : List ℕ) (count value : ℕ) : Type 0 where
  pub within : count ≤ length bytes
  pub few : count ≤ 7 → length (digits bytes) ≡ count
  pub spelled : count ≤ 7 → number_from 0 (digits bytes) ≡ value
  pub many : 7 < count → 7 < length (digits bytes)

-- The bytes that a line takes (document 01, "Planning file").
abbrev pub line_taken : Line → Option ℕ
line_taken NoLine = None
line_taken (Numbers values taken) = Some taken

-- A field's value in the first of the words, and what is read behind it in the others; without a field the words stay.
abbrev pub value_into : Option Field → (word : ℕ) → (words : List ℕ) → (behind : ℕ → List ℕ) → List ℕ
value_into None word words behind = word ∷ words
value_into (Some read) word words behind = read.value ∷ behind read.taken

-- The words with the values of fields one behind the other, up to the first that is ill-formed (document 01, "Planning file").
unfoldable pub fields_into : (ends : List ℕ) → (bytes words : List ℕ) → List ℕ
fields_into [] bytes words = words
fields_into (end ∷ ends) bytes [] = []
fields_into (end ∷ ends) bytes (word ∷ words) = value_into (field end bytes) word words (λ taken. fields_into ends (drop taken bytes) words)
