-- Decimal fields and lines of them, read from bytes and rendered (document 01, "Planning file"). What ends a field is a parameter, and
-- so are the separator and the number of fields of a line.
use Rattle.std.specs.Prelude.{ℕ, zero, suc, ◌+◌, ◌-◌, ◌*◌, ◌/◌, ◌%◌, Bool, cond, not, ◌&&◌, ◌||◌, List, [], ◌∷◌, ◌++◌, ltb, leb, eqb, length, get_or, drop, replicate, Option, None, Some}
use Rattle.fields.specs.declared.Field.{Field}

-- ---- reading

-- A byte is one of the digits 0 to 9 (document 01, "Planning file").
abbrev pub is_digit : ℕ → Bool
is_digit byte = leb 48 byte && leb byte 57

-- The digits at the front of the bytes (document 01, "Planning file").
unfoldable pub digits : List ℕ → List ℕ
digits [] = []
digits (byte ∷ bytes) = cond (is_digit byte) (byte ∷ digits bytes) []

-- The number that digits spell after those that spelled `before` (document 01, "Planning file").
unfoldable pub number_from : (before : ℕ) → List ℕ → ℕ
number_from before [] = before
number_from before (digit ∷ digits) = number_from (10 * before + (digit - 48)) digits

-- A field is 1 to 7 digits with no leading zero except 0 itself (document 01, "Planning file").
unfoldable pub is_field : List ℕ → Bool
is_field digits = leb 1 (length digits) && leb (length digits) 7 && (eqb (length digits) 1 || not (eqb (get_or digits 0 0) 48))

-- The byte at a place; past the last one it is 256, which is no byte.
abbrev pub byte_at : List ℕ → ℕ → ℕ
byte_at bytes i = get_or bytes i 256

-- The field at the front of the bytes, ended by byte `end`: its value, and the bytes that it takes with that byte (document 01,
-- "Planning file").
unfoldable pub field : (end : ℕ) → List ℕ → Option Field
field end bytes =
    cond (is_field (digits bytes) && eqb (byte_at bytes (length (digits bytes))) end)
    (Some (record { value = number_from 0 (digits bytes); taken = suc (length (digits bytes)) }))
    None

-- The numbers of a line, and the bytes that it takes; or none, if it is ill-formed (document 01, "Planning file").
pub data Line : Type 0 where
  NoLine : Line
  Numbers : (values : List ℕ) → (taken : ℕ) → Line

-- A field joined to the line behind it.
abbrev pub joined : (value taken : ℕ) → Line → Line
joined value taken NoLine = NoLine
joined value taken (Numbers values more) = Numbers (value ∷ values) (taken + more)

-- A field, and the line that is read behind the bytes that it takes.
abbrev pub followed : Option Field → (behind : ℕ → Line) → Line
followed None behind = NoLine
followed (Some read) behind = joined read.value read.taken (behind read.taken)

-- Fields one behind the other, each with the byte that ends it (document 01, "Planning file").
unfoldable pub fields : (ends : List ℕ) → List ℕ → Line
fields [] bytes = Numbers [] 0
fields (end ∷ ends) bytes = followed (field end bytes) (λ taken. fields ends (drop taken bytes))

-- The byte that ends a line (document 01, "Planning file").
abbrev pub line_feed : ℕ
line_feed = 10

-- The separator of a planning file (document 01, "Planning file").
abbrev pub comma : ℕ
comma = 44

-- What ends each field of a line: the separator, and behind the last one the line feed (document 01, "Planning file").
abbrev pub line_ends : (separator fields : ℕ) → List ℕ
line_ends separator count = replicate (count - 1) separator ++ (line_feed ∷ [])

-- A line of so many fields at the front of the bytes (document 01, "Planning file").
abbrev pub line : (separator count : ℕ) → List ℕ → Line
line separator count bytes = fields (line_ends separator count) bytes

-- ---- rendering

-- The digits of a number, at most so many and one more, with no leading zero except 0 itself (document 01, "Planning file").
unfoldable pub decimal_by : (places : ℕ) → (value : ℕ) → List ℕ
decimal_by zero value = (48 + value % 10) ∷ []
decimal_by (suc places) value = cond (ltb value 10) ((48 + value) ∷ []) (decimal_by places (value / 10) ++ ((48 + value % 10) ∷ []))

-- The digits of a number below 2^64, of which there are 20 at the most (document 01, "Planning file").
abbrev pub decimal : (value : ℕ) → List ℕ
decimal value = decimal_by 19 value

-- Fields one behind the other, each with the byte that ends it (document 01, "Planning file").
unfoldable pub render_fields : (ends values : List ℕ) → List ℕ
render_fields [] values = []
render_fields (end ∷ ends) [] = []
render_fields (end ∷ ends) (value ∷ values) = decimal value ++ (end ∷ render_fields ends values)

-- A line of fields (document 01, "Planning file").
abbrev pub render_line : (separator : ℕ) → (values : List ℕ) → List ℕ
render_line separator values = render_fields (line_ends separator (length values)) values
