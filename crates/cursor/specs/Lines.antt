-- A line of a planning file (document 01, "Planning file").
use Rattle.std.specs.Prelude.{ℕ, List, [], ◌∷◌, get_or, Option, None, Some}
use Rattle.fields.specs.Fields.{Line, NoLine, Numbers, comma, line}
use Rattle.cursor.specs.declared.LineNumbers.{LineNumbers}

-- The numbers of a line of at most seven fields; those past its last field are 0 (document 01, "Planning file").
abbrev pub line_numbers_of : Line → Option LineNumbers
line_numbers_of NoLine = None
line_numbers_of (Numbers values taken) =
    Some (record {
      numbers = get_or values 0 0 ∷ get_or values 1 0 ∷ get_or values 2 0 ∷ get_or values 3 0 ∷ get_or values 4 0 ∷ get_or values 5 0 ∷ get_or values 6 0 ∷ [];
      taken = taken;
    })

-- The line of so many fields at the front of the bytes (document 01, "Planning file").
unfoldable pub line_numbers : (count : ℕ) → List ℕ → Option LineNumbers
line_numbers count bytes = line_numbers_of (line comma count bytes)
