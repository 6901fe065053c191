-- Texts as bytes (document 01, "Planning file").
use Rattle.std.specs.Prelude.{ℕ, List, [], ◌∷◌}
use Prim.Native.Char.{code}
use Prim.Native.String.{String}
use Prim.Native.String as text

-- The bytes of a text, of which each character is one byte.
unfoldable pub bytes_of : String → List ℕ
bytes_of text.[] = []
bytes_of (text.◌∷◌ character characters) = code character ∷ bytes_of characters
