-- The marked edges (document 01, "Edges, marked * where proved") as one table: the rows of numbers that `theory` has, and whole planning
-- files with what `plan` prints for them.
use Rattle.std.specs.Prelude.{ℕ, List, [], ◌∷◌, ◌++◌, map}
use Prim.Native.String.{String}
use Rattle.theory.specs.Edges.{Answer, Row, answer_to, edges}
use Rattle.fields.specs.Texts.{bytes_of}
use Rattle.planning.specs.Planning.{plan_text_lem}

-- A marked case: numbers of a heap or a run, or a planning file and what is printed for it (document 01, "Edges, marked * where proved").
pub data Case : Type 0 where
  numbers : Row → Case
  printed : (file text : String) → Case

-- What is told of a case (document 01, "Edges, marked * where proved").
pub data Told : Type 0 where
  answer : Answer → Told
  bytes : List ℕ → Told

-- What the definitions give (document 01, "Edges, marked * where proved").
unfoldable pub given_for : Case → Told
given_for (numbers row) = answer (answer_to row.question)
given_for (printed file text) = bytes (plan_text_lem (bytes_of file))

-- What the documents say (document 01, "Edges, marked * where proved"; document 02, papers 2 and 3).
unfoldable pub said : Case → Told
said (numbers row) = answer row.answer
said (printed file text) = bytes (bytes_of text)

-- The listing (document 01, "Planning file").
abbrev pub listing_file : String
listing_file = "5,7,9,0,3\n0,1,9\n0,2,4\n0,3,6\n2,1,4\n2,3,2\n3,1,0\n4,0,1\n"

-- The files: the listing and `1,0,0,0,2` (document 01, "Planning file" and "Edges, marked * where proved"); arcs 0→1 and 1→0, both of cost
-- 0, with C 0 and K 2; of our own, three refusals: an empty file, the listing without its last line feed, and a tail that falls; and with
-- holds (document 02, paper 2) the listing, node 2's hold 1 and node 3's 2, and three refusals: a hold above C, a cost above what the hold
-- of its tail leaves of C, and no line for the last node's hold.
unfoldable pub files : List Case
files =
    printed listing_file "5,7,4,2\none,6,7,9,27\ntwo,4,7,11,21\n0,0,-\n1,6,5\n2,4,1\n3,6,2\n4,-,-\n"
    ∷ printed "1,0,0,0,2\n" "1,0,1,0\none,2,1,1,2\ntwo,2,1,2,2\n0,0,-\n"
    ∷ printed "2,2,0,0,2\n0,1,0\n1,0,0\n" "2,2,2,0\none,2,2,2,4\ntwo,2,2,4,4\n0,0,-\n1,0,0\n"
    ∷ printed "" "refused,11,1\n"
    ∷ printed "5,7,9,0,3\n0,1,9\n0,2,4\n0,3,6\n2,1,4\n2,3,2\n3,1,0\n4,0,1" "refused,11,8\n"
    ∷ printed "2,2,0,0,2\n1,0,0\n0,1,0\n" "refused,12,1\n"
    ∷ printed "5,7,9,0,3,1\n0,1,9\n0,2,4\n0,3,6\n2,1,4\n2,3,2\n3,1,0\n4,0,1\n0\n0\n1\n2\n0\n"
    "5,7,4,1\none,6,6,13,22\ntwo,4,5,13,18\n0,0,-\n1,8,5\n2,4,1\n3,6,2\n4,-,-\n"
    ∷ printed "2,1,9,0,2,1\n0,1,1\n0\n10\n" "refused,20,1\n"
    ∷ printed "1,1,9,0,2,1\n0,0,5\n5\n" "refused,8,0\n"
    ∷ printed "2,1,9,0,2,1\n0,1,1\n0\n" "refused,11,4\n"
    ∷ []

-- The whole table (document 01, "Edges, marked * where proved").
abbrev pub marked : List Case
marked = map numbers edges ++ files
