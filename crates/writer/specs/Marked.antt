-- Maps with the planning files that are written for them, and refusals: a table of our own for the rules of document 02, paper 5.
use Rattle.std.specs.Prelude.{ℕ, List, [], ◌∷◌, Ok, Err}
use Prim.Native.String.{String}
use Rattle.model.specs.Answers.{Check, number_of}
use Rattle.theory.specs.Runs.{Inputs, inputs}
use Rattle.checks.specs.Checks.{first_fault}
use Rattle.fields.specs.Texts.{bytes_of}
use Rattle.plan_text.specs.Files.{plan_file}
use Rattle.writer.specs.Promise.{write_checks}

-- What is told of a map: the refusal's number and place, or the bytes of its file (document 02, paper 5).
pub data FileTold : Type 0 where
  refused : (number place : ℕ) → FileTold
  file : (bytes : List ℕ) → FileTold

-- A map with C and its source, K, the bytes lent, and what is told of them (document 02, paper 5).
pub record WriteRow : Type 0 where
  pub given : Inputs
  pub segments : ℕ
  pub room : ℕ
  pub told : FileTold

-- A row of the table (document 02, paper 5).
infix 90 ◌with-K◌lent◌gives◌
abbrev pub ◌with-K◌lent◌gives◌ : Inputs → (K room : ℕ) → FileTold → WriteRow
◌with-K◌lent◌gives◌ I K room told = record { given = I; segments = K; room = room; told = told }

-- What the definitions tell of a map whose checks come to `check` (document 02, paper 5).
abbrev pub file_told : Check → List ℕ → FileTold
file_told (Ok tt) bytes = file bytes
file_told (Err fault) bytes = refused (number_of fault.kind) fault.place

-- What the definitions give for a row (document 02, paper 5).
unfoldable pub given_for_writing : WriteRow → FileTold
given_for_writing row = file_told (first_fault (write_checks row.given row.segments row.room)) (plan_file row.given row.segments)

-- A file as a text (document 02, paper 5).
abbrev pub text : String → FileTold
text characters = file (bytes_of characters)

-- The arcs of document 01's listing with other holds, C and source (document 01, "Planning file"; document 02, paper 2).
abbrev pub listing_with : (C source : ℕ) → (holds : List ℕ) → Inputs
listing_with C source holds =
    inputs 5 C source (0 ∷ 3 ∷ 3 ∷ 5 ∷ 6 ∷ 7 ∷ []) (1 ∷ 2 ∷ 3 ∷ 1 ∷ 3 ∷ 1 ∷ 0 ∷ []) (9 ∷ 4 ∷ 6 ∷ 4 ∷ 2 ∷ 0 ∷ 1 ∷ []) holds

-- One node and no arc (document 02, paper 5).
abbrev pub node_with : (C hold : ℕ) → Inputs
node_with C hold = inputs 1 C 0 (0 ∷ 0 ∷ []) [] [] (hold ∷ [])

-- The maps: the listing, whose file is document 01's; with holds, the last one alone too; a node; each file in just its bytes and in one
-- fewer; the order of 3, 6, 20, 7, 8, 9 and 10, two faults at a time (document 02, paper 5).
unfoldable pub written_rows : List WriteRow
written_rows =
    listing_with 9 0 (0 ∷ 0 ∷ 0 ∷ 0 ∷ 0 ∷ []) with-K 3 lent 52 gives text "5,7,9,0,3\n0,1,9\n0,2,4\n0,3,6\n2,1,4\n2,3,2\n3,1,0\n4,0,1\n"
    ∷ listing_with 9 0 (0 ∷ 0 ∷ 0 ∷ 0 ∷ 0 ∷ []) with-K 3 lent 51 gives refused 10 0
    ∷ listing_with 9 0 (0 ∷ 0 ∷ 1 ∷ 2 ∷ 0 ∷ []) with-K 3 lent 64 gives text "5,7,9,0,3,1\n0,1,9\n0,2,4\n0,3,6\n2,1,4\n2,3,2\n3,1,0\n4,0,1\n0\n0\n1\n2\n0\n"
    ∷ listing_with 9 0 (0 ∷ 0 ∷ 1 ∷ 2 ∷ 0 ∷ []) with-K 3 lent 63 gives refused 10 0
    ∷ listing_with 9 0 (0 ∷ 0 ∷ 0 ∷ 0 ∷ 8 ∷ []) with-K 3 lent 64 gives text "5,7,9,0,3,1\n0,1,9\n0,2,4\n0,3,6\n2,1,4\n2,3,2\n3,1,0\n4,0,1\n0\n0\n0\n0\n8\n"
    ∷ node_with 0 0 with-K 2 lent 10 gives text "1,0,0,0,2\n"
    ∷ node_with 0 0 with-K 2 lent 9 gives refused 10 0
    ∷ node_with 9 7 with-K 2 lent 14 gives text "1,0,9,0,2,1\n7\n"
    ∷ listing_with 9 0 (0 ∷ 0 ∷ 0 ∷ 0 ∷ 0 ∷ []) with-K 1 lent 0 gives refused 9 0
    ∷ listing_with 9 0 (1 ∷ 0 ∷ 0 ∷ 0 ∷ 0 ∷ []) with-K 65 lent 0 gives refused 8 0
    ∷ inputs 2 9 0 (0 ∷ 1 ∷ 1 ∷ []) (2 ∷ []) (10 ∷ []) (0 ∷ 0 ∷ []) with-K 1 lent 0 gives refused 7 0
    ∷ inputs 2 9 0 (0 ∷ 1 ∷ 1 ∷ []) (2 ∷ []) (10 ∷ []) (0 ∷ 10 ∷ []) with-K 1 lent 0 gives refused 20 1
    ∷ inputs 2 9 0 (0 ∷ 2 ∷ 1 ∷ []) (2 ∷ []) (10 ∷ []) (0 ∷ []) with-K 1 lent 0 gives refused 6 1
    ∷ listing_with 9 5 (0 ∷ 0 ∷ 0 ∷ 0 ∷ []) with-K 1 lent 0 gives refused 3 0
    ∷ []
