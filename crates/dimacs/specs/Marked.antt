-- Road files with what the reader gives back for them: a table of our own for the rules of document 02, paper 1.
use Rattle.std.specs.Prelude.{ℕ, List, [], ◌∷◌, Ok, Err}
use Prim.Native.String.{String}
use Rattle.model.specs.Answers.{Check, number_of}
use Rattle.fields.specs.Texts.{bytes_of}
use Rattle.dimacs_checks.specs.Checking.{road_check}
use Rattle.dimacs.specs.Roads.{road, road_starts, road_heads, road_costs}

-- What is told of a file: the refusal's number and place, or n and m and the three lists (document 02, paper 1).
pub data RoadTold : Type 0 where
  refused : (number place : ℕ) → RoadTold
  accepted : (nodes arcs : ℕ) → (starts heads costs : List ℕ) → RoadTold

-- A road file, its ceiling, and what is told of it (document 02, paper 1).
pub record RoadRow : Type 0 where
  pub file : String
  pub ceiling : ℕ
  pub told : RoadTold

-- A row of the table (document 02, paper 1).
infix 90 ◌at◌gives◌
abbrev pub ◌at◌gives◌ : String → ℕ → RoadTold → RoadRow
◌at◌gives◌ file C told = record { file = file; ceiling = C; told = told }

-- What the definitions tell of an accepted file (document 02, paper 1).
abbrev pub map_told : List ℕ → RoadTold
map_told bytes = accepted (road bytes).nodes (road bytes).count (road_starts bytes) (road_heads bytes) (road_costs bytes)

-- What the definitions tell of a file whose checks come to `check` (document 02, paper 1).
abbrev pub told_by : Check → List ℕ → RoadTold
told_by (Ok tt) bytes = map_told bytes
told_by (Err fault) bytes = refused (number_of fault.kind) fault.place

-- What the definitions give for a row, where 6 starts, 7 heads and 7 costs are lent (document 02, paper 1).
unfoldable pub given_for_road : RoadRow → RoadTold
given_for_road row = told_by (road_check (bytes_of row.file) row.ceiling 6 7 7) (bytes_of row.file)

-- The arcs of document 01's listing in another order, with nodes counted from 1 (document 01, "Planning file"; document 02, paper 1).
abbrev pub shuffled : String
shuffled = "c listing\np sp 5 7\na 4 2 0\na 1 2 9\na 3 2 4\na 5 1 1\na 1 3 4\nc\na 3 4 2\na 1 4 6\n"

-- The files: no `p` line, ill-formed lines, an arc before the `p` line, a second `p` line; each check of the `p` line and of an arc, an arc
-- lacking at the end; and three that are accepted (document 02, paper 1).
unfoldable pub rows : List RoadRow
rows =
    "" at 1048576 gives refused 19 1
    ∷ "c one\ncx\n" at 0 gives refused 19 2
    ∷ "c\n\n" at 0 gives refused 18 2
    ∷ "c no end" at 0 gives refused 18 1
    ∷ "a 1 1 0\np sp 1 1\n" at 0 gives refused 19 1
    ∷ "p sp 1 0\np sp 0 0\n" at 0 gives refused 19 2
    ∷ "p sp 0 99999\n" at 1048576 gives refused 1 0
    ∷ "p sp 4096 65537\n" at 1048576 gives refused 4 0
    ∷ "p sp 6 0\n" at 1048576 gives refused 2 0
    ∷ "p sp 6 0\nx\n" at 0 gives refused 10 0
    ∷ "p sp 2 2\na 1 2 5\na 0 3 6\n" at 5 gives refused 12 1
    ∷ "p sp 2 2\nc\na 1 2 5\nc\na 2 3 6\n" at 5 gives refused 7 1
    ∷ "p sp 2 2\na 1 2 5\na 2 1 6\n" at 5 gives refused 8 1
    ∷ "p sp 2 2\na 1 2 5\nc x\nc y\n" at 5 gives refused 19 4
    ∷ "p sp 1 0\n" at 0 gives accepted 1 0 (0 ∷ 0 ∷ []) [] []
    ∷ "p sp 2 4\na 2 1 3\na 1 2 1\na 2 1 1\na 1 1 0\n" at 5 gives accepted 2 4 (0 ∷ 2 ∷ 4 ∷ []) (1 ∷ 0 ∷ 0 ∷ 0 ∷ []) (1 ∷ 0 ∷ 3 ∷ 1 ∷ [])
    ∷ shuffled at 9 gives accepted 5 7 (0 ∷ 3 ∷ 3 ∷ 5 ∷ 6 ∷ 7 ∷ []) (1 ∷ 2 ∷ 3 ∷ 1 ∷ 3 ∷ 1 ∷ 0 ∷ []) (9 ∷ 4 ∷ 6 ∷ 4 ∷ 2 ∷ 0 ∷ 1 ∷ [])
    ∷ []
