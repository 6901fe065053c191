-- What the program `plan` prints, as bytes (document 01, "Planning file").
use Rattle.std.specs.Prelude.{ℕ, zero, suc, cond, List, [], ◌∷◌, ◌++◌, eqb, get_or}
use Rattle.model.specs.Answers.{number_of}
use Rattle.model.specs.declared.Fault.{Fault}
use Rattle.theory.specs.Maps.{none}
use Rattle.fields.specs.Fields.{comma, line_feed, decimal, render_line}

-- The word of a refusal, `refused` (document 01, "Planning file").
abbrev pub word_refused : List ℕ
word_refused = 114 ∷ 101 ∷ 102 ∷ 117 ∷ 115 ∷ 101 ∷ 100 ∷ []

-- The word of the one-level heap, `one` (document 01, "Planning file").
abbrev pub word_one : List ℕ
word_one = 111 ∷ 110 ∷ 101 ∷ []

-- The word of the two-level heap, `two` (document 01, "Planning file").
abbrev pub word_two : List ℕ
word_two = 116 ∷ 119 ∷ 111 ∷ []

-- What stands for none, `-` (document 01, "Planning file").
abbrev pub hyphen : ℕ
hyphen = 45

-- Bytes with the byte that ends them.
abbrev pub ended : (bytes : List ℕ) → (end : ℕ) → List ℕ
ended bytes end = bytes ++ (end ∷ [])

-- A refusal is one line: the word, number, place (document 01, "Planning file").
unfoldable pub refused_text : Fault → List ℕ
refused_text fault = ended word_refused comma ++ render_line comma (number_of fault.kind ∷ fault.place ∷ [])

-- The first line of an answer: n, m, r, decreases (document 01, "Planning file").
unfoldable pub counts_line : (nodes arcs reached decreases : ℕ) → List ℕ
counts_line nodes arcs reached decreases = render_line comma (nodes ∷ arcs ∷ reached ∷ decreases ∷ [])

-- The line of a heap: its word, B, placements, looks, reads (document 01, "Planning file"; document 02, paper 3).
unfoldable pub heap_line : (word : List ℕ) → (buckets placements looks reads : ℕ) → List ℕ
heap_line word buckets placements looks reads = ended word comma ++ render_line comma (buckets ∷ placements ∷ looks ∷ reads ∷ [])

-- A distance or a parent arc, `-` for none (document 01, "Planning file").
unfoldable pub or_none : (value : ℕ) → List ℕ
or_none value = cond (eqb value none) (hyphen ∷ []) (decimal value)

-- The line of a node: its number, distance and parent arc (document 01, "Planning file").
unfoldable pub node_line : (v distance parent : ℕ) → List ℕ
node_line v distance parent = ended (decimal v) comma ++ ended (or_none distance) comma ++ ended (or_none parent) line_feed

-- The lines of the first nodes, so many of them, each by number (document 01, "Planning file").
unfoldable pub node_lines : (count : ℕ) → (distances parents : List ℕ) → List ℕ
node_lines zero distances parents = []
node_lines (suc v) distances parents = node_lines v distances parents ++ node_line v (get_or distances v 0) (get_or parents v 0)

-- The answer to a planning file (document 01, "Planning file"): its first line, the line of each heap, the lines of the nodes.
unfoldable pub accepted_text : (nodes arcs reached decreases : ℕ) → (buckets₁ placements₁ looks₁ reads₁ : ℕ)
    → (buckets₂ placements₂ looks₂ reads₂ : ℕ) → (distances parents : List ℕ) → List ℕ
accepted_text nodes arcs reached decreases buckets₁ placements₁ looks₁ reads₁ buckets₂ placements₂ looks₂ reads₂ distances parents =
    counts_line nodes arcs reached decreases
    ++ heap_line word_one buckets₁ placements₁ looks₁ reads₁
    ++ heap_line word_two buckets₂ placements₂ looks₂ reads₂
    ++ node_lines nodes distances parents
