-- The lines that `plan` prints, piece by piece, and how many bytes each takes at the most. Assumes nothing.
use mathlib.Core.Path.{◌≡◌, refl, ap}
use mathlib.Core.Bool.{Bool, true, false}
use mathlib.Core.List.{List, [], ◌∷◌, ◌++◌, append_assoc}
use Prim.Native.Nat.{ℕ, zero, suc, ◌+◌, ◌*◌, ◌≤◌}
use native.Mathlib.Omega.{arith}
use lib.Dec.{eqb}
use lib.ListN.{length, get_or, length-append}
use borrow.Author.Tests.{eq-eqb, ne_eqb}
use Rattle.model.specs.Answers.{number_of}
use Rattle.model.specs.declared.Fault.{Fault}
use Rattle.theory.specs.Maps.{none}
use Rattle.fields.specs.Fields.{comma, line_feed, decimal, render_fields, render_line}
use Rattle.fields.proofs.Decimals.{decimal_most}
use Rattle.report.specs.Report.{word_one, word_two, word_refused, hyphen, ended, or_none, refused_text, counts_line, heap_line, node_line, node_lines, accepted_text}

pub ended_length : (bytes : List ℕ) (end : ℕ) → length (ended bytes end) ≡ length bytes + 1
ended_length bytes end = length-append bytes (end ∷ [])

pub field_most : (value end : ℕ) → length (ended (decimal value) end) ≤ 21
field_most value end = omega (arith, ended_length (decimal value) end, decimal_most value)

-- ---- two fields

pub two_fields : (first second : ℕ)
    → ended (decimal first) comma ++ ended (decimal second) line_feed ≡ render_line comma (first ∷ second ∷ [])
unfolding render_fields
two_fields first second = append_assoc (decimal first) (comma ∷ []) (ended (decimal second) line_feed)

pub two_most : (first second : ℕ) → length (render_line comma (first ∷ second ∷ [])) ≤ 42
two_most first second = omega (
  arith,
  ap length (two_fields first second),
  length-append (ended (decimal first) comma) (ended (decimal second) line_feed),
  field_most first comma,
  field_most second line_feed,
)

-- ---- the first lines

pub refused_whole : (fault : Fault)
    → ended word_refused comma ++ render_line comma (number_of fault.kind ∷ fault.place ∷ []) ≡ refused_text fault
unfolding refused_text
refused_whole fault = refl

pub counts_whole : (nodes arcs reached decreases : ℕ)
    → ended (decimal nodes) comma ++ ended (decimal arcs) comma ++ render_line comma (reached ∷ decreases ∷ [])
    ≡ counts_line nodes arcs reached decreases
unfolding render_fields counts_line
counts_whole nodes arcs reached decreases = simp append_assoc

pub counts_most : (nodes arcs reached decreases : ℕ) → length (counts_line nodes arcs reached decreases) ≤ 84
counts_most nodes arcs reached decreases = omega (
  arith,
  ap length (counts_whole nodes arcs reached decreases),
  length-append (ended (decimal nodes) comma ++ ended (decimal arcs) comma) (render_line comma (reached ∷ decreases ∷ [])),
  length-append (ended (decimal nodes) comma) (ended (decimal arcs) comma),
  field_most nodes comma,
  field_most arcs comma,
  two_most reached decreases,
)

pub heap_whole : (word : List ℕ) (buckets placements looks reads : ℕ)
    → ended word comma ++ ended (decimal buckets) comma ++ ended (decimal placements) comma ++ render_line comma (looks ∷ reads ∷ [])
    ≡ heap_line word buckets placements looks reads
unfolding render_fields heap_line
heap_whole word buckets placements looks reads = simp append_assoc

pub heap_most : (word : List ℕ) (buckets placements looks reads : ℕ)
    → length (heap_line word buckets placements looks reads) ≤ length word + 85
heap_most word buckets placements looks reads = omega (
  arith,
  ap length (heap_whole word buckets placements looks reads),
  length-append (ended word comma ++ ended (decimal buckets) comma ++ ended (decimal placements) comma)
      (render_line comma (looks ∷ reads ∷ [])),
  length-append (ended word comma ++ ended (decimal buckets) comma) (ended (decimal placements) comma),
  length-append (ended word comma) (ended (decimal buckets) comma),
  ended_length word comma,
  field_most buckets comma,
  field_most placements comma,
  two_most looks reads,
)

-- ---- the lines of the nodes

pub or_none_mark : (value : ℕ) → value ≡ none → or_none value ≡ hyphen ∷ []
unfolding or_none
or_none_mark value e = rw (eq-eqb value none e)

pub or_none_number : (value : ℕ) → (value ≡ none → ⊥) → or_none value ≡ decimal value
unfolding or_none
or_none_number value e = rw (ne_eqb value none e)

pub or_none_most : (value end : ℕ) → length (ended (or_none value) end) ≤ 21
unfolding or_none
or_none_most value end = go (eqb value none) refl
  where
    go : (t : Bool) → eqb value none ≡ t → length (ended (or_none value) end) ≤ 21
    go true e = rw e (omega arith)
    go false e = rw e (field_most value end)

pub node_whole : (v distance parent : ℕ)
    → ended (decimal v) comma ++ ended (or_none distance) comma ++ ended (or_none parent) line_feed ≡ node_line v distance parent
unfolding node_line
node_whole v distance parent = refl

pub node_most : (v distance parent : ℕ) → length (node_line v distance parent) ≤ 64
node_most v distance parent = omega (
  arith,
  ap length (node_whole v distance parent),
  length-append (ended (decimal v) comma ++ ended (or_none distance) comma) (ended (or_none parent) line_feed),
  length-append (ended (decimal v) comma) (ended (or_none distance) comma),
  field_most v comma,
  or_none_most distance comma,
  or_none_most parent line_feed,
)

pub nodes_next : (v : ℕ) (distances parents : List ℕ)
    → node_lines v distances parents ++ node_line v (get_or distances v 0) (get_or parents v 0) ≡ node_lines (suc v) distances parents
unfolding node_lines
nodes_next v distances parents = refl

pub nodes_most : (v : ℕ) (distances parents : List ℕ) → length (node_lines v distances parents) ≤ 64 * v
unfolding node_lines
nodes_most zero distances parents = omega arith
nodes_most (suc v) distances parents = omega (
  arith,
  length-append (node_lines v distances parents) (node_line v (get_or distances v 0) (get_or parents v 0)),
  nodes_most v distances parents,
  node_most v (get_or distances v 0) (get_or parents v 0),
)

-- ---- the answer

pub accepted_whole : (nodes arcs reached decreases buckets₁ placements₁ looks₁ reads₁ buckets₂ placements₂ looks₂ reads₂ : ℕ)
    (distances parents : List ℕ)
    → counts_line nodes arcs reached decreases ++ heap_line word_one buckets₁ placements₁ looks₁ reads₁
    ++ heap_line word_two buckets₂ placements₂ looks₂ reads₂ ++ node_lines nodes distances parents
    ≡ accepted_text nodes arcs reached decreases buckets₁ placements₁ looks₁ reads₁ buckets₂ placements₂ looks₂ reads₂ distances parents
unfolding accepted_text
accepted_whole nodes arcs reached decreases buckets₁ placements₁ looks₁ reads₁ buckets₂ placements₂ looks₂ reads₂ distances parents = refl
