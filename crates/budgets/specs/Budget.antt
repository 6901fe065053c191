-- How many heap operations a map of a given size can take at the most, and the text of it (demand 3, before a map is known).
use Rattle.std.specs.Prelude.{ℕ, ◌+◌, ◌-◌, ◌*◌, ◌≤◌, min, ◌≡◌, List, [], ◌∷◌, ◌++◌, ltb, length, get_or, drop, Ok, Err}
use Rattle.model.specs.Answers.{Check, fault_of}
use Rattle.model.specs.declared.Kind.TheVariants.{PlanLine}
use Rattle.model.specs.declared.Counts.{Counts}
use Rattle.model.specs.Answers as answers
use Rattle.theory.specs.Runs.{heap_buckets, removal_looks}
use Rattle.theory.specs.declared.Levels.{Levels}
use Rattle.theory.specs.declared.Levels.TheVariants.{One, Two}
use Rattle.check_numbers.specs.Numbers.{fault_if, nodes_check, head_count_check, ceiling_check, segments_check}
use Rattle.checks.specs.Checks.{first_fault}
use Rattle.fields.specs.Fields.{Line, NoLine, Numbers, comma, line, render_line}
use Rattle.report.specs.Report.{word_one, word_two, ended, refused_text}

-- ---- the bounds, in n, m, C and K alone

-- The most nodes that are reached: each but the source needs an arc of its own (document 01, "The tallies").
abbrev pub most_reached : (n m : ℕ) → ℕ
most_reached n m = min n (m + 1)

-- The most decreases: m - r + 1 for r = 1 (demand 3).
abbrev pub most_decreases : (m : ℕ) → ℕ
most_decreases m = m

-- The most placements: r × B + m - r + 1 for the most nodes (demand 3).
abbrev pub most_placements : (n m B : ℕ) → ℕ
most_placements n m B = most_reached n m * (B - 1) + m + 1

-- The most looks, where a removal makes at most L: r × L for the most nodes (demand 3).
abbrev pub most_looks : (n m L : ℕ) → ℕ
most_looks n m L = most_reached n m * L

-- The most reads: r × (B - 1) and twice the placements, for the most nodes and the most placements (demand 3; document 02, paper 3).
abbrev pub most_reads : (n m B : ℕ) → ℕ
most_reads n m B = most_reached n m * (B - 1) + 2 * most_placements n m B

-- The most heap operations: r × (4 B + L) + 3 m - 4 r + 3 for the most nodes (demand 3; document 02, paper 3).
abbrev pub most_operations : (n m B L : ℕ) → ℕ
most_operations n m B L = most_reached n m * (4 * B + L - 4) + 3 * m + 3

-- The heap operations of the counts that a run gives back: placements, looks and reads (demand 3; document 01, "The tallies"; document
-- 02, paper 3).
abbrev pub operations_of : Counts → ℕ
operations_of counts = counts.placements + counts.looks + counts.reads

-- A run has returned no more than the bounds of its size, for a heap of B buckets in which a removal makes at most L looks (demand 3;
-- document 02, paper 3).
pub record Within (n m B L : ℕ) (numbers : answers.Numbers) : Type 0 where
  pub buckets : numbers.buckets ≡ B
  pub decreases : numbers.counts.decreases ≤ most_decreases m
  pub placements : numbers.counts.placements ≤ most_placements n m B
  pub looks : numbers.counts.looks ≤ most_looks n m L
  pub reads : numbers.counts.reads ≤ most_reads n m B
  pub operations : operations_of numbers.counts ≤ most_operations n m B L

-- Numbers so small that the bounds fit a word of 32 bits.
pub record Small (reached buckets arcs : ℕ) : Type 0 where
  pub few_nodes : reached ≤ 4096
  pub some : 1 ≤ buckets
  pub few : buckets ≤ 22
  pub few_arcs : arcs ≤ 65536

-- ---- the line and its checks

-- The four numbers of the line: n, m, C, K.
pub record Size : Type 0 where
  pub nodes : ℕ
  pub arcs : ℕ
  pub ceiling : ℕ
  pub segments : ℕ

-- The size that a line tells; a line that is ill-formed is refused, and its numbers count as 0.
abbrev pub size_told : Line → Size
size_told NoLine = record { nodes = 0; arcs = 0; ceiling = 0; segments = 0 }
size_told (Numbers values taken) = record { nodes = get_or values 0 0; arcs = get_or values 1 0; ceiling = get_or values 2 0; segments = get_or values 3 0 }

-- 1, 4, 2 and 9 of a size (document 01, "What a call returns").
unfoldable pub budget_checks : (n m C K : ℕ) → List Check
budget_checks n m C K = nodes_check n ∷ head_count_check m ∷ ceiling_check C ∷ segments_check K ∷ []

-- The line by 11, 1, 4, 2 and 9, then left-over bytes (document 01, "What a call returns").
abbrev pub line_check : Line → (bytes : List ℕ) → Check
line_check NoLine bytes = Err (fault_of PlanLine 1)
line_check (Numbers values taken) bytes =
    first_fault (budget_checks (get_or values 0 0) (get_or values 1 0) (get_or values 2 0) (get_or values 3 0) ++ (fault_if PlanLine 2 (ltb 0 (length (drop taken bytes))) ∷ []))

-- The checks of the input (document 01, "What a call returns").
unfoldable pub budget_check : (bytes : List ℕ) → Check
budget_check bytes = line_check (line comma 4 bytes) bytes

-- ---- the text

-- The line of a heap: its word, B, and the most decreases, placements, looks, reads and operations (document 02, paper 3).
unfoldable pub bounds_line : (word : List ℕ) → (buckets decreases placements looks reads operations : ℕ) → List ℕ
bounds_line word buckets decreases placements looks reads operations =
    ended word comma ++ render_line comma (buckets ∷ decreases ∷ placements ∷ looks ∷ reads ∷ operations ∷ [])

-- The line of a heap of B buckets in which a removal makes at most L looks, for n nodes and m arcs.
unfoldable pub heap_bounds : (word : List ℕ) → (n m B L : ℕ) → List ℕ
heap_bounds word n m B L =
    bounds_line word B (most_decreases m) (most_placements n m B) (most_looks n m L) (most_reads n m B) (most_operations n m B L)

-- The line of a kind of heap for a size.
abbrev pub levels_bounds : (word : List ℕ) → Levels → (n m C : ℕ) → List ℕ
levels_bounds word L n m C = heap_bounds word n m (heap_buckets L C) (removal_looks L C)

-- The bounds of both heaps for a size.
unfoldable pub size_text : (n m C K : ℕ) → List ℕ
size_text n m C K = levels_bounds word_one One n m C ++ levels_bounds word_two (Two K) n m C

-- The text for a line whose checks come to `check`.
abbrev pub budget_lines : Check → Size → List ℕ
budget_lines (Ok tt) size = size_text size.nodes size.arcs size.ceiling size.segments
budget_lines (Err fault) size = refused_text fault

-- What `budget` prints.
unfoldable pub budget_text : (bytes : List ℕ) → List ℕ
budget_text bytes = budget_lines (budget_check bytes) (size_told (line comma 4 bytes))
