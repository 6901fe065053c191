-- Numbers 1 to 5, 9 and 10, which look at no word of a list (document 01, "What a call returns").
use Rattle.std.specs.Prelude.{ℕ, ◌+◌, Bool, cond, not, ◌||◌, ltb, leb, eqb, Ok, Err}
use Rattle.model.specs.Answers.{Check, fault_of}
use Rattle.model.specs.declared.Kind.{Kind}
use Rattle.model.specs.declared.Kind.TheVariants.{NodeCount, Ceiling, Source, ArcCount, StartCount, SegmentCount, LentList}

-- One test: a fault of that kind and place if it fails (document 01, "What a call returns").
unfoldable pub fault_if : Kind → (place : ℕ) → (fails : Bool) → Check
fault_if kind place fails = cond fails (Err (fault_of kind place)) (Ok tt)

-- ---- one definition for each number

-- 1: n outside 1 to 4,096 (document 01, "What a call returns").
abbrev pub nodes_check : (n : ℕ) → Check
nodes_check n = fault_if NodeCount 0 (ltb n 1 || ltb 4096 n)

-- 2: C above 1,048,575 (document 01, "What a call returns").
abbrev pub ceiling_check : (C : ℕ) → Check
ceiling_check C = fault_if Ceiling 0 (ltb 1048575 C)

-- 3: source not below n (document 01, "What a call returns").
abbrev pub source_check : (n source : ℕ) → Check
source_check n source = fault_if Source 0 (leb n source)

-- 4 where heads alone are an input, by their number: more than 65,536 arcs (document 01, "What a call returns").
abbrev pub head_count_check : (heads : ℕ) → Check
head_count_check heads = fault_if ArcCount 0 (ltb 65536 heads)

-- 4 where heads and costs are both inputs, by their numbers: also if they differ (document 01, "What a call returns").
abbrev pub arc_count_check : (heads costs : ℕ) → Check
arc_count_check heads costs = fault_if ArcCount 0 (ltb 65536 heads || not (eqb heads costs))

-- 5: starts, by their number, not n + 1 words (document 01, "What a call returns").
abbrev pub start_count_check : (n starts : ℕ) → Check
start_count_check n starts = fault_if StartCount 0 (not (eqb starts (n + 1)))

-- 9: K outside 2 to 64 (document 01, "What a call returns").
abbrev pub segments_check : (K : ℕ) → Check
segments_check K = fault_if SegmentCount 0 (ltb K 2 || ltb 64 K)

-- 10 for one lent list: it has fewer words than it needs (document 01, "What a call returns").
abbrev pub lent_check : (place words needed : ℕ) → Check
lent_check place words needed = fault_if LentList place (ltb words needed)
