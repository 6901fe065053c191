-- What the checks of a size show, and its text piece by piece. Assumes nothing.
use Prim.Native.Nat.{ℕ, ◌+◌, ◌-◌, ◌*◌, ◌≤◌}
use native.Mathlib.Omega.{arith}
use native.Mathlib.Nat.{mul-le-mul}
use mathlib.Core.Path.{◌≡◌, refl, sym, ◌∙◌, ap}
use mathlib.Core.List.{List, [], ◌∷◌, ◌++◌, append_assoc}
use lib.Dec.{ltb}
use lib.ListN.{length, get_or, length-append, length-drop}
use Rattle.model.specs.Answers.{Check, fault_of}
use Rattle.std.specs.Prelude.{Ok, Err, None, Some}
use Rattle.model.specs.declared.Kind.TheVariants.{NodeCount, SegmentCount, PlanLine}
use Rattle.model.specs.declared.Fault.{Fault}
use Rattle.theory.specs.Shape.{one_level_buckets, two_level_buckets}
use Rattle.theory.proofs.Shapes.Logarithm.{one_level_most, two_level_most}
use Rattle.check_numbers.specs.Numbers.{fault_if}
use Rattle.checks.specs.Checks.{first_fault}
use Rattle.checks.proofs.Order.{AllPass, none, more, passed_all, pass_parts}
use Rattle.checks.proofs.Sizes.{passed_range, passed_heads, passed_ceiling}
use Rattle.fields.specs.Fields.{Numbers, comma, line_ends, line, decimal, render_fields, render_line}
use Rattle.fields.specs.Reading.{line_taken, fields_into}
use Rattle.fields.proofs.Lines.{line_within}
use Rattle.fields.proofs.LineReading.{missing_line, line_read}
use Rattle.report.specs.Report.{word_one, word_two, ended, refused_text}
use Rattle.report.proofs.Lines.{ended_length, field_most, two_most}
use Rattle.budgets.specs.Budget.{most_reached, Small, budget_checks, budget_check, bounds_line, heap_bounds, size_text, budget_text}

-- ---- sizes

-- A size that passes its checks.
pub record Sized (n m C K : ℕ) : Type 0 where
  pub some_node : 1 ≤ n
  pub few_nodes : n ≤ 4096
  pub few_arcs : m ≤ 65536
  pub low_ceiling : C ≤ 1048575
  pub segments_low : 2 ≤ K
  pub segments_high : K ≤ 64

pub passed_sized : (n m C K : ℕ) → first_fault (budget_checks n m C K) ≡ Ok tt → Sized n m C K
unfolding budget_checks
passed_sized n m C K e = go (passed_all _ e)
  where
    go : AllPass (budget_checks n m C K) → Sized n m C K
    go (more nodes (more arcs (more ceiling (more segments none)))) =
        let range = passed_range NodeCount n 1 4096 nodes in
        let parts = passed_range SegmentCount K 2 64 segments in
        record {
          some_node = range.0;
          few_nodes = range.1;
          few_arcs = passed_heads m arcs;
          low_ceiling = passed_ceiling C ceiling;
          segments_low = parts.0;
          segments_high = parts.1;
        }

pub one_some : (C : ℕ) → 1 ≤ one_level_buckets C
unfolding one_level_buckets
one_some C = omega arith

pub two_some : (C K : ℕ) → 1 ≤ two_level_buckets C K
unfolding two_level_buckets
two_some C K = omega arith

module _ {n m C K : ℕ} (S : Sized n m C K) where
  reached_few : most_reached n m ≤ 4096
  reached_few = omega (arith, S.few_nodes)

  pub one_small : {B : ℕ} → B ≡ one_level_buckets C → Small (most_reached n m) B m
  one_small f = record { few_nodes = reached_few; some = omega (arith, one_some C); few = omega (arith, one_level_most C); few_arcs = S.few_arcs }

  pub two_small : {B : ℕ} → B ≡ two_level_buckets C K → Small (most_reached n m) B m
  two_small f = record { few_nodes = reached_few; some = omega (arith, two_some C K); few = omega (arith, two_level_most C K); few_arcs = S.few_arcs }

pub small_same : {r r' B m : ℕ} → r ≡ r' → Small r' B m → Small r B m
small_same e S = rw e S

-- The bounds fit a word, with room to spare.
pub placements_fit : {r B m : ℕ} → Small r B m → r * (B - 1) + m + 1 ≤ 1048576
placements_fit {r} {B} {m} S = let most : r * (B - 1) ≤ 4096 * 21 = let less : B - 1 ≤ 21 = omega (arith, S.few) in mul-le-mul S.few_nodes less in omega (arith, S.few_arcs)

pub looks_fit : {r L : ℕ} → r ≤ 4096 → L ≤ 128 → r * L ≤ 1048576
looks_fit {r} {L} a b = let most : r * L ≤ 4096 * 128 = mul-le-mul a b in omega arith

pub reads_fit : {r B m p : ℕ} → Small r B m → p ≡ r * (B - 1) + m + 1 → r * (B - 1) + 2 * p ≤ 389122
reads_fit {r} {B} {m} {p} S e =
    let less : B - 1 ≤ 21 = omega (arith, S.few) in
    let most : r * (B - 1) ≤ 4096 * 21 = mul-le-mul S.few_nodes less in
    omega (arith, e, S.few_arcs)

pub operations_fit : {r B L m : ℕ} → Small r B m → L ≤ 128 → r * (4 * B + L - 4) + 3 * m + 3 ≤ 2097152
operations_fit {r} {B} {L} {m} S b =
    let less : 4 * B + L - 4 ≤ 212 = omega (arith, S.few) in
    let most : r * (4 * B + L - 4) ≤ 4096 * 212 = mul-le-mul S.few_nodes less in
    omega (arith, S.few_arcs)

-- ---- the text

pub bounds_whole : (word : List ℕ) (buckets decreases placements looks reads operations : ℕ)
    → ended word comma ++ ended (decimal buckets) comma ++ ended (decimal decreases) comma ++ ended (decimal placements) comma
    ++ ended (decimal looks) comma ++ render_line comma (reads ∷ operations ∷ [])
    ≡ bounds_line word buckets decreases placements looks reads operations
unfolding render_fields bounds_line
bounds_whole word buckets decreases placements looks reads operations = simp append_assoc

bounds_most : (word : List ℕ) (buckets decreases placements looks reads operations : ℕ)
    → length (bounds_line word buckets decreases placements looks reads operations) ≤ length word + 127
bounds_most word buckets decreases placements looks reads operations = omega (
  arith,
  ap length (bounds_whole word buckets decreases placements looks reads operations),
  length-append (ended word comma ++ ended (decimal buckets) comma ++ ended (decimal decreases) comma ++ ended (decimal placements) comma
      ++ ended (decimal looks) comma) (render_line comma (reads ∷ operations ∷ [])),
  length-append (ended word comma ++ ended (decimal buckets) comma ++ ended (decimal decreases) comma ++ ended (decimal placements) comma)
      (ended (decimal looks) comma),
  length-append (ended word comma ++ ended (decimal buckets) comma ++ ended (decimal decreases) comma) (ended (decimal placements) comma),
  length-append (ended word comma ++ ended (decimal buckets) comma) (ended (decimal decreases) comma),
  length-append (ended word comma) (ended (decimal buckets) comma),
  ended_length word comma,
  field_most buckets comma,
  field_most decreases comma,
  field_most placements comma,
  field_most looks comma,
  two_most reads operations,
)

pub heap_whole : (word : List ℕ) (n m B L : ℕ) {r placements looks reads operations : ℕ} → r ≡ most_reached n m
    → placements ≡ r * (B - 1) + m + 1 → looks ≡ r * L → reads ≡ r * (B - 1) + 2 * placements
    → operations ≡ r * (4 * B + L - 4) + 3 * m + 3
    → bounds_line word B m placements looks reads operations ≡ heap_bounds word n m B L
unfolding heap_bounds
heap_whole word n m B L r p l b o = rw (b, p, l, o, r) refl

pub heap_most : (word : List ℕ) (n m B L : ℕ) → length (heap_bounds word n m B L) ≤ length word + 127
unfolding heap_bounds
heap_most word n m B L = bounds_most word B _ _ _ _ _

pub size_whole : (n m C K : ℕ) {one two : ℕ} → one ≡ one_level_buckets C → two ≡ two_level_buckets C K
    → heap_bounds word_one n m one one ++ heap_bounds word_two n m two (two + K) ≡ size_text n m C K
unfolding size_text
size_whole n m C K o t = rw (o, t) refl

-- ---- the line

pub missing_text : (bytes : List ℕ) → line_taken (line comma 4 bytes) ≡ None → refused_text (fault_of PlanLine 1) ≡ budget_text bytes
unfolding budget_text budget_check
missing_text bytes e = rw (missing_line (line comma 4 bytes) e) refl

module _ (bytes size : List ℕ) {taken : ℕ} (e : line_taken (line comma 4 bytes) ≡ Some taken) (f : size ≡ fields_into (line_ends comma 4) bytes (0 ∷ 0 ∷ 0 ∷ 0 ∷ [])) where
  numbers_read : line comma 4 bytes ≡ Numbers size taken
  numbers_read = rw f (line_read comma 4 bytes (0 ∷ 0 ∷ 0 ∷ 0 ∷ []) (omega arith) refl e)

  pub line_inside : taken ≤ length bytes
  line_inside = line_within comma 4 (omega arith) bytes size taken numbers_read

  abbrev made : List Check
  made = budget_checks (get_or size 0 0) (get_or size 1 0) (get_or size 2 0) (get_or size 3 0) ++ (fault_if PlanLine 2 (ltb 0 (length bytes - taken)) ∷ [])

  check_made : first_fault made ≡ budget_check bytes
  unfolding budget_check
  check_made = rw (numbers_read, length-drop taken bytes) refl

  pub fault_text : {fault : Fault} → first_fault made ≡ Err fault → refused_text fault ≡ budget_text bytes
  unfolding budget_text
  fault_text g = rw (sym check_made ∙ g) refl

  pub passed_text : first_fault made ≡ Ok tt → size_text (get_or size 0 0) (get_or size 1 0) (get_or size 2 0) (get_or size 3 0) ≡ budget_text bytes
  unfolding budget_text
  passed_text g = rw (sym check_made ∙ g, numbers_read) refl

  pub passed_size : first_fault made ≡ Ok tt → first_fault (budget_checks (get_or size 0 0) (get_or size 1 0) (get_or size 2 0) (get_or size 3 0)) ≡ Ok tt
  passed_size g = (pass_parts (budget_checks (get_or size 0 0) (get_or size 1 0) (get_or size 2 0) (get_or size 3 0)) (fault_if PlanLine 2 (ltb 0 (length bytes - taken)) ∷ []) g).0
