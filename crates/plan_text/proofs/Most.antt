-- How many bytes the lines of a planning file take at the most, and that lines one behind the other are rendered apart. Assumes nothing.
use Prim.Native.Nat.{ℕ, zero, suc, ◌+◌, ◌*◌, ◌≤◌, ◌<◌}
use native.Mathlib.Omega.{arith}
use mathlib.Core.Bool.{Bool, true, false, cond}
use mathlib.Core.Path.{◌≡◌, refl, sym, ◌∙◌, ap}
use mathlib.Core.List.{List, [], ◌∷◌, ◌++◌, append_assoc, append-nil}
use lib.ListN.{length, get_or, take, length-append}
use lib.Seq.{take-suc}
use Rattle.theory.specs.Sums.{list_below}
use Rattle.theory.specs.Maps.{Map, arcs, tail_of, Valid}
use Rattle.theory.proofs.Maps.Arcs.{leaves_node}
use Rattle.theory.proofs.Maps.Tails.{tail_leaves}
use Rattle.check_lists.specs.Lists.{NoneAbove}
use Rattle.fields.specs.Fields.{comma, decimal, render_fields, render_line}
use Rattle.fields.proofs.Parsing.{digits_below}
use Rattle.grouping.specs.Arcs.{PlanArc}
use Rattle.plan_text.specs.Rendering.{arc_numbers, render_arcs, render_holds, all_zero, header_fields}
use Rattle.plan_text.specs.Files.{arc_at}

-- ---- lines one behind the other

pub arcs_prefix : (first rest : List PlanArc) → render_arcs (first ++ rest) ≡ render_arcs first ++ render_arcs rest
unfolding render_arcs
arcs_prefix [] rest = refl
arcs_prefix (arc ∷ first) rest =
    ap (λ (lines : List ℕ). render_line comma (arc_numbers arc) ++ lines) (arcs_prefix first rest)
    ∙ sym (append_assoc (render_line comma (arc_numbers arc)) (render_arcs first) (render_arcs rest))

pub holds_prefix : (first rest : List ℕ) → render_holds (first ++ rest) ≡ render_holds first ++ render_holds rest
unfolding render_holds
holds_prefix [] rest = refl
holds_prefix (hold ∷ first) rest =
    ap (λ (lines : List ℕ). render_line comma (hold ∷ []) ++ lines) (holds_prefix first rest)
    ∙ sym (append_assoc (render_line comma (hold ∷ [])) (render_holds first) (render_holds rest))

-- One line more.
pub arc_lines_next : (a : ℕ) (each : ℕ → PlanArc)
    → render_arcs (list_below (suc a) each) ≡ render_arcs (list_below a each) ++ render_line comma (arc_numbers (each a))
unfolding render_arcs
arc_lines_next a each =
    arcs_prefix (list_below a each) (each a ∷ []) ∙ rw (append-nil (render_line comma (arc_numbers (each a))))

pub hold_lines_next : (v : ℕ) (holds : List ℕ) → v < length holds
    → render_holds (take (suc v) holds) ≡ render_holds (take v holds) ++ render_line comma (get_or holds v 0 ∷ [])
unfolding render_holds
hold_lines_next v holds l =
    ap render_holds (take-suc holds v 0 l) ∙ holds_prefix (take v holds) (get_or holds v 0 ∷ []) ∙ rw (append-nil (render_line comma (get_or holds v 0 ∷ [])))

-- ---- one line

-- The bytes of a field with the one that ends it.
field_bytes : (value : ℕ) (rest : List ℕ) (end : ℕ) → length (decimal value ++ (end ∷ rest)) ≡ length (decimal value) + 1 + length rest
field_bytes value rest end = length-append (decimal value) (end ∷ rest) ∙ omega arith

pub arc_line_most : (arc : PlanArc) → arc.tail < 4096 → arc.head < 4096 → arc.cost ≤ 1048575 → length (render_line comma (arc_numbers arc)) ≤ 18
unfolding render_fields
arc_line_most arc tail head cost =
    simp field_bytes
    (omega (
      arith,
      digits_below 19 3 arc.tail (omega arith),
      digits_below 19 3 arc.head (omega arith),
      digits_below 19 6 arc.cost (omega arith),
    ))

pub hold_line_most : (hold : ℕ) → hold ≤ 1048575 → length (render_line comma (hold ∷ [])) ≤ 8
unfolding render_fields
hold_line_most hold l = simp field_bytes (omega (arith, digits_below 19 6 hold (omega arith)))

module _ (n m C source K : ℕ) (few : n ≤ 4096) (arcs_few : m ≤ 65536) (low : C ≤ 1048575) (from : source < n) (high : K ≤ 64) where
  five_digits : length (decimal n) + length (decimal m) + length (decimal C) + length (decimal source) + length (decimal K) ≤ 22
  five_digits =
      omega (
        arith,
        digits_below 19 3 n (omega arith),
        digits_below 19 4 m (omega arith),
        digits_below 19 6 C (omega arith),
        digits_below 19 3 source (omega arith),
        digits_below 19 1 K (omega arith),
      )

  line_one_most : (plain : Bool) → length (render_line comma (n ∷ m ∷ C ∷ source ∷ K ∷ cond plain [] (1 ∷ []))) ≤ cond plain 27 29
  unfolding render_fields
  line_one_most true = simp field_bytes (omega (arith, five_digits))
  line_one_most false = simp field_bytes (omega (arith, five_digits, digits_below 19 0 1 (omega arith)))

  pub five_most : length (render_line comma (n ∷ m ∷ C ∷ source ∷ K ∷ [])) ≤ 27
  five_most = line_one_most true

  pub header_most : (holds : List ℕ) → length (render_line comma (header_fields n m C source K holds)) ≤ 29
  header_most holds = go (all_zero holds) (line_one_most (all_zero holds))
    where
      go : (plain : Bool) → {taken : ℕ} → taken ≤ cond plain 27 29 → taken ≤ 29
      go true l = omega arith
      go false l = l

-- ---- all lines

-- Arc a of a map.
abbrev pub map_arc : Map → (a : ℕ) → PlanArc
map_arc M a = arc_at M.nodes M.starts M.heads M.costs a

module _ {M : Map} {C source : ℕ} (valid : Valid M C source) where
  pub arc_most : (a : ℕ) → a < arcs M → length (render_line comma (arc_numbers (map_arc M a))) ≤ 18
  arc_most a l =
      let tail = tail_of M.nodes M.starts a in
      let leaves = tail_leaves valid.sound a l in
      arc_line_most (map_arc M a) (omega (arith, leaves_node valid.sound a tail leaves, valid.sound.few_nodes))
      (omega (arith, valid.sound.heads_nodes a l, valid.sound.few_nodes))
      (omega (arith, valid.sums_most a tail leaves, valid.low_ceiling))

  pub arcs_most : (a : ℕ) → a ≤ arcs M → length (render_arcs (list_below a (map_arc M))) ≤ 18 * a
  unfolding render_arcs
  arcs_most zero l = omega arith
  arcs_most (suc a) l =
      rw (arc_lines_next a (map_arc M), length-append (render_arcs (list_below a (map_arc M))) (render_line comma (arc_numbers (map_arc M a))))
      (omega (arith, arcs_most a (omega arith), arc_most a l))

pub hold_lines_most : (holds : List ℕ) → NoneAbove 1048575 holds → length (render_holds holds) ≤ 8 * length holds
unfolding render_holds
hold_lines_most [] most = omega arith
hold_lines_most (hold ∷ holds) most =
    rw (length-append (render_line comma (hold ∷ [])) (render_holds holds))
    (omega (arith, hold_line_most hold (most 0 (omega arith)), hold_lines_most holds (λ v l. most (suc v) (omega arith))))
