-- What the lines behind the `p` line show where they pass their checks. Assumes nothing.
use Prim.Native.Nat.{ℕ, suc, ◌+◌, ◌-◌, ◌≤◌, ◌<◌}
use native.Mathlib.Omega.{arith}
use mathlib.Core.Path.{◌≡◌}
use mathlib.Core.List.{List, [], ◌∷◌}
use lib.Dec.{ltb, leb}
use lib.ListN.{length}
use borrow.Author.Tests.{ltb-false, leb-false}
use Rattle.std.specs.Prelude.{Option, Some, None, Ok}
use Rattle.model.specs.Answers.{Check}
use Rattle.model.specs.declared.Kind.{Kind}
use Rattle.model.specs.declared.Kind.TheVariants.{Head, Cost, Tail, RoadOrder}
use Rattle.theory.proofs.Cases.{differ}
use Rattle.check_numbers.specs.Numbers.{fault_if}
use Rattle.check_lists.proofs.Tests.{or_left, or_right}
use Rattle.checks.specs.Checks.{first_fault}
use Rattle.checks.proofs.Order.{AllPass, none, more, passed_all}
use Rattle.checks.proofs.Sizes.{passed_test}
use Rattle.grouping.proofs.All as all
use Rattle.grouping.proofs.Valid.{ArcsIn}
use Rattle.grouping.specs.Arcs.{PlanArc}
use Rattle.dimacs_lines.specs.declared.RoadLine.{RoadLine}
use Rattle.dimacs_lines.specs.declared.Told.{Told}
use Rattle.dimacs_lines.specs.declared.Told.TheVariants.{Comment, Problem, RoadArc}
use Rattle.dimacs_checks.specs.Checking.{outside, road_arc_checks, told_check, arcs_told, lines_check}
use Rattle.dimacs.specs.Roads.{arc_and_behind, line_arcs}
use Rattle.dimacs.specs.Filling.{ArcRanged, ToldRanged, Ranged}
use Rattle.dimacs.specs.Filling as ranged

-- ---- one arc

node_shown : (kind : Kind) (read n node : ℕ) → fault_if kind read (outside n node) ≡ Ok tt → (1 ≤ node) × (node ≤ n)
node_shown kind read n node e =
    let inside = passed_test kind read _ e in
    (ltb-false node 1 (or_left (ltb node 1) (ltb n node) inside), ltb-false n node (or_right (ltb node 1) (ltb n node) inside))

arc_shown : (n m C read line tail head cost : ℕ) → first_fault (fault_if RoadOrder line (leb m read) ∷ road_arc_checks n C read tail head cost) ≡ Ok tt
    → (read < m) × ArcRanged n C tail head cost
unfolding road_arc_checks
arc_shown n m C read line tail head cost passed = go (passed_all _ passed)
  where
    go : AllPass (fault_if RoadOrder line (leb m read) ∷ road_arc_checks n C read tail head cost) → (read < m) × ArcRanged n C tail head cost
    go (more by-19 (more by-12 (more by-7 (more by_8 none)))) =
        let tails = node_shown Tail read n tail by-12 in
        let heads = node_shown Head read n head by-7 in (
          leb-false m read (passed_test RoadOrder line _ by-19),
          record {
            tail_low = tails.0;
            tail_high = tails.1;
            head_low = heads.0;
            head_high = heads.1;
            cost_most = ltb-false C cost (passed_test Cost read _ by_8);
          },
        )

-- ---- one line

-- The line is in range, and its arcs are no more than m with those before.
told_shown : (n m C read line : ℕ) (told : Told) → read ≤ m → told_check n m C read line told ≡ Ok tt
    → ToldRanged n C told × (read + arcs_told told ≤ m)
told_shown n m C read line Comment few passed = (tt, omega (arith, few))
told_shown n m C read line (Problem nodes arcs) few passed = differ (cc)
told_shown n m C read line (RoadArc tail head cost) few passed =
    let arc = arc_shown n m C read line tail head cost passed in
    (arc.1, omega (arith, arc.0))

pub arcs_counted : (told : Told) (behind : List PlanArc) → length (arc_and_behind told behind) ≡ arcs_told told + length behind
arcs_counted Comment behind = omega arith
arcs_counted (Problem nodes arcs) behind = omega arith
arcs_counted (RoadArc tail head cost) behind = omega arith

told_in : {n C : ℕ} (told : Told) {behind : List PlanArc} → ToldRanged n C told → ArcsIn n C behind → ArcsIn n C (arc_and_behind told behind)
told_in Comment shown rest = rest
told_in (Problem nodes arcs) shown rest = rest
told_in (RoadArc tail head cost) shown rest =
    all.more {x = record { tail = tail - 1; head = head - 1; cost = cost }}
    (record {
      ends = record { tail_node = omega (arith, shown.tail_low, shown.tail_high); head_node = omega (arith, shown.head_low, shown.head_high) };
      cost_most = shown.cost_most;
    })
    rest

-- ---- all lines

-- Behind `read` arcs of m the lines tell the others, each in range.
pub record LinesShown (n m C read : ℕ) (lines : List (Option RoadLine)) : Type 0 where
  pub ranged : Ranged n C lines
  pub count : read + length (line_arcs lines) ≡ m

both_passed : {first rest : Check} → first_fault (first ∷ rest ∷ []) ≡ Ok tt → (first ≡ Ok tt) × (rest ≡ Ok tt)
both_passed {first} {rest} e = go (passed_all _ e)
  where
    go : AllPass (first ∷ rest ∷ []) → (first ≡ Ok tt) × (rest ≡ Ok tt)
    go (more f (more r none)) = (f, r)

pub lines_shown : (n m C read before : ℕ) (lines : List (Option RoadLine)) → read ≤ m → lines_check n m C read before lines ≡ Ok tt
    → LinesShown n m C read lines
unfolding lines_check line_arcs
lines_shown n m C read before [] few passed = record {
  ranged = ranged.none;
  count = omega (arith, ltb-false read m (passed_test RoadOrder before _ passed));
}
lines_shown n m C read before (None ∷ lines) few passed = let e = (both_passed passed).0 in differ (cc)
lines_shown n m C read before (Some line ∷ lines) few passed =
    let both = both_passed passed in
    let shown = told_shown n m C read (suc before) line.told few both.0 in
    let behind = lines_shown n m C (read + arcs_told line.told) (suc before) lines shown.1 both.1 in
    record {
      ranged = ranged.more shown.0 behind.ranged;
      count = omega (arith, behind.count, arcs_counted line.told (line_arcs lines));
    }

-- The arcs of such lines are those of a map.
pub arcs_in_lem : {n C : ℕ} {lines : List (Option RoadLine)} → Ranged n C lines → ArcsIn n C (line_arcs lines)
unfolding line_arcs
arcs_in_lem ranged.none = all.none
arcs_in_lem (ranged.more {line = line} shown rest) = told_in line.told shown (arcs_in_lem rest)
