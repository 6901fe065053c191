-- What the lines of arcs that pass their checks show. Assumes nothing.
use mathlib.Core.Path.{◌≡◌, refl, ap}
use mathlib.Core.List.{List, [], ◌∷◌, ◌++◌}
use Prim.Native.Nat.{ℕ, zero, suc, ◌+◌, ◌≤◌, ◌<◌}
use native.Mathlib.Omega.{arith}
use lib.Dec.{ltb, leb}
use lib.ListN.{length, drop}
use borrow.Author.Tests.{ltb-false, leb-false}
use Rattle.std.specs.Prelude.{Ok, Err, Option, None, Some}
use Rattle.model.specs.Answers.{fault_of}
use Rattle.model.specs.declared.Kind.TheVariants.{PlanLine}
use Rattle.check_lists.proofs.Tests.{or_left, or_right}
use Rattle.checks.proofs.Order.{AllPass, none, more, passed_all}
use Rattle.checks.proofs.Sizes.{passed_test}
use Rattle.grouping.specs.Arcs.{PlanArc, tail_key}
use Rattle.grouping.proofs.All as every
use Rattle.grouping.proofs.Order.{Rising}
use Rattle.grouping.proofs.Order as rising
use Rattle.grouping.proofs.Valid.{ArcsIn}
use Rattle.plan_lines.specs.declared.ArcLine.{ArcLine}
use Rattle.plan_lines.specs.Lines.{arc_line}
use Rattle.plan_checks.specs.Checking.{arc_checks, arcs_check}
use Rattle.plan_lines.specs.Told.{lines_arcs}
use Rattle.plan_lines.proofs.Counted.{arcs_next}

-- ---- one line

pub record LineShown (n C left i before : ℕ) (bytes : List ℕ) (tail head cost taken : ℕ) : Type 0 where
  pub tail_not_below : before ≤ tail
  pub tail_node : tail < n
  pub head_node : head < n
  pub cost_most : cost ≤ C
  pub behind : arcs_check n C left (suc i) tail (drop taken bytes) ≡ Ok tt

module _ (n C left i before : ℕ) (bytes : List ℕ) (passed : arcs_check n C (suc left) i before bytes ≡ Ok tt) where
  pub line_there : arc_line bytes ≡ None → ⊥
  unfolding arcs_check
  line_there e =
      let fault : Err (fault_of PlanLine (i + 2)) ≡ Ok tt = rw e at passed in
      let z : ◌≡◌ {A = ℕ} 0 1 = cc in
      omega arith

  module _ {tail head cost taken : ℕ} (e : arc_line bytes ≡ Some (record { tail = tail; head = head; cost = cost; taken = taken })) where
    pub line_shown : LineShown n C left i before bytes tail head cost taken
    unfolding arcs_check arc_checks
    line_shown = go (passed_all _ (rw e at passed))
      where
        go : AllPass (arc_checks n C i before tail head cost ++ (arcs_check n C left (suc i) tail (drop taken bytes) ∷ []))
            → LineShown n C left i before bytes tail head cost taken
        go (more t (more h (more c (more rest none)))) = record {
          tail_not_below = ltb-false tail before (or_left (ltb tail before) (leb n tail) (passed_test _ i _ t));
          tail_node = leb-false n tail (or_right (ltb tail before) (leb n tail) (passed_test _ i _ t));
          head_node = leb-false n head (passed_test _ i _ h);
          cost_most = ltb-false C cost (passed_test _ i _ c);
          behind = rest;
        }

-- ---- all lines

pub record ArcsShown (n C left before : ℕ) (arcs : List PlanArc) : Type 0 where
  pub count : length arcs ≡ left
  pub rising : Rising tail_key n before arcs
  pub ranged : ArcsIn n C arcs

pub arcs_shown : (n C left i before : ℕ) (bytes : List ℕ) → arcs_check n C left i before bytes ≡ Ok tt
    → ArcsShown n C left before (lines_arcs left bytes)
unfolding lines_arcs
arcs_shown n C zero i before bytes passed = record { count = refl; rising = rising.none; ranged = every.none }
arcs_shown n C (suc left) i before bytes passed = go (arc_line bytes) refl (λ at tail. arcs_shown n C left (suc i) tail (drop at bytes))
  where
    go : (line : Option ArcLine) → arc_line bytes ≡ line
        → ((at tail : ℕ) → arcs_check n C left (suc i) tail (drop at bytes) ≡ Ok tt → ArcsShown n C left tail (lines_arcs left (drop at bytes)))
        → ArcsShown n C (suc left) before (lines_arcs (suc left) bytes)
    go None e rest = absurd (line_there n C left i before bytes passed e)
    go (Some line) e rest =
        let shown = line_shown n C left i before bytes passed e in
        let behind = rest line.taken line.tail shown.behind in
        rw (arcs_next left bytes e)
        (record {
          count = ap suc behind.count;
          rising = rising.more shown.tail_not_below shown.tail_node behind.rising;
          ranged =
              every.more (record { ends = record { tail_node = shown.tail_node; head_node = shown.head_node }; cost_most = shown.cost_most }) behind.ranged;
        })
