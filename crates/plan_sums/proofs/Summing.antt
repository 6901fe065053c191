-- How far the check of sums has come: the arcs left decide, and the place among the holds is that of a node not past the next tail.
-- Assumes nothing.
use Prim.Native.Nat.{ℕ, suc, ◌+◌, ◌-◌, ◌≤◌, ◌<◌}
use native.Mathlib.Nat.{add-zero, sub-zero}
use native.Mathlib.Numerals.{add-one}
use native.Mathlib.Omega.{arith}
use mathlib.Core.Bool.{Bool}
use mathlib.Core.Path.{◌≡◌, sym, ◌∙◌, ap, ap₂}
use mathlib.Core.List.{List, ◌∷◌, map}
use lib.ListN.{length, get_or, drop, length-map, length-drop, get_or-map}
use lib.Seq.{get_or-drop, drop-drop}
use borrow.Author.Tests.{lt-ltb, le-ltb}
use Rattle.std.specs.Prelude.{Ok, Err, None, Some}
use Rattle.model.specs.Answers.{fault_of}
use Rattle.model.specs.declared.Kind.TheVariants.{Cost}
use Rattle.check_lists.specs.Lists.{least_fault}
use Rattle.check_lists.proofs.Least.{none_left, fails_here, passes_here}
use Rattle.check_sums.specs.Sums.{sum_fails, sums_check}
use Rattle.grouping.specs.Arcs.{PlanArc, tail_key}
use Rattle.plan_lines.specs.Lines.{arc_line, hold_line}
use Rattle.plan_lines.specs.Told.{lines_taken, lines_arcs, lines_holds}
use Rattle.plan_lines.proofs.Reach.{next_within, taken_within}
use Rattle.plan_lines.proofs.Fields.{arc_line_lem}
use Rattle.plan_lines.proofs.Counted.{arc_there, arcs_next, hold_there, holds_next, holds_behind}
use Rattle.plan_sums.specs.Sums.{arc_tails, arc_sums_check, SumLines}
use Rattle.plan_sums.proofs.Passed.{cost_key, no_arc}

-- ---- the item in front of those that are left

module _ {A : Type 0} (items : List A) (i : ℕ) {x : A} {rest : List A} (e : drop i items ≡ x ∷ rest) where
  front_is : (d : A) → get_or items i d ≡ x
  front_is d = rw add-zero at (sym (get_or-drop i items 0 d)) ∙ ap (λ (left : List A). get_or left 0 d) e

  behind_front : drop (suc i) items ≡ rest
  behind_front = rw add-one at (sym (drop-drop 1 i items)) ∙ ap (drop 1) e

-- ---- the invariant

-- Arc i fails number 8.
abbrev arc_fails : (C : ℕ) → List PlanArc → (holds : List ℕ) → (i : ℕ) → Bool
arc_fails C arcs holds i = sum_fails C (λ a. get_or (arc_tails arcs) a 0) (map cost_key arcs) holds i

pub record Summing (n m C : ℕ) (bytes : List ℕ) (at behind line hold_line_lem node i : ℕ) : Type 0 where
  pub given : SumLines n m C bytes at behind
  pub within : line ≤ length bytes
  pub hold_within : hold_line_lem ≤ length bytes
  pub few : i ≤ m
  pub node_low : i < m → node ≤ get_or (arc_tails (lines_arcs m (drop at bytes))) i 0
  pub arcs_left : drop i (lines_arcs m (drop at bytes)) ≡ lines_arcs (m - i) (drop line bytes)
  pub holds_left : drop node (lines_holds n (drop behind bytes)) ≡ lines_holds (n - node) (drop hold_line_lem bytes)
  pub so_far : arc_sums_check C (lines_arcs m (drop at bytes)) (lines_holds n (drop behind bytes))
      ≡ least_fault Cost (arc_fails C (lines_arcs m (drop at bytes)) (lines_holds n (drop behind bytes))) i (m - i)

pub summing_start : {n m C : ℕ} {bytes : List ℕ} {at behind : ℕ} → SumLines n m C bytes at behind → Summing n m C bytes at behind at behind 0 0
unfolding sums_check
summing_start {n} {m} {C} {bytes} {at} {behind} s =
    let arcs = lines_arcs m (drop at bytes) in
    let all : length (map cost_key arcs) ≡ m = length-map arcs cost_key ∙ s.arcs_count in
    record {
      given = s;
      within = s.within;
      hold_within = s.holds_within;
      few = omega arith;
      node_low = λ l. omega arith;
      arcs_left = rw sub-zero;
      holds_left = rw sub-zero;
      so_far = rw (all, sub-zero);
    }

module _ {n m C : ℕ} {bytes : List ℕ} {at behind line hold_line_lem node i : ℕ} (p : Summing n m C bytes at behind line hold_line_lem node i) where
  abbrev all_arcs : List PlanArc
  all_arcs = lines_arcs m (drop at bytes)

  abbrev all_holds : List ℕ
  all_holds = lines_holds n (drop behind bytes)

  pub summing_end : m ≤ i → (Ok tt) ≡ arc_sums_check C all_arcs all_holds
  summing_end l = sym (p.so_far ∙ none_left _ (arc_fails C all_arcs all_holds) i m l)

  module _ (l : i < m) where
    -- ---- the line of arc i

    here : drop i all_arcs ≡ lines_arcs (suc (m - suc i)) (drop line bytes)
    here = let left : m - i ≡ suc (m - suc i) = omega arith in rw left at p.arcs_left

    pub arc_missing : arc_line (drop line bytes) ≡ None → ⊥
    arc_missing e =
        arc_there (m - suc i) (drop line bytes) (ap length (sym here) ∙ length-drop i all_arcs ∙ omega (arith, p.given.arcs_count)) e

    module _ {tail head cost taken : ℕ} (e : arc_line (drop line bytes) ≡ Some (record { tail = tail; head = head; cost = cost; taken = taken })) where
      arcs_here : drop i all_arcs ≡ record { tail = tail; head = head; cost = cost } ∷ lines_arcs (m - suc i) (drop taken (drop line bytes))
      arcs_here = here ∙ arcs_next (m - suc i) (drop line bytes) e

      tail_is : get_or (arc_tails all_arcs) i 0 ≡ tail
      tail_is = get_or-map tail_key all_arcs i no_arc ∙ ap tail_key (front_is all_arcs i arcs_here no_arc)

      cost_is : get_or (map cost_key all_arcs) i 0 ≡ cost
      cost_is = get_or-map cost_key all_arcs i no_arc ∙ ap cost_key (front_is all_arcs i arcs_here no_arc)

      pub tail_low : node ≤ tail
      tail_low = omega (arith, p.node_low l, tail_is)

      tail_node : tail < n
      tail_node = omega (arith, p.given.tails_nodes i l, tail_is)

      -- ---- the line of its tail's hold

      module _ {skipped : ℕ} (skip : skipped ≡ lines_taken 1 (tail - node) (drop hold_line_lem bytes)) where
        pub place_within : hold_line_lem + skipped ≤ length bytes
        place_within = omega (arith, skip, p.hold_within, taken_within 1 (tail - node) (drop hold_line_lem bytes), length-drop hold_line_lem bytes)

        holds_here : drop tail all_holds ≡ lines_holds (n - tail) (drop (hold_line_lem + skipped) bytes)
        holds_here =
            let up : node + (tail - node) ≡ tail = omega (arith, tail_low) in
            let left : n - node - (tail - node) ≡ n - tail = omega (arith, tail_low) in
            let long : length (lines_holds (n - node) (drop hold_line_lem bytes)) ≡ n - node =
            ap length (sym p.holds_left) ∙ length-drop node all_holds ∙ omega (arith, p.given.holds_count) in
            ap (λ (k : ℕ). drop k all_holds) (sym up)
            ∙ sym (drop-drop (tail - node) node all_holds)
            ∙ ap (drop (tail - node)) p.holds_left
            ∙ holds_behind (tail - node) (n - node) (drop hold_line_lem bytes) long (omega (arith, tail_node))
            ∙ ap₂ lines_holds left (drop-drop (lines_taken 1 (tail - node) (drop hold_line_lem bytes)) hold_line_lem bytes)
            ∙ ap (λ (taken : ℕ). lines_holds (n - tail) (drop (hold_line_lem + taken) bytes)) (sym skip)

        hold_here : drop tail all_holds ≡ lines_holds (suc (n - suc tail)) (drop (hold_line_lem + skipped) bytes)
        hold_here = let left : n - tail ≡ suc (n - suc tail) = omega (arith, tail_node) in rw left at holds_here

        pub hold_missing : hold_line (drop (hold_line_lem + skipped) bytes) ≡ None → ⊥
        hold_missing h =
            hold_there (n - suc tail) (drop (hold_line_lem + skipped) bytes)
            (ap length (sym hold_here) ∙ length-drop tail all_holds ∙ omega (arith, p.given.holds_count, tail_node)) h

        module _ {hold hold-taken : ℕ} (h : hold_line (drop (hold_line_lem + skipped) bytes) ≡ Some (record { hold = hold; taken = hold-taken })) where
          hold_is : get_or all_holds tail 0 ≡ hold
          hold_is = front_is all_holds tail (hold_here ∙ holds_next (n - suc tail) (drop (hold_line_lem + skipped) bytes) h) 0

          pub hold_most : hold ≤ C
          hold_most = omega (arith, p.given.holds_most tail (omega (arith, p.given.holds_count, tail_node)), hold_is)

          -- ---- what the two come to

          sum_is : get_or (map cost_key all_arcs) i 0 + get_or all_holds (get_or (arc_tails all_arcs) i 0) 0 ≡ cost + hold
          sum_is = ap₂ (λ (a b : ℕ). a + b) cost_is (ap (λ (v : ℕ). get_or all_holds v 0) tail_is ∙ hold_is)

          pub sum_above : C - hold < cost → Err (fault_of Cost i) ≡ arc_sums_check C all_arcs all_holds
          sum_above above =
              sym (p.so_far ∙ fails_here _ (arc_fails C all_arcs all_holds) i m l (lt-ltb C _ (omega (arith, hold_most, sum_is))))

          pub summing_next : cost ≤ C - hold → Summing n m C bytes at behind (line + taken) (hold_line_lem + skipped) tail (i + 1)
          summing_next low =
              let before : i + 1 - 1 ≡ i = omega arith in
              record {
                given = p.given;
                within = next_within bytes line p.within (arc_line_lem (drop line bytes) e);
                hold_within = place_within;
                few = omega arith;
                node_low = λ more.
                    omega (
                      arith,
                      tail_is,
                      rw before at (p.given.tails_rise (i + 1) (omega (arith, length-map all_arcs tail_key, p.given.arcs_count)) (omega arith)),
                    );
                arcs_left =
                    rw (add-one i) (behind_front all_arcs i arcs_here ∙ ap (lines_arcs (m - suc i)) (drop-drop taken line bytes));
                holds_left = holds_here;
                so_far = p.so_far ∙ passes_here _ (arc_fails C all_arcs all_holds) i m l (le-ltb C _ (omega (arith, hold_most, sum_is)));
              }
