-- Lists by their items: what holds of each, keys that never fall, and a column of arcs. Assumes nothing.
use Prim.Native.Nat.{ℕ, zero, suc, ◌≤◌, ◌<◌}
use native.Mathlib.Omega.{arith}
use mathlib.Core.Path.{◌≡◌, sym, ◌∙◌, ap}
use mathlib.Core.List.{List, [], ◌∷◌, ◌++◌, map}
use lib.ListN.{length, get_or, length-map, get_or-map}
use lib.Seq.{ext_get_or}
use Rattle.theory.specs.Sums.{list_below}
use Rattle.theory.proofs.Sums.{length_list_below, get_d_list_below}
use Rattle.grouping.specs.Arcs.{PlanArc}
use Rattle.grouping.proofs.All.{All, none, more}
use Rattle.grouping.proofs.Order.{Rising}
use Rattle.grouping.proofs.Order as rising
use Rattle.plan_sums.proofs.Passed.{no_arc}

module _ {A : Type 0} where
  all_last : {P : A → Type 0} {items : List A} {x : A} → All P items → P x → All P (items ++ (x ∷ []))
  all_last none p = more p none
  all_last (more q rest) p = more q (all_last rest p)

  pub all_below : {P : A → Type 0} (count : ℕ) (each : ℕ → A) → ((i : ℕ) → i < count → P (each i)) → All P (list_below count each)
  all_below zero each holds = none
  all_below (suc count) each holds = all_last (all_below count each (λ i l. holds i (omega arith))) (holds count (omega arith))

  module _ (key : A → ℕ) (n : ℕ) where
    rises_last : {before : ℕ} {items : List A} (x : A) → Rising key n before items → All (λ y. key y ≤ key x) items → before ≤ key x → key x < n
        → Rising key n before (items ++ (x ∷ []))
    rises_last x rising.none none low node = rising.more low node rising.none
    rises_last x (rising.more h b rest) (more p all) low node = rising.more h b (rises_last x rest all p node)

    pub rises_below : (count : ℕ) (each : ℕ → A) → ((i j : ℕ) → i ≤ j → j < count → key (each i) ≤ key (each j)) → ((i : ℕ) → i < count → key (each i) < n)
        → Rising key n 0 (list_below count each)
    rises_below zero each never-falls nodes = rising.none
    rises_below (suc count) each never-falls nodes =
        rises_last (each count) (rises_below count each (λ i j l h. never-falls i j l (omega arith)) (λ i l. nodes i (omega arith)))
        (all_below count each (λ i l. never-falls i count (omega arith) (omega arith))) (omega arith) (nodes count (omega arith))

-- A column of the arcs is the list that it was taken from.
pub column_back : (column : PlanArc → ℕ) → column no_arc ≡ 0 → (words : List ℕ) (count : ℕ) (each : ℕ → PlanArc) → length words ≡ count
    → ((a : ℕ) → column (each a) ≡ get_or words a 0) → map column (list_below count each) ≡ words
column_back column zero-out words count each long same =
    ext_get_or 0 (map column (list_below count each)) words (length-map (list_below count each) column ∙ length_list_below count each ∙ sym long) at_each
  where
    at_each : (a : ℕ) → a < length (map column (list_below count each)) → get_or (map column (list_below count each)) a 0 ≡ get_or words a 0
    at_each a l =
        let within : a < count = omega (arith, length-map (list_below count each) column, length_list_below count each) in
        ap (λ (out : ℕ). get_or (map column (list_below count each)) a out) (sym zero-out)
        ∙ get_or-map column (list_below count each) a no_arc
        ∙ ap column (get_d_list_below count a each no_arc within)
        ∙ same a
