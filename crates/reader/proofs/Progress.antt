-- How far the second pass has come: the arcs read, and what the lists hold of them. Assumes nothing.
use mathlib.Core.Path.{◌≡◌, refl, sym, ◌∙◌, ap, ap₂}
use mathlib.Core.List.{List, [], ◌∷◌, ◌++◌, map, map-append, append_assoc, append-nil}
use Prim.Native.Nat.{ℕ, suc, ◌+◌, ◌-◌, ◌≤◌, ◌<◌}
use native.Mathlib.Nat.{sub-zero}
use native.Mathlib.Numerals.{add-one}
use native.Mathlib.Omega.{arith}
use lib.ListN.{length, take, drop, set, replicate, length-append, length-map, length-drop}
use lib.Seq.{take_at, drop-append-add, drop-drop}
use Rattle.std.specs.Prelude.{Ok, None, Some}
use Rattle.model.specs.Answers.{words_after}
use Rattle.grouping.specs.Groups.{keys_below, starts_from}
use Rattle.grouping.specs.Arcs.{PlanArc, tail_key, tails_below, numbered}
use Rattle.grouping.specs.Filled.{Filled}
use Rattle.grouping.proofs.Groups.{below_append, below_one}
use Rattle.grouping.proofs.Starts.{starts_length, starts_split, starts_same}
use Rattle.grouping.proofs.Order.{Rising, more, none_below, in_order}
use Rattle.plan_lines.specs.Lines.{arc_line}
use Rattle.plan_lines.specs.Told.{lines_arcs}
use Rattle.plan_lines.proofs.Reach.{Reached, reached_start, reached_next}
use Rattle.plan_lines.proofs.Fields.{arc_line_lem}
use Rattle.plan_checks.specs.Checking.{arcs_check}
use Rattle.plan_lines.proofs.Counted.{arcs_next}
use Rattle.plan_checks.proofs.Shown.{LineShown, line_there, line_shown, arcs_shown}
use Rattle.reader.specs.Filling.{Fillable, between}
use Rattle.reader.proofs.Lists.{filled_next, filled_length, filled_end}

-- ---- a column of the arcs, as heads and costs are

module _ (f : PlanArc → ℕ) (done : List PlanArc) (words₀ words : List ℕ) (i : ℕ) (e : length done ≡ i)
    (so : words ≡ map f done ++ drop i words₀) where
  long : length (map f done) ≡ i
  long = length-map done f ∙ e

  column_next : (arc : PlanArc) → i < length words₀ → set words i (f arc) ≡ map f (done ++ (arc ∷ [])) ++ drop (suc i) words₀
  column_next arc l =
      filled_next (map f done) words₀ words i long so (f arc) l
      ∙ ap (λ (filled : List ℕ). filled ++ drop (suc i) words₀) (sym (map-append f done (arc ∷ [])))

  column_length : i ≤ length words₀ → length words ≡ length words₀
  column_length l = filled_length (map f done) words₀ words i long so l

  column_end : (arcs : List PlanArc) → arcs ≡ done → words ≡ words_after (Ok tt) (map f arcs) words₀
  column_end arcs same = filled_end (map f done) words₀ words i long so (map f arcs) (ap (map f) same)

-- ---- the starts

module _ (arcs : List PlanArc) (words₀ words : List ℕ) (next end word : ℕ) (l : next ≤ end)
    (so : words ≡ starts_from tail_key 0 next arcs ++ drop next words₀) where
  -- the starts between two nodes are all the same word
  starts_next : ((v : ℕ) → next ≤ v → v < end → tails_below v arcs ≡ word)
      → between words next end word ≡ starts_from tail_key 0 end arcs ++ drop end words₀
  starts_next same =
      let filled = starts_from tail_key 0 next arcs in
      let long : length filled + (end - next) ≡ end = omega (arith, starts_length tail_key 0 next arcs) in
      let more : next + (end - next) ≡ end = omega arith in
      let from : 0 + next ≡ next = omega arith in
      let front : take next words ≡ filled = ap (take next) so ∙ take_at filled (drop next words₀) next (starts_length tail_key 0 next arcs) in
      let past : drop end words ≡ drop end words₀ =
      ap (drop end) so
      ∙ rw long at (drop-append-add filled (drop next words₀) (end - next))
      ∙ drop-drop (end - next) next words₀
      ∙ ap (λ (i : ℕ). drop i words₀) more in
      let equal : starts_from tail_key next (end - next) arcs ≡ replicate (end - next) word =
      starts_same tail_key next (end - next) word arcs (λ v h b. same v h (omega arith)) in
      let whole : starts_from tail_key 0 end arcs ≡ filled ++ replicate (end - next) word =
      rw (more, from, equal) at (starts_split tail_key 0 next (end - next) arcs) in
      ap₂ (λ (first rest : List ℕ). first ++ (replicate (end - next) word ++ rest)) front past
      ∙ sym (append_assoc filled (replicate (end - next) word) (drop end words₀))
      ∙ ap (λ (starts : List ℕ). starts ++ drop end words₀) (sym whole)

  starts_long : next ≤ length words₀ → length words ≡ length words₀
  starts_long h = ap length so ∙ simp (length-append, length-drop) (omega (arith, starts_length tail_key 0 next arcs))

-- ---- the invariant

abbrev read_arc : (tail head cost : ℕ) → PlanArc
read_arc tail head cost = record { tail = tail; head = head; cost = cost }

pub record Progress (n m : ℕ) (bytes : List ℕ) (from : ℕ) (starts₀ heads₀ costs₀ starts heads costs : List ℕ) (at next i : ℕ) : Type 0 where
  pub given : Fillable n m bytes from starts₀ heads₀ costs₀
  pub before : ℕ
  pub done : List PlanArc
  pub reached : Reached 3 m bytes from at i
  pub passed : arcs_check n given.ceiling (m - i) i before (drop at bytes) ≡ Ok tt
  pub all : lines_arcs m (drop from bytes) ≡ done ++ lines_arcs (m - i) (drop at bytes)
  pub count : length done ≡ i
  pub next_low : next ≤ suc before
  pub next_fits : next ≤ n
  pub done_below : (v : ℕ) → next ≤ v → tails_below v done ≡ i
  pub starts_so : starts ≡ starts_from tail_key 0 next (lines_arcs m (drop from bytes)) ++ drop next starts₀
  pub heads_so : heads ≡ map (λ (arc : PlanArc). arc.head) done ++ drop i heads₀
  pub costs_so : costs ≡ map (λ (arc : PlanArc). arc.cost) done ++ drop i costs₀

module _ {n m : ℕ} {bytes : List ℕ} {from : ℕ} {starts heads costs : List ℕ} where
  pub progress_start : Fillable n m bytes from starts heads costs → Progress n m bytes from starts heads costs starts heads costs from 0 0
  unfolding starts_from keys_below
  progress_start f = record {
    given = f;
    before = 0;
    done = [];
    reached = reached_start 3 m bytes from f.within;
    passed = rw sub-zero f.passed;
    all = rw sub-zero;
    count = refl;
    next_low = omega arith;
    next_fits = omega arith;
    done_below = λ v l. refl;
    starts_so = refl;
    heads_so = refl;
    costs_so = refl;
  }

module _ {n m : ℕ} {bytes : List ℕ} {from : ℕ} {starts₀ heads₀ costs₀ starts heads costs : List ℕ} {at next i : ℕ}
    (p : Progress n m bytes from starts₀ heads₀ costs₀ starts heads costs at next i) where
  pub starts_same_length : length starts ≡ length starts₀
  starts_same_length = starts_long _ starts₀ starts next next 0 (omega arith) p.starts_so (omega (arith, p.next_fits, p.given.starts_fit))

  pub heads_same_length : length heads ≡ length heads₀
  heads_same_length = column_length _ p.done heads₀ heads i p.count p.heads_so (omega (arith, p.reached.few, p.given.heads_fit))

  pub costs_same_length : length costs ≡ length costs₀
  costs_same_length = column_length _ p.done costs₀ costs i p.count p.costs_so (omega (arith, p.reached.few, p.given.costs_fit))

  -- the line of arc i
  module _ (l : i < m) where
    left : m - i ≡ suc (m - suc i)
    left = omega arith

    line_passed : arcs_check n p.given.ceiling (suc (m - suc i)) i p.before (drop at bytes) ≡ Ok tt
    line_passed = rw left at p.passed

    pub line_read : arc_line (drop at bytes) ≡ None → ⊥
    line_read e = line_there n p.given.ceiling (m - suc i) i p.before (drop at bytes) line_passed e

    module _ {tail head cost taken : ℕ} (e : arc_line (drop at bytes) ≡ Some (record { tail = tail; head = head; cost = cost; taken = taken })) where
      pub shown : LineShown n p.given.ceiling (m - suc i) i p.before (drop at bytes) tail head cost taken
      shown = line_shown n p.given.ceiling (m - suc i) i p.before (drop at bytes) line_passed e

      pub next_not_past : next ≤ tail + 1
      next_not_past = omega (arith, p.next_low, shown.tail_not_below)

      behind : lines_arcs m (drop from bytes) ≡ p.done ++ (read_arc tail head cost ∷ lines_arcs (m - suc i) (drop taken (drop at bytes)))
      behind =
          p.all
          ∙ ap (λ (rest : List PlanArc). p.done ++ rest)
          (ap (λ (count : ℕ). lines_arcs count (drop at bytes)) left
          ∙ arcs_next (m - suc i) (drop at bytes) e)

      -- the nodes up to the tail have no arc from arc i on
      equal_starts : (v : ℕ) → next ≤ v → v < tail + 1 → tails_below v (lines_arcs m (drop from bytes)) ≡ i
      equal_starts v h b =
          let rest = lines_arcs (m - suc i) (drop taken (drop at bytes)) in
          let low : tail ≤ tail = omega arith in
          let rising : Rising tail_key n tail (read_arc tail head cost ∷ rest) =
          more low shown.tail_node (arcs_shown n p.given.ceiling (m - suc i) (suc i) tail (drop taken (drop at bytes)) shown.behind).rising in
          ap (tails_below v) behind
          ∙ below_append tail_key v p.done (read_arc tail head cost ∷ rest)
          ∙ omega (arith, p.done_below v h, none_below v (read_arc tail head cost ∷ rest) rising (omega arith))

      pub progress_next : Progress n m bytes from starts₀ heads₀ costs₀ (between starts next (tail + 1) i) (set heads i head) (set costs i cost)
          (at + taken) (tail + 1) (i + 1)
      progress_next =
          let arc = read_arc tail head cost in
          let place : drop taken (drop at bytes) ≡ drop (at + taken) bytes = drop-drop taken at bytes in
          rw (add-one i)
          (record {
            given = p.given;
            before = tail;
            done = p.done ++ (arc ∷ []);
            reached = rw (add-one i) at (reached_next p.reached l (arc_line_lem (drop at bytes) e));
            passed = rw place at shown.behind;
            all = rw place at (behind ∙ sym (append_assoc p.done (arc ∷ []) (lines_arcs (m - suc i) (drop taken (drop at bytes)))));
            count = length-append p.done (arc ∷ []) ∙ omega (arith, p.count);
            next_low = omega arith;
            next_fits = omega (arith, shown.tail_node);
            done_below = λ v h.
                below_append tail_key v p.done (arc ∷ [])
                ∙ omega (arith, p.done_below v (omega (arith, next_not_past)), below_one tail_key v arc (omega arith));
            starts_so = starts_next (lines_arcs m (drop from bytes)) starts₀ starts next (tail + 1) i next_not_past p.starts_so equal_starts;
            heads_so = column_next (λ (arc : PlanArc). arc.head) p.done heads₀ heads i p.count p.heads_so arc (omega (arith, p.given.heads_fit));
            costs_so = column_next (λ (arc : PlanArc). arc.cost) p.done costs₀ costs i p.count p.costs_so arc (omega (arith, p.given.costs_fit));
          })

  pub progress_end : m ≤ i → Filled n (lines_arcs m (drop from bytes)) starts₀ heads₀ costs₀ (between starts next (n + 1) m) heads costs
  unfolding lines_arcs
  progress_end l =
      let arcs = lines_arcs m (drop from bytes) in
      let none_left : m - i ≡ 0 = omega arith in
      let last : i ≡ m = omega (arith, p.reached.few) in
      let all : arcs ≡ p.done = rw none_left at p.all ∙ append-nil p.done in
      let below : (v : ℕ) → next ≤ v → v < n + 1 → tails_below v arcs ≡ m = λ v h b. ap (tails_below v) all ∙ p.done_below v h ∙ last in
      let ordered : numbered n arcs ≡ arcs = in_order arcs (arcs_shown n p.given.ceiling m 0 0 (drop from bytes) p.given.passed).rising in
      record {
        starts_filled =
            starts_next arcs starts₀ starts next (n + 1) m (omega (arith, p.next_fits)) p.starts_so below
            ∙ rw (add-one n, starts_length tail_key 0 (suc n) arcs);
        heads_filled = column_end (λ (arc : PlanArc). arc.head) p.done heads₀ heads i p.count p.heads_so (numbered n arcs) (ordered ∙ all);
        costs_filled = column_end (λ (arc : PlanArc). arc.cost) p.done costs₀ costs i p.count p.costs_so (numbered n arcs) (ordered ∙ all);
      }
