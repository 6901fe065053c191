-- A removal of a node at the current key.
use Prim.Native.Nat.{ℕ, ◌+◌, ◌-◌, ◌/◌, ◌≤◌, ◌<◌}
use native.Mathlib.Nat.{div-eq_of_lt, div-one, zero-div}
use native.Mathlib.Omega.{arith}
use mathlib.Core.Path.{◌≡◌, refl, sym, ◌∙◌, subst}
use mathlib.Core.Bool.{true, false}
use mathlib.Core.Logic.{inl, inr}
use mathlib.Core.List.{List}
use lib.ListN.{get_or, set}
use borrow.Author.Tests.{lt-ltb, le-ltb}
use Rattle.theory.specs.Shape.{Shape}
use Rattle.theory.specs.Heap.{Heap, bound, heap_remove}
use Rattle.theory.proofs.Cases.{split}
use Rattle.theory.specs.Lawful.{Lawful}
use Rattle.theory.specs.Invariants.{Fits, seg}
use Rattle.theory.proofs.Heap.Buckets.{late_range}
use Rattle.bounds.specs.Words.{bounds_of, size_of, segmented, segment_number, segment_looks, Agrees}
use Rattle.bounds.proofs.Segments.{number_inside, number_whole, end_inside, end_whole}
use Rattle.bounds.proofs.Agreement.{segment_some}
use Rattle.buckets.specs.Words.{places}
use Rattle.frontier.specs.Frontier.{Current, FirstCurrent}
use Rattle.state.specs.declared.Layout.{Layout}
use Rattle.state.specs.declared.State.{State}
use Rattle.state.specs.Stands.{Setting, Lists, Stands}
use Rattle.state.specs.Tallies.{looks, after_event}
use Rattle.state.proofs.Tallies.{same_tally}
use Rattle.state.proofs.Find.{sum_some, counted_word, word_current, current_least, current_fits}
use Rattle.state.proofs.Remove.{current_stands}
use Rattle.placing.specs.Placing.{lists}
use Rattle.removal.specs.Removing.{Rests, Removal}

-- A key of bucket 1 is as far below the bound as the number of its segment is below K, since a segment of bucket 1 is one key wide
-- (document 01, "Two-level heap").
module _ {sh : Shape} {C S B K : ℕ} {sizes : List ℕ} (law : Lawful sh C S) (agree : Agrees sh B K sizes) where
  cut : 1 < K → segmented B K 1 ≡ true
  cut l = rw (lt-ltb 1 K l, lt-ltb 1 B agree.sized.two)

  one_wide : 1 < K → 1 < sh.size 1 → size_of sizes 0 ≡ 1
  one_wide l wide = elim (split 1 (size_of sizes 0)) [
    | inl m ↦
        let none : 1 / size_of sizes 0 ≡ 0 = div-eq_of_lt m in
        let last : sh.segment 1 1 0 ≡ K = agree.segment 1 1 0 ∙ number_inside B K sizes 1 1 0 (cut l) ∙ rw none (omega arith) in
        let apart : K - K ≡ 0 = omega arith in
        let end : sh.end 1 1 K ≡ 1 = agree.end 1 1 K ∙ end_inside B K sizes 1 1 K (cut l) ∙ rw apart (omega arith) in
        let single : sh.end 1 1 K ≤ 0 = rw last at (law.single 1 0 (omega arith) (omega arith)) in
        absurd (omega arith)
    | inr m ↦ omega (arith, agree.sized.positive 0 (omega (arith, agree.sized.two)))
  ]

  first_number : (u x : ℕ) → x ≤ u → u < x + sh.size 1 → segment_number B K sizes 1 u x + (u - x) ≡ K
  first_number u x under near = elim (split 1 K) [
    | inl l ↦ elim (split x u) [
      | inl m ↦
          let number : segment_number B K sizes 1 u x ≡ K - (u - x) = number_inside B K sizes 1 u x (cut l) ∙ rw (one_wide l (omega arith), div-one) in
          omega (arith, segment_some agree law 1 u x (omega arith) under (λ h. near))
      | inr m ↦
          let none : u - x ≡ 0 = omega arith in
          let number : segment_number B K sizes 1 u x ≡ K = number_inside B K sizes 1 u x (cut l) ∙ rw (none, zero-div) (omega arith) in
          omega arith
    ]
    | inr l ↦
        let whole : segmented B K 1 ≡ false = rw (le-ltb 1 K l) in
        let end : sh.end 1 u (sh.segment 1 u x) ≡ u = agree.end 1 u (sh.segment 1 u x) ∙ end_whole B K sizes 1 u (sh.segment 1 u x) whole in
        omega (arith, number_whole B K sizes 1 u x whole, law.single u x under near, agree.some)
  ]

module _ {layout : Layout} {sizes : List ℕ} {X : Setting layout sizes} {before : List ℕ} {h : Heap} {l : Lists} {s : State} (R : Rests X before h l s) (some : 0 < s.current) where
  abbrev n : ℕ
  n = layout.nodes

  pub current_node : Current n l.words
  current_node =
      let r = sum_some n (λ v. Rattle.state.specs.Places.is_word 1 (get_or (places n l.words) v 0)) (omega (arith, R.stands.current)) in
      record { node = r.0; below = r.1; place = counted_word 1 (get_or (places n l.words) r.0 0) r.2 }

  front_fits : Fits X.shape h.bounds 1 s.front
  front_fits =
      let c = current_node in
      let r = word_current X R.stands R.resting.rest R.resting.inv c.node c.below c.place in
      current_fits X R.stands R.resting.rest R.resting.inv c.node r.0 r.1

  near : bound h.bounds 1 < s.front + X.shape.size 1
  near = late_range R.resting.inv.bounds front_fits (omega arith) (omega (arith, X.lawful.two))

  abbrev first_bound : ℕ
  first_bound = bound (bounds_of n l.words) 1

  bound_is : first_bound ≡ bound h.bounds 1
  bound_is = R.stands.bounds 1 (omega arith) (omega (arith, X.agrees.sized.two))

  abbrev number : ℕ
  number = segment_number layout.buckets layout.segments sizes 1 first_bound s.front

  pub under : s.front ≤ first_bound
  under = rw bound_is R.resting.inv.bounds.reach

  number_is : number + (first_bound - s.front) ≡ layout.segments
  number_is = first_number X.lawful X.agrees first_bound s.front under (rw bound_is near)

  pub within : first_bound - s.front < layout.segments
  within = omega (arith, number_is, segment_some X.agrees X.lawful 1 first_bound s.front (omega arith) under (λ below. rw bound_is near))

  pub segment_is : layout.segments - (first_bound - s.front) ≡ number
  segment_is = omega (arith, number_is)

  pub current_removal : {w' : List ℕ} {v : ℕ} → FirstCurrent n layout.slots layout.segments l.words w' v → {s' : State}
      → s'.front ≡ s.front → s'.current + 1 ≡ s.current → s'.reached ≡ s.reached + 1
      → {looked : ℕ} → s'.tally ≡ after_event (looks looked) s.tally → looked ≡ 1 + segment_looks layout.segments number
      → Removal X before h (lists w' l.distances l.parents (set l.roster s.reached v)) s' v
  current_removal {w'} {v} F {s'} f c q t k =
      let T = R.stands in
      let min = current_least X T R.resting.rest R.resting.inv F in
      record {
        bucket = 1;
        fit = rw f (current_fits X T R.resting.rest R.resting.inv v min.member min.key);
        least = rw f min;
        stands = subst (λ (d : ℕ). Stands layout X.shape before (heap_remove X.shape 1 (seg X.shape h.bounds 1 d) d v h) (lists w' l.distances l.parents (set l.roster s.reached v)) s') (sym f)
            (current_stands X T R.resting.rest R.resting.inv R.long F
            (record {
              front = f;
              reached = q;
              tally = t ∙ same_tally refl refl (omega arith) (rw k) (omega arith);
            }) c);
      }
