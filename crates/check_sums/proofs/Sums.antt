-- What the check of sums says, and the arcs of a node in it: there the tail is the node. Assumes nothing.
use Prim.Native.Nat.{ℕ, suc, ◌+◌, ◌-◌, ◌≤◌, ◌<◌}
use native.Mathlib.Numerals.{add-one}
use native.Mathlib.Omega.{arith}
use mathlib.Core.Bool.{Bool}
use mathlib.Core.Logic.{inl, inr}
use mathlib.Core.Path.{◌≡◌, sym, ◌∙◌}
use mathlib.Core.List.{List}
use lib.Dec.{ltb}
use lib.ListN.{length, get_or}
use borrow.Author.Tests.{ltb-false, lt-ltb, le-ltb}
use Rattle.model.specs.Answers.{Check}
use Rattle.std.specs.Prelude.{Ok, Err}
use Rattle.model.specs.declared.Kind.TheVariants.{Cost}
use Rattle.model.specs.declared.Fault.{Fault}
use Rattle.theory.specs.Maps.{tail_of}
use Rattle.theory.proofs.Cases.{split}
use Rattle.theory.proofs.Maps.Arcs.{starts_mono, leaves_node}
use Rattle.theory.proofs.Maps.Tails.{tail_leaves, tail_is}
use Rattle.check_lists.specs.Lists.{least_fault, word_above, NoneAbove}
use Rattle.check_lists.proofs.Least.{each_passes, passed_each, part_passes, part_fails, none_left, same_tests}
use Rattle.check_sums.specs.Sums.{sum_fails, sums_check, Summable, Greatest}

-- ---- the check passes exactly if no sum is above C

module _ (C : ℕ) (paidAt : ℕ → ℕ) (costs holds : List ℕ) where
  pub passed_sums : sums_check C paidAt costs holds ≡ Ok tt → (a : ℕ) → a < length costs → get_or costs a 0 + get_or holds (paidAt a) 0 ≤ C
  unfolding sums_check
  passed_sums e a l = ltb-false C _ (passed_each _ (sum_fails C paidAt costs holds) (length costs) a e l)

  pub sums_pass : ((a : ℕ) → a < length costs → get_or costs a 0 + get_or holds (paidAt a) 0 ≤ C) → sums_check C paidAt costs holds ≡ Ok tt
  unfolding sums_check
  sums_pass h = each_passes _ (sum_fails C paidAt costs holds) (length costs) (λ a l. le-ltb C _ (h a l))

  -- no cost is above what the greatest hold leaves
  pub low_sums_pass : NoneAbove C holds → ((a : ℕ) → a < length costs → paidAt a < length holds) → {most : ℕ} → Greatest holds most
      → NoneAbove (C - most) costs → (Ok tt) ≡ sums_check C paidAt costs holds
  low_sums_pass holds_most held g low =
      sym (sums_pass (λ a l. omega (arith, low a l, g.none_above (paidAt a) (held a l), g.least C holds_most)))

-- ---- node by node

-- A cost above what a hold leaves of C, and a sum above C.
above_rest : (C hold cost : ℕ) → hold ≤ C → ltb (C - hold) cost ≡ ltb C (cost + hold)
above_rest C hold cost most = elim (split (C - hold) cost) [
  | inl l ↦ lt-ltb (C - hold) cost l ∙ sym (lt-ltb C (cost + hold) (omega arith))
  | inr l ↦ le-ltb (C - hold) cost l ∙ sym (le-ltb C (cost + hold) (omega arith))
]

-- The arcs from node v on decide.
abbrev pub FromNode : (n C : ℕ) → (starts costs holds : List ℕ) → (v : ℕ) → Type 0
FromNode n C starts costs holds v =
    sums_check C (tail_of n starts) costs holds
    ≡ least_fault Cost (sum_fails C (tail_of n starts) costs holds) (get_or starts v 0) (length costs - get_or starts v 0)

module _ {n C : ℕ} {starts costs holds : List ℕ} (s : Summable n C starts costs holds) where
  abbrev fails : ℕ → Bool
  fails a = sum_fails C (tail_of n starts) costs holds a

  pub start_most : (v : ℕ) → v ≤ n → get_or starts v 0 ≤ length costs
  start_most v l = omega (arith, starts_mono s.sound v n l (omega arith), s.sound.starts_last, s.sound.costs_length)

  pub hold_most : (v : ℕ) → v < n → get_or holds v 0 ≤ C
  hold_most v l = s.holds_most v (omega (arith, s.sound.holds_length))

  abbrev From : (v : ℕ) → Type 0
  From v = FromNode n C starts costs holds v

  pub from_first : From 0
  unfolding sums_check
  from_first =
      let first : get_or starts 0 0 ≡ 0 = s.sound.starts_first in
      let all : length costs - 0 ≡ length costs = omega arith in
      rw (first, all)

  pub from_none : From n → (Ok tt) ≡ sums_check C (tail_of n starts) costs holds
  from_none h = sym (h ∙ none_left _ fails (get_or starts n 0) (length costs) (omega (arith, s.sound.starts_last, s.sound.costs_length)))

  module _ (v : ℕ) (node : v < n) where
    rise : get_or starts v 0 ≤ get_or starts (v + 1) 0
    rise = rw add-one (s.sound.starts_rise v node)

    -- the arcs of the node, as the code tests them
    own : least_fault Cost (word_above (C - get_or holds v 0) costs) (get_or starts v 0) (get_or starts (v + 1) 0 - get_or starts v 0)
        ≡ least_fault Cost fails (get_or starts v 0) (get_or starts (v + 1) 0 - get_or starts v 0)
    own = same_tests _ (word_above (C - get_or holds v 0) costs) fails (get_or starts v 0) (get_or starts (v + 1) 0 - get_or starts v 0) each
      where
        each : (a : ℕ) → get_or starts v 0 ≤ a → a < get_or starts v 0 + (get_or starts (v + 1) 0 - get_or starts v 0)
            → word_above (C - get_or holds v 0) costs a ≡ fails a
        each a low high =
            let next : v + 1 ≡ suc v = add-one v in
            let end : a < get_or starts (v + 1) 0 = omega (arith, rise) in
            let tail : tail_of n starts a ≡ v = tail_is s.sound a v (low, rw next at end) in
            rw tail (above_rest C (get_or holds v 0) (get_or costs a 0) (hold_most v node))

    module _ {found : Check}
        (is : found ≡ least_fault Cost (word_above (C - get_or holds v 0) costs) (get_or starts v 0) (get_or starts (v + 1) 0 - get_or starts v 0)) where
      pub from_next : found ≡ Ok tt → From v → From (v + 1)
      from_next e h =
          h
          ∙ part_passes _ fails (get_or starts v 0) (get_or starts (v + 1) 0) (length costs) rise (start_most (v + 1) (omega arith))
          (sym own ∙ sym is ∙ e)

      pub from_found : {fault : Fault} → found ≡ Err fault → From v → found ≡ sums_check C (tail_of n starts) costs holds
      from_found e h =
          e
          ∙ sym (h
          ∙ part_fails _ fails (get_or starts v 0) (get_or starts (v + 1) 0) (length costs) rise (start_most (v + 1) (omega arith))
          (sym own ∙ sym is ∙ e))

  -- ---- all at once

  pub low_costs_pass : {most : ℕ} → Greatest holds most → NoneAbove (C - most) costs → (Ok tt) ≡ sums_check C (tail_of n starts) costs holds
  low_costs_pass = low_sums_pass C (tail_of n starts) costs holds s.holds_most held
    where
      held : (a : ℕ) → a < length costs → tail_of n starts a < length holds
      held a l =
          let tail = tail_of n starts a in
          let node : tail < n = leaves_node s.sound a tail (tail_leaves s.sound a (omega (arith, s.sound.costs_length))) in
          omega (arith, s.sound.holds_length)
