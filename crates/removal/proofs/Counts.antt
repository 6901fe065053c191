-- The numbers of a heap between two removals are small.
use Prim.Native.Nat.{ℕ, ◌+◌, ◌-◌, ◌*◌, ◌≤◌, ◌<◌}
use native.Mathlib.Omega.{arith}
use native.Mathlib.Nat.{mul-le-mul_left}
use mathlib.Core.Path.{◌≡◌, ◌∙◌, ap}
use mathlib.Core.Logic.{inl, inr}
use mathlib.Core.List.{List}
use borrow.Author.Tests.{lt-ltb, le-ltb}
use lib.ListN.{length, drop, length-append, length-drop}
use Rattle.theory.specs.Heap.{Heap}
use Rattle.theory.proofs.Cases.{split}
use Rattle.theory.proofs.Search.Invariant.{scans_fewer}
use Rattle.theory.proofs.Search.Counts.{updates_few}
use Rattle.theory.proofs.Heap.Count.{shifts_low, reads_low}
use Rattle.state.specs.declared.Layout.{Layout}
use Rattle.state.specs.declared.State.{State}
use Rattle.state.specs.Stands.{Setting, Lists}
use Rattle.state.proofs.Tallies.{same_shifts, same_looks, same_reads}
use Rattle.bounds.specs.Words.{segment_looks}
use Rattle.finding.specs.Finding.{looks_of}
use Rattle.removal.specs.Removing.{Rests}

pub looks_most : (K j k : ℕ) → looks_of K j k ≤ j + k
unfolding segment_looks
looks_most K j k = elim (split 1 K) [ inl l ↦ rw (lt-ltb 1 K l) (omega arith) | inr l ↦ rw (le-ltb 1 K l) (omega arith) ]

module _ {layout : Layout} {sizes : List ℕ} {X : Setting layout sizes} {before : List ℕ} {h : Heap} {l : Lists} {s : State} (R : Rests X before h l s) where
  pub reached_low : s.reached < layout.nodes
  reached_low = omega (arith, R.stands.reached, scans_fewer R.resting.rest R.node R.labelled, X.nodes)

  pub roster_long : layout.nodes ≤ length l.roster
  roster_long =
      let e : length l.roster ≡ length h.search.roster + (length before - length h.search.roster) =
      ap length R.stands.roster ∙ length-append h.search.roster (drop (length h.search.roster) before)
      ∙ ap (λ (k : ℕ). length h.search.roster + k) (length-drop (length h.search.roster) before) in
      omega (arith, reached_low, R.stands.reached, R.long)

  pub nodes_few : layout.nodes ≤ 4096
  nodes_few = R.stands.frontier.few

  buckets_few : X.shape.buckets ≤ 22
  buckets_few = omega (arith, X.agrees.buckets, X.agrees.sized.few)

  pub shifts_few : s.tally.shifts ≤ 90112
  shifts_few = omega (arith, same_shifts R.stands.tally, shifts_low R.resting.counted buckets_few (updates_few X.admissible R.resting.rest))

  pub reads_few : s.tally.reads ≤ 524288
  reads_few = omega (arith, same_reads R.stands.tally, reads_low R.resting.counted buckets_few (updates_few X.admissible R.resting.rest))

  pub looks_few : s.tally.looks ≤ 352256
  looks_few =
      let r : length h.search.roster ≤ 4096 = omega (arith, R.stands.reached, reached_low, nodes_few) in
      let b : length h.search.roster * (X.shape.buckets + X.segment_looks) ≤ length h.search.roster * 86 =
      mul-le-mul_left (length h.search.roster) (omega (arith, buckets_few, X.few_looks)) in
      omega (arith, same_looks R.stands.tally, R.resting.counted.looks)
