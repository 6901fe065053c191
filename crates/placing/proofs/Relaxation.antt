-- When an arc is taken: the sum fits, its test is the step's, and a head that improves is labelled.
use Prim.Native.Nat.{ℕ, ◌+◌, ◌≤◌, ◌<◌}
use native.Mathlib.Omega.{arith}
use mathlib.Core.Path.{◌≡◌, refl, sym, ◌∙◌, ap}
use mathlib.Core.Bool.{true, false}
use mathlib.Core.List.{List, ◌∷◌}
use lib.Dec.{ltb}
use lib.ListN.{length, get_or}
use borrow.Author.Tests.{lt-ltb, le-ltb}
use Rattle.theory.specs.Maps.{none}
use Rattle.theory.specs.Network.{Link, Network}
use Rattle.theory.specs.Search.{Mark, unlabelled, labelled, scanned, mark, distance, below, improves}
use Rattle.theory.specs.Heap.{Heap, heap_label, heap_relax}
use Rattle.theory.proofs.Search.Invariant.{sums_finite}
use Rattle.theory.specs.Invariants.{Scanning}
use Rattle.theory.proofs.Search.Relaxing.{head_node, sum_few}
use Rattle.theory.proofs.Heap.Run.{improving}
use Rattle.theory.proofs.Search.Counts.{updates_few}
use Rattle.theory.proofs.Heap.Count.{reads_low}
use Rattle.state.specs.declared.Layout.{Layout}
use Rattle.state.specs.declared.State.{State}
use Rattle.state.specs.Stands.{Setting, Lists}
use Rattle.state.proofs.Tallies.{same_insertions, same_decreases, same_reads}
use Rattle.theory.proofs.Lists.{get_d_inside}
use Rattle.placing.specs.Placing.{Labels, Relaxes}

module _ {layout : Layout} {sizes : List ℕ} {X : Setting layout sizes} {before : List ℕ} {u : ℕ} {l : Link} {ls : List Link} {h : Heap} {lists : Lists} {s : State}
    (R : Relaxes X before u l ls h lists s) where
  abbrev N : Network
  N = X.network

  abbrev scanning : Scanning N X.ceiling u s.front (l ∷ ls) h.search
  scanning = R.relaxing.scanning

  sum_low : s.front + l.cost < none
  sum_low = omega (arith, sum_few X.admissible scanning R.member, sums_finite X.admissible)

  pub sum_fits : s.front + l.cost < 4294967296
  sum_fits = omega (arith, sum_low)

  pub head_in : l.head < length lists.distances
  head_in = omega (arith, ap length R.stands.distances, scanning.inv.distances_length, head_node X.admissible scanning R.member)

  pub distance_read : get_or lists.distances l.head 0 ≡ distance h.search l.head
  distance_read = get_d_inside lists.distances l.head 0 none head_in ∙ ap (λ (d : List ℕ). get_or d l.head none) R.stands.distances

  -- The test of the words is the step's: an unlabelled head's distance is none, and the sum is below it.
  improves_read : improves s.front l h.search ≡ ltb (s.front + l.cost) (distance h.search l.head)
  improves_read = go (mark h.search l.head) refl
    where
      go : (m : Mark) → mark h.search l.head ≡ m → below m (s.front + l.cost) (distance h.search l.head) ≡ ltb (s.front + l.cost) (distance h.search l.head)
      go unlabelled e = sym (lt-ltb (s.front + l.cost) (distance h.search l.head) (omega (arith, scanning.inv.unknown l.head e, sum_low)))
      go labelled e = refl
      go scanned e = refl

  improved : s.front + l.cost < get_or lists.distances l.head 0 → improves s.front l h.search ≡ true
  improved less = improves_read ∙ lt-ltb (s.front + l.cost) (distance h.search l.head) (omega (arith, distance_read))

  counts : (h.search.insertions ≤ 4096) × (h.search.decreases ≤ 65537)
  counts = updates_few X.admissible scanning.inv

  reads_few : h.reads ≤ 524288
  reads_few = reads_low R.relaxing.counted (omega (arith, X.agrees.buckets, X.agrees.sized.few)) counts

  pub relax_labels : s.front + l.cost < get_or lists.distances l.head 0 → Labels X before h lists s l.head (s.front + l.cost)
  relax_labels less = record {
    stands = R.stands;
    inv = R.relaxing.inv;
    labelling = improving X.admissible X.lawful X.room R.member scanning (improved less);
    late = omega arith;
    parents_long = ap length R.stands.parents ∙ scanning.inv.parents_length ∙ X.nodes;
    insertions_few = omega (arith, same_insertions R.stands.tally, counts.0);
    decreases_few = omega (arith, same_decreases R.stands.tally, counts.1);
    reads_few = omega (arith, same_reads R.stands.tally, reads_few);
  }

  pub relaxed_label : s.front + l.cost < get_or lists.distances l.head 0 → heap_label X.shape l.head (s.front + l.cost) l.arc h ≡ heap_relax X.shape s.front l h
  unfolding heap_relax
  relaxed_label less = rw (improved less)

  pub relaxed_same : get_or lists.distances l.head 0 ≤ s.front + l.cost → h ≡ heap_relax X.shape s.front l h
  unfolding heap_relax
  relaxed_same more =
      let e : improves s.front l h.search ≡ false = improves_read ∙ le-ltb (s.front + l.cost) (distance h.search l.head) (omega (arith, distance_read)) in
      rw e
