-- The words at the start of a run, when nothing is labelled, and that the source can then be.
use Prim.Native.Nat.{ℕ, ◌+◌, ◌*◌, ◌≤◌, ◌<◌}
use native.Mathlib.Omega.{arith}
use mathlib.Core.Path.{◌≡◌, refl, sym, ◌∙◌, ap, subst}
use mathlib.Core.Logic.{◌⊎◌, inl, inr}
use mathlib.Core.List.{List}
use lib.ListN.{length, get_or, replicate, length-replicate}
use Rattle.theory.specs.Maps.{none}
use Rattle.theory.specs.Network.{Network}
use Rattle.theory.specs.Shape.{Shape}
use Rattle.theory.specs.Search.{blank}
use Rattle.theory.specs.Heap.{bound, first_bounds, heap_blank, heap_label, heap_start}
use Rattle.theory.proofs.Lists.{get_d_replicate_same}
use Rattle.theory.proofs.Sums.{sum_zero}
use Rattle.theory.proofs.Search.Ends.{blank_mark}
use Rattle.theory.specs.Invariants.{Labelling}
use Rattle.theory.proofs.Heap.Run.{blank_inv, source_labelling}
use Rattle.bounds.specs.Words.{bounds_of, first_words}
use Rattle.bounds.proofs.First.{first_words_length, first_words_before, first_words_after}
use Rattle.bounds.proofs.Agreement.{first_words_agree}
use Rattle.buckets.specs.Words.{places}
use Rattle.frontier.specs.Frontier.{Frontier}
use Rattle.frontier.specs.Frontier.Laws.{frontier_zero, bounds_kept}
use Rattle.state.specs.declared.Layout.{Layout}
use Rattle.state.specs.declared.State.{State}
use Rattle.state.specs.Slots.{slot_word}
use Rattle.state.specs.Stands.{Setting, Stands}
use Rattle.state.proofs.Places.Label.{place_is}
use Rattle.placing.specs.Placing.{lists, Labels}
use Rattle.search.specs.Starts.{Starts}

-- The numbers of a run in which nothing has happened.
abbrev pub blank_state : State
blank_state = record { front = 0; current = 0; reached = 0; tally = record { insertions = 0; decreases = 0; shifts = 0; looks = 0; reads = 0 } }

module _ {layout : Layout} {sizes : List ℕ} {X : Setting layout sizes} {words distances parents : List ℕ} {top source : ℕ} (S : Starts X words distances parents top source) where
  abbrev n : ℕ
  n = layout.nodes

  abbrev B : ℕ
  B = layout.buckets

  abbrev N : Network
  N = X.network

  abbrev sh : Shape
  sh = X.shape

  pub bounds_in : {zeros : List ℕ} → zeros ≡ replicate (length words) 0 → 4 * n + B < length zeros
  bounds_in zeroed = rw (zeroed, length-replicate) (omega (arith, S.fits.long, X.agrees.sized.few))

  -- The lists when they are filled, and the first bounds set.
  module _ {zeros w d p : List ℕ} (zeroed : zeros ≡ replicate (length words) 0) (first : w ≡ first_words n sizes B top zeros)
      (far : d ≡ replicate (length distances) none) (orphans : p ≡ replicate (length parents) none) where
    zero_read : (j : ℕ) → get_or zeros j 0 ≡ 0
    zero_read j = rw zeroed (get_d_replicate_same (length words) j 0)

    in_zeros : 4 * n + B < length zeros
    in_zeros = bounds_in zeroed

    zero_frontier : Frontier n layout.slots layout.segments zeros × (places n zeros ≡ replicate n 0)
    zero_frontier = frontier_zero n layout.slots layout.segments zeros (omega (arith, X.admissible.source_node, X.nodes)) (omega (arith, X.admissible.few_nodes, X.nodes))
        (rw (zeroed, length-replicate) S.fits) zero_read

    first_frontier : Frontier n layout.slots layout.segments w × (places n w ≡ places n zeros)
    first_frontier = rw first (bounds_kept zero_frontier.0 (first_words_length n sizes B top zeros some in_zeros) same)
      where
        some : 1 ≤ B
        some = omega (arith, X.agrees.sized.two)

        same : (j : ℕ) → (j < 4 * n) ⊎ (4 * n + 24 ≤ j) → get_or (first_words n sizes B top zeros) j 0 ≡ get_or zeros j 0
        same j (inl l) = first_words_before n sizes B top zeros some in_zeros j (omega arith)
        same j (inr l) = first_words_after n sizes B top zeros some in_zeros j (omega (arith, X.agrees.sized.few))

    pub blank_place : (v : ℕ) → get_or (places n w) v 0 ≡ 0
    blank_place v = ap (λ (l : List ℕ). get_or l v 0) (first_frontier.1 ∙ zero_frontier.1) ∙ get_d_replicate_same n v 0

    first_bound : (i : ℕ) → 1 ≤ i → i ≤ B → bound (bounds_of n w) i ≡ bound (first_bounds sh) i
    first_bound i low high = rw (first, ← S.top_is) (first_words_agree X.agrees n zeros in_zeros i low high)

    blank_stands : (before : List ℕ) → Stands layout sh before (heap_blank N sh) (lists w d p before) blank_state
    unfolding heap_blank blank
    blank_stands before = record {
      frontier = first_frontier.0;
      places = λ v low. blank_place v ∙ sym (place_is (slot_word layout.segments) sh 0 (heap_blank N sh) v (blank_mark N v) refl refl refl);
      bounds = first_bound;
      distances = far ∙ ap (λ (k : ℕ). replicate k none) (S.distances_long ∙ sym X.nodes);
      parents = orphans ∙ ap (λ (k : ℕ). replicate k none) (S.parents_long ∙ sym X.nodes);
      roster = refl;
      current = sym (sum_zero n _ (λ v low. rw (blank_place v)));
      reached = refl;
      tally = refl;
    }

    pub start_labels : (before : List ℕ) → Labels X before (heap_blank N sh) (lists w d p before) blank_state source 0
    start_labels before = record {
      stands = blank_stands before;
      inv = blank_inv X.admissible X.lawful X.room;
      labelling = subst (λ (v : ℕ). Labelling N sh (heap_blank N sh) v 0) S.source_is (source_labelling X.admissible X.lawful X.room);
      late = omega arith;
      parents_long = ap length orphans ∙ length-replicate (length parents) none ∙ S.parents_long;
      insertions_few = omega arith;
      decreases_few = omega arith;
      reads_few = omega arith;
    }

  pub started : heap_label sh source 0 none (heap_blank N sh) ≡ heap_start N sh
  unfolding heap_start
  started = ap (λ (v : ℕ). heap_label sh v 0 none (heap_blank N sh)) (sym S.source_is)
