-- Every removal of a run is from a heap at rest, and leads to the next; so document 01's words for the bounds hold of each.
use Prim.Native.Nat.{ℕ, zero, suc, ◌+◌, ◌-◌, ◌*◌, ◌^◌, ◌≤◌, ◌<◌, min}
use native.Mathlib.Omega.{arith}
use mathlib.Core.Path.{◌≡◌, refl, sym, ◌∙◌}
use Rattle.theory.specs.Network.{Network, Admissible, network}
use Rattle.theory.specs.Shape.{Shape, two_level}
use Rattle.theory.specs.Search.{Choice}
use Rattle.theory.specs.Heap.{Heap, bound, Pick, nothing, picked, pick, heap_remove, heap_scan, heap_from, heap}
use Rattle.theory.specs.Lawful.{Lawful}
use Rattle.theory.specs.Invariants.{Least, Bounds, Fits, seg, seg_end, after, Resting}
use Rattle.theory.specs.Runs.{Inputs, ValidInputs, Segmented, shape_of, steps_of}
use Rattle.theory.specs.declared.Levels.{Levels}
use Rattle.theory.specs.declared.Levels.TheVariants.{One, Two}
use Rattle.theory.specs.Removals.{Between, first, next, RunRemoval, bounds_left}
use Rattle.theory.proofs.Maps.Arcs.{map_admissible}
use Rattle.theory.proofs.Heap.Bounds.{after_same}
use Rattle.theory.proofs.Heap.Invariant.{Choose, idle, takes, chooses}
use Rattle.theory.proofs.Heap.Run.{start_resting, scan_resting}
use Rattle.theory.proofs.Shapes.Formulas.{one_level_after_first, one_level_after, two_level_after_first, two_level_after}
use Rattle.theory.proofs.Demands.{most_segment_looks, lawful, top_is}

-- What a pick says of the heap.
record Picks (sh : Shape) (h : Heap) (j k d v : ℕ) : Type 0 where
  segment : k ≡ seg sh h.bounds j d
  fit : Fits sh h.bounds j d
  least : Least h.search v d

choose_picks : {sh : Shape} {h : Heap} {p : Pick} {c : Choice} {j k d v : ℕ} → Choose sh h p c → p ≡ picked j k d v → Picks sh h j k d v
choose_picks (idle no_one) e = absurd (let z : ◌≡◌ {A = ℕ} 0 1 = cc in omega arith)
choose_picks {sh} {h} {j = j} {k = k} {d = d} {v = v} (takes {j = i} {d = x} {v = w} fit least) e =
    let ej : i ≡ j = cc in
    let ed : x ≡ d = cc in
    let ev : w ≡ v = cc in
    let ek : seg sh h.bounds i x ≡ k = cc in
    record { segment = sym ek ∙ (rw (ej, ed)); fit = rw (ej, ed) at fit; least = rw (ev, ed) at least }

module _ {N : Network} {sh : Shape} {C S m : ℕ} (A : Admissible N C m) (law : Lawful sh C S) (room : N.nodes * C ≤ sh.top) where
  next_resting : {h : Heap} {j k d v : ℕ} → (last : ℕ) × Resting N sh C S last h → pick sh h N.nodes ≡ picked j k d v → (last : ℕ) × Resting N sh C S last (heap_scan N sh j k d v h)
  next_resting {d = d} r e =
      let p = choose_picks (chooses law r.1.rest r.1.inv) e in
      (d, rw p.segment (scan_resting A law room r.1 p.fit p.least))

  pub between_resting : {h : Heap} → Between N sh h → (last : ℕ) × Resting N sh C S last h
  between_resting first = (0, start_resting A law room)
  between_resting (next b e) = next_resting (between_resting b) e

  -- The run's last heap is one of them, so that these are its removals.
  pub from_between : (fuel : ℕ) (h : Heap) → Between N sh h → Between N sh (heap_from N sh fuel h)
  unfolding heap_from
  from_between zero h b = b
  from_between (suc fuel) h b = go (pick sh h N.nodes) refl (λ g c. from_between fuel g c)
    where
      go : (p : Pick) → pick sh h N.nodes ≡ p → ((g : Heap) → Between N sh g → Between N sh (heap_from N sh fuel g))
          → Between N sh (elim p [ nothing ↦ h | picked j k d v ↦ heap_from N sh fuel (heap_scan N sh j k d v h) ])
      go nothing e on = b
      go (picked j k d v) e on = on (heap_scan N sh j k d v h) (next b e)

  pub heap_between : Between N sh (heap N sh)
  unfolding heap
  heap_between = from_between N.nodes _ first

-- ---- document 01's words for the bounds, of every removal of a run with j above 1

module _ {L : Levels} {I : Inputs} (valid : ValidInputs I) (s : Segmented L) {h : Heap} {j k d v : ℕ} (R : RunRemoval L I h j k d v) where
  abbrev sh : Shape
  sh = shape_of L I.map.nodes I.ceiling

  abbrev N : Network
  N = network I.map I.source

  law : Lawful sh I.ceiling (most_segment_looks L)
  law = lawful I.map.nodes I.ceiling valid.low_ceiling L s

  enough : N.nodes * I.ceiling ≤ sh.top
  unfolding network
  enough = omega (arith, top_is L I.map.nodes I.ceiling)

  -- What the removal is made from.
  record Made : Type 0 where
    last : ℕ
    bounds : Bounds sh last h.bounds
    fit : Fits sh h.bounds j d
    late : last ≤ d
    left : bounds_left L I h j k d v ≡ after sh h.bounds j d

  made : Made
  unfolding heap_remove network
  made =
      let r = between_resting (map_admissible valid) law enough R.between in
      let p = choose_picks (chooses law r.1.rest r.1.inv) R.picks in
      record { last = r.0; bounds = r.1.inv.bounds; fit = p.fit; late = omega (arith, r.1.rest.ahead v p.least.member, p.least.key); left = rw p.segment }

  -- The bounds from u(j) on stay.
  pub removal_same : (i : ℕ) → j ≤ i → bound (bounds_left L I h j k d v) i ≡ bound h.bounds i
  removal_same i far = rw made.left (after_same sh j (seg sh h.bounds j d) d h.bounds made.fit.low i far)

module _ {I : Inputs} (valid : ValidInputs I) {h : Heap} {j k d v : ℕ} (far : 1 < j) where
  -- One level: u(1) = d, and u(i) = min(u(i - 1) + size(i), u(j)) for i = 2 to j - 1.
  module _ (R : RunRemoval One I h j k d v) where
    pub one_level_removal_first : bound (bounds_left One I h j k d v) 1 ≡ d
    one_level_removal_first =
        let m = made valid tt R in rw m.left (one_level_after_first I.map.nodes I.ceiling valid.low_ceiling m.bounds m.fit m.late far)

    pub one_level_removal_next : (i : ℕ) → 2 ≤ i → i < j
        → bound (bounds_left One I h j k d v) i ≡ min (bound (bounds_left One I h j k d v) (i - 1) + 2 ^ (i - 2)) (bound h.bounds j)
    one_level_removal_next i l b =
        let m = made valid tt R in rw m.left (one_level_after I.map.nodes I.ceiling valid.low_ceiling m.bounds m.fit m.late far i l b)

  -- Two levels, with t the upper end of the segment: u(1) = min(d - 1 + K, t), and u(i) = min(u(i - 1) + K^i, t) for 2 ≤ i < j.
  module _ {K : ℕ} (segmented : 2 ≤ K) (R : RunRemoval (Two K) I h j k d v) where
    abbrev t : ℕ
    t = seg_end (two_level I.map.nodes I.ceiling K) h.bounds j d

    pub two_level_removal_first : bound (bounds_left (Two K) I h j k d v) 1 ≡ min (d - 1 + K) t
    two_level_removal_first =
        let m = made valid segmented R in
        rw m.left (two_level_after_first I.map.nodes I.ceiling K segmented valid.low_ceiling m.bounds m.fit m.late far)

    pub two_level_removal_next : (i : ℕ) → 2 ≤ i → i < j → bound (bounds_left (Two K) I h j k d v) i ≡ min (bound (bounds_left (Two K) I h j k d v) (i - 1) + K ^ i) t
    two_level_removal_next i l b =
        let m = made valid segmented R in
        rw m.left (two_level_after I.map.nodes I.ceiling K segmented valid.low_ceiling m.bounds m.fit m.late far i l b)

-- The run's last heap is one of them, so that these are its removals.
pub run_between : {I : Inputs} → ValidInputs I → (L : Levels) → Segmented L → Between (network I.map I.source) (shape_of L I.map.nodes I.ceiling) (steps_of L I)
unfolding steps_of network
run_between {I} valid L s =
    heap_between (map_admissible valid) (lawful I.map.nodes I.ceiling valid.low_ceiling L s) (omega (arith, top_is L I.map.nodes I.ceiling))
