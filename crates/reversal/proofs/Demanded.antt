-- Demands 2 and 3 of runs to a destination, for every valid map, and both heaps give equal distances, parents, scan order and decreases.
use Prim.Native.Nat.{ℕ}
use mathlib.Core.Path.{◌≡◌}
use mathlib.Core.List.{List}
use Rattle.theory.specs.Maps.{Map, Reached, Sound}
use Rattle.theory.specs.Heap.{Heap}
use Rattle.theory.specs.Runs.{Inputs, Segmented, heap_buckets, removal_looks}
use Rattle.theory.specs.declared.Levels.{Levels}
use Rattle.theory.specs.Demands.{Roster, Demanded}
use Rattle.theory.proofs.Demands.{run_demanded, heaps_agree}
use Rattle.reversal.specs.Reversed.{reversed, reversed_inputs, steps_to, ValidTo}
use Rattle.reversal.specs.Demands.{DemandedTo}
use Rattle.reversal.proofs.Valid.{reversed_arcs, reversed_valid}
use Rattle.reversal.proofs.Cheapest.{reached_there, reached_back, cheapest_to}

module _ {M : Map} {s : ℕ} (sound : Sound M s) where
  roster_to : {distances roster : List ℕ} → Roster (Reached (reversed M) s) distances roster → Roster (λ v. Reached M v s) distances roster
  roster_to r = record {
    listed = λ v m. reached_back sound v (r.listed v m);
    complete = λ v q. r.complete v (reached_there sound v q);
    distinct = r.distinct;
    farthest = r.farthest;
    rising = r.rising;
  }

  pub demanded_to : {B L : ℕ} {h : Heap} → Demanded (reversed M) s B L h → DemandedTo M s B L h
  demanded_to d = record {
    cheapest = cheapest_to sound d.cheapest;
    roster = roster_to d.counts.roster;
    counts = d.counts;
    same_arcs = reversed_arcs sound;
  }

module _ {I : Inputs} (valid : ValidTo I.map I.ceiling I.source) where
  -- Demands 2 and 3, of the steps of every run to a destination.
  pub steps_demanded : (L : Levels) → Segmented L
      → DemandedTo I.map I.source (heap_buckets L I.ceiling) (removal_looks L I.ceiling) (steps_to L I)
  steps_demanded L s = demanded_to valid.sound (run_demanded {I = reversed_inputs I} (reversed_valid valid) L s)

  -- Any two heaps have equal distances, parents, scan order and decreases.
  pub to_heaps_agree : (L L' : Levels) → Segmented L → Segmented L' → (steps_to L I).search ≡ (steps_to L' I).search
  to_heaps_agree = heaps_agree {I = reversed_inputs I} (reversed_valid valid)
