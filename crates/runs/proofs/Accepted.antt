-- What an accepted run leaves is what is promised, for both heaps.
use Prim.Native.Nat.{ℕ, ◌+◌, ◌-◌, ◌*◌, ◌≤◌, ◌<◌}
use native.Mathlib.Omega.{arith}
use native.Mathlib.Nat.{mul-le-mul, mul-le-mul_left}
use mathlib.Core.Path.{◌≡◌, refl, sym, ◌∙◌, ap, ap₂}
use mathlib.Core.List.{List}
use lib.ListN.{length, take}
use lib.Seq.{length-take-le}
use Rattle.model.specs.Answers.{Check, RunAnswer, numbers_of, accepted_numbers}
use Rattle.std.specs.Prelude.{Ok, Err}
use Rattle.model.specs.declared.Fault.{Fault}
use Rattle.theory.specs.Network.{network}
use Rattle.theory.specs.Heap.{heap}
use Rattle.theory.specs.Demands.{Demanded}
use Rattle.theory.proofs.Demands.{allowed_segmented, run_demanded}
use Rattle.state.specs.declared.Tally.{Tally}
use Rattle.state.specs.declared.State.{State}
use Rattle.state.proofs.Tallies.{same_insertions, same_decreases, same_shifts}
use Rattle.state.specs.Stands.{Setting}
use Rattle.search.specs.Starts.{Starts}
use Rattle.theory.specs.Runs.{Inputs, ValidInputs, heap_buckets, segment_count, removal_looks, work_words, steps_of}
use Rattle.theory.specs.declared.Levels.{Levels}
use Rattle.checks.specs.Checks.{first_fault, run_checks, Ready}
use Rattle.sizes.specs.Sizes.{sizes_of}
use Rattle.runs.specs.Promise.{Lent, Ran, lengths_of, Promised}
use Rattle.runs.specs.Parts.{counts_told, Built, RunsOn, SomeRunsOn, Ended}
use Rattle.runs.proofs.Settings.{layout_of, few_buckets, setting, buckets_two, slots_few, top_same, work_fits}

-- u(B) fits a word.
pub top_few : {I : Inputs} → ValidInputs I → I.map.nodes * I.ceiling + 1 < 4294967296
top_few valid = omega (arith, mul-le-mul valid.sound.few_nodes valid.low_ceiling)

module _ {L : Levels} {I : Inputs} (l : Lent) (ready : Ready L I (lengths_of l)) where
  abbrev D : Demanded I.map I.source (heap_buckets L I.ceiling) (removal_looks L I.ceiling) (steps_of L I)
  D = run_demanded ready.valid L (allowed_segmented L ready.allowed)

  -- The numbers and lists of the steps.
  module _ {l' : Lent} {s : State} (E : Ended (steps_of L I) (work_words L I.map.nodes) l l' s) where
    pub placements_few : s.tally.insertions + s.tally.decreases + s.tally.shifts < 4294967296
    placements_few =
        let r = mul-le-mul_left (length (steps_of L I).search.roster) (few_buckets I.map.nodes I.ceiling ready.valid.low_ceiling L) in
        omega (arith, r, same_insertions E.tally, same_decreases E.tally, same_shifts E.tally, D.counts.placed, D.counts.few, ready.valid.sound.few_nodes, ready.valid.sound.few_arcs)

    pub ended_ran : {r : RunAnswer}
        → numbers_of r ≡ accepted_numbers s.reached (heap_buckets L I.ceiling) (counts_told s.tally)
        → Ran L I (Ok tt) r l l'
    ended_ran q = record {
      numbers = q ∙ ap₂ (λ (r : ℕ) (t : Tally). accepted_numbers r (heap_buckets L I.ceiling) (counts_told t)) E.reached E.tally;
      distances = E.distances;
      parents = E.parents;
      roster = E.roster;
      work = E.work;
      demanded = D;
    }

  -- The lists are long enough for the parts that a run fills.
  starts : Starts (setting ready) (take (work_words L I.map.nodes) l.work) (take I.map.nodes l.distances) (take I.map.nodes l.parents) (I.map.nodes * I.ceiling + 1) I.source
  unfolding network
  starts = record {
    source_is = refl;
    top_is = top_same ready;
    fits = rw (length-take-le (work_words L I.map.nodes) l.work ready.work_fit) (work_fits ready);
    distances_long = length-take-le I.map.nodes l.distances ready.distances_fit;
    parents_long = length-take-le I.map.nodes l.parents ready.parents_fit;
  }

  pub runs_on : RunsOn (setting ready) I.map I.source (I.map.nodes * I.ceiling + 1) (work_words L I.map.nodes) l
  runs_on = record {
    runs = record { sound = ready.valid.sound; network_is = refl; starts = starts; roster_long = ready.roster_fit };
    distances_fit = ready.distances_fit;
    parents_fit = ready.parents_fit;
    work_fit = ready.work_fit;
  }

-- Numbers and sizes that are known to be those of the heap.
module _ {L : Levels} {I : Inputs} {B K needed : ℕ} {sizes : List ℕ} (l : Lent) (built : Built L I B K sizes needed l) where
  pub built_two : 2 ≤ B
  built_two = rw built.buckets_are (buckets_two built.ready)

  pub built_slots : (B - 1) * K ≤ 300
  built_slots = rw (built.buckets_are, built.segments_are) (slots_few built.ready)

  pub built_runs : SomeRunsOn (layout_of I.map.nodes B K ((B - 1) * K + 1)) sizes I.map.starts I.map.heads I.map.costs I.map.holds I.source (I.map.nodes * I.ceiling + 1) needed l
  built_runs =
      rw (built.buckets_are, built.segments_are, built.sizes_are, built.needed_are)
      (record { setting = setting built.ready; runs_on = runs_on l built.ready })

  -- What the core leaves.
  pub built_ended : {l' : Lent} {s : State}
      → ((X : Setting (layout_of I.map.nodes B K ((B - 1) * K + 1)) sizes) → RunsOn X I.map I.source (I.map.nodes * I.ceiling + 1) needed l → Ended (heap X.network X.shape) needed l l' s)
      → Ended (steps_of L I) (work_words L I.map.nodes) l l' s
  unfolding steps_of
  built_ended left =
      (rw (built.buckets_are, built.segments_are, built.sizes_are, built.needed_are) at left) (setting built.ready) (runs_on l built.ready)

-- Inputs and lists that have passed the checks, with numbers and sizes that were computed from them.
pub ready_built : {L : Levels} {I : Inputs} {l : Lent} {B K needed : ℕ} {sizes : List ℕ} → Ready L I (lengths_of l) → B ≡ heap_buckets L I.ceiling
    → K ≡ segment_count L → sizes ≡ sizes_of L → needed ≡ work_words L I.map.nodes → Built L I B K sizes needed l
ready_built ready buckets segments computed words =
    record { ready = ready; buckets_are = buckets; segments_are = segments; sizes_are = computed; needed_are = words }

-- The checks have come to `check`, which is that all pass.
pub passed_ran : {L : Levels} {I : Inputs} {l l' : Lent} {check : Check} {r : RunAnswer} → check ≡ first_fault (run_checks L I (lengths_of l)) → check ≡ Ok tt
    → Ran L I (Ok tt) r l l' → Promised L I r l l'
passed_ran is passed ran = rw (sym is ∙ passed) ran

-- A refusal leaves every list as it was.
pub refused_ran : {L : Levels} {I : Inputs} {check : Check} {fault : Fault} {r : RunAnswer} {l : Lent} → check ≡ Err fault
    → r ≡ Err fault → Ran L I check r l l
refused_ran e q = rw e (record { numbers = ap numbers_of q; distances = refl; parents = refl; roster = refl; work = refl; demanded = tt })
