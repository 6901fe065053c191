-- What two accepted runs of the same inputs leave is the same, whichever heaps they use and whatever their lists held. Assumes nothing.
use Prim.Native.Nat.{ℕ, ◌≤◌}
use native.Mathlib.Omega.{arith}
use mathlib.Core.Path.{◌≡◌, refl, sym, ◌∙◌, ap, subst}
use mathlib.Core.List.{List}
use lib.ListN.{length, take, drop}
use lib.Seq.{take_at}
use Rattle.model.specs.Answers.{Check, RunAnswer, Numbers, numbers_of, number_of, words_after}
use Rattle.std.specs.Prelude.{Ok, Err}
use Rattle.model.specs.declared.Fault.{Fault}
use Rattle.theory.specs.Search.{Search}
use Rattle.theory.specs.Heap.{Heap}
use Rattle.theory.specs.Runs.{Inputs, heap_buckets, steps_of}
use Rattle.theory.specs.declared.Levels.{Levels}
use Rattle.theory.proofs.Demands.{allowed_segmented, heaps_agree}
use Rattle.checks.specs.Checks.{first_fault, run_checks}
use Rattle.checks.proofs.Numbered.{fault_number}
use Rattle.checks.proofs.Valid.{passed_ready}
use Rattle.runs.specs.Promise.{Lent, lengths_of, run_numbers, Ran, Promised, OneLevelPromised, TwoLevelPromised}
use Rattle.runs.specs.Agreement.{FilledAlike, RunsAgree}

-- ---- an accepted run

pub returned_passed : (check : Check) → ((fault : Fault) → check ≡ Err fault → 1 ≤ number_of fault.kind) → (B : ℕ) (h : Heap)
    → (run_numbers check B h).returned ≡ 0 → check ≡ Ok tt
returned_passed (Ok tt) some B h e = refl
returned_passed (Err fault) some B h e = absurd (omega (arith, some fault refl, e))

module _ {L : Levels} {I : Inputs} {r : RunAnswer} {l l' : Lent} (promised : Promised L I r l l') (accepted : (numbers_of r).returned ≡ 0) where
  -- 0 is returned only where all checks pass.
  pub accepted_passed : first_fault (run_checks L I (lengths_of l)) ≡ Ok tt
  accepted_passed =
      returned_passed _ (fault_number L I (lengths_of l)) _ _ (sym (ap (λ (n : Numbers). n.returned) promised.numbers) ∙ accepted)

  pub accepted_ran : Ran L I (Ok tt) r l l'
  accepted_ran = subst (λ (k : Check). Ran L I k r l l') accepted_passed promised

-- ---- two accepted runs

-- Lists that two searches have filled, which have found the same.
module _ {s t : Search} (agree : s ≡ t) (list : Search → List ℕ) (count : ℕ) (long : length (list s) ≡ count) where
  first_words_lem : (words : List ℕ) {words' : List ℕ} → words' ≡ words_after (Ok tt) (list s) words → take count words' ≡ list s
  first_words_lem words p = ap (take count) p ∙ take_at (list s) (drop (length (list s)) words) count long

  filled_alike : (words others : List ℕ) {words' others' : List ℕ} → words' ≡ words_after (Ok tt) (list s) words
      → others' ≡ words_after (Ok tt) (list t) others → FilledAlike count words words' others others'
  filled_alike words others {words'} {others'} p r =
      let q : others' ≡ words_after (Ok tt) (list s) others = r ∙ ap (λ (x : Search). words_after (Ok tt) (list x) others) (sym agree) in
      record { filled = first_words_lem words p ∙ sym (first_words_lem others q); equal = λ e. p ∙ ap (words_after (Ok tt) (list s)) e ∙ sym q }

-- What the steps h have left, with the parents told by some numbers: the arcs' own, or those of another map (document 02, paper 7).
pub record LeftBy (told : List ℕ → List ℕ) (B : ℕ) (h : Heap) (r : RunAnswer) (l l' : Lent) : Type 0 where
  pub numbers : numbers_of r ≡ run_numbers (Ok tt) B h
  pub distances : l'.distances ≡ words_after (Ok tt) h.search.distances l.distances
  pub parents : l'.parents ≡ words_after (Ok tt) (told h.search.parents) l.parents
  pub roster : l'.roster ≡ words_after (Ok tt) h.search.roster l.roster

-- Steps that have found the same leave the same.
pub steps_agree : {told : List ℕ → List ℕ} {n B B' : ℕ} {h h' : Heap} {r s : RunAnswer} {l l' k k' : Lent} → LeftBy told B h r l l' → LeftBy told B' h' s k k'
    → h.search ≡ h'.search → length h.search.distances ≡ n → length (told h.search.parents) ≡ n → RunsAgree n (numbers_of r) (numbers_of s) l l' k k'
steps_agree {told} {n} {h = h} {r = r} {l = l} {k = k} first second agree distances parents =
    let reached : (numbers_of r).reached ≡ length h.search.roster = ap (λ (n : Numbers). n.reached) first.numbers in
    record {
      reached = reached ∙ ap (λ (x : Search). length x.roster) agree ∙ sym (ap (λ (n : Numbers). n.reached) second.numbers);
      decreases =
          ap (λ (n : Numbers). n.counts.decreases) first.numbers ∙ ap (λ (x : Search). x.decreases) agree
          ∙ sym (ap (λ (n : Numbers). n.counts.decreases) second.numbers);
      distances =
          filled_alike agree (λ (x : Search). x.distances) n distances l.distances k.distances first.distances second.distances;
      parents =
          filled_alike agree (λ (x : Search). told x.parents) n parents l.parents k.parents first.parents second.parents;
      roster =
          filled_alike agree (λ (x : Search). x.roster) (numbers_of r).reached (sym reached)
          l.roster k.roster first.roster second.roster;
    }

-- Whatever two accepted runs of the same inputs are made with, they agree.
pub runs_agree : {L L' : Levels} {I : Inputs} {r s : RunAnswer} {l l' k k' : Lent} → Promised L I r l l' → Promised L' I s k k'
    → (numbers_of r).returned ≡ 0 → (numbers_of s).returned ≡ 0 → RunsAgree I.map.nodes (numbers_of r) (numbers_of s) l l' k k'
runs_agree {L} {L'} {I} P Q a b =
    let ready = passed_ready (accepted_passed P a) in
    let agree : (steps_of L I).search ≡ (steps_of L' I).search =
    heaps_agree ready.valid L L' (allowed_segmented L ready.allowed) (allowed_segmented L' (passed_ready (accepted_passed Q b)).allowed) in
    let first = accepted_ran P a in
    steps_agree (ran_left first) (ran_left (accepted_ran Q b)) agree first.demanded.cheapest.distances_length first.demanded.cheapest.parents_length
  where
    ran_left : {L : Levels} {I : Inputs} {r : RunAnswer} {l l' : Lent} → Ran L I (Ok tt) r l l'
        → LeftBy (λ parents. parents) (heap_buckets L I.ceiling) (steps_of L I) r l l'
    ran_left ran = record { numbers = ran.numbers; distances = ran.distances; parents = ran.parents; roster = ran.roster }

-- What a run of each heap has left in equal rosters is equal, for every K (document 02, paper 6).
pub rosters_agree : {I : Inputs} {K : ℕ} {r s : RunAnswer} {l l' k k' : Lent} → OneLevelPromised I r l l' → TwoLevelPromised K I s k k'
    → (numbers_of r).returned ≡ 0 → (numbers_of s).returned ≡ 0 → l.roster ≡ k.roster → l'.roster ≡ k'.roster
rosters_agree P Q a b = (runs_agree P Q a b).roster.equal
