-- Both runs, one behind the other on the same lists: what the lists hold afterwards, and the text of what is returned. Assumes nothing.
use Prim.Native.Nat.{ℕ, zero, suc, ◌+◌, ◌-◌, ◌≤◌}
use native.Mathlib.Omega.{arith}
use mathlib.Core.Path.{◌≡◌, refl, sym, ◌∙◌, ap, subst}
use mathlib.Core.List.{List, ◌++◌}
use lib.ListN.{length, drop, replicate, length-replicate, get_or-append}
use lib.Seq.{drop-append_seam, drop-append-add, drop-drop}
use Rattle.model.specs.Answers.{Check, RunAnswer, Numbers, words_after}
use Rattle.std.specs.Prelude.{Result, Ok, Err}
use Rattle.model.specs.declared.Fault.{Fault}
use Rattle.model.specs.declared.Run.{Run}
use Rattle.theory.specs.Heap.{Heap}
use Rattle.theory.specs.Search.{Search}
use Rattle.theory.specs.Runs.{Inputs, fixed_words, work_words, steps_of}
use Rattle.theory.specs.declared.Levels.{Levels}
use Rattle.theory.specs.declared.Levels.TheVariants.{One, Two}
use Rattle.theory.proofs.Demands.{heaps_agree, allowed_segmented, one_level_demanded}
use Rattle.checks.specs.Checks.{first_fault, run_checks, Lengths}
use Rattle.checks.proofs.Numbered.{kind_number}
use Rattle.checks.proofs.Valid.{passed_ready}
use Rattle.runs.specs.Promise.{Lent, lengths_of, Ran, Promised}
use Rattle.report.specs.Report.{node_lines, accepted_text}
use Rattle.fields.specs.Writing.{Writes}
use Rattle.fields.proofs.Written.{writes_same}
use Rattle.planning.specs.declared.BothRuns.{BothRuns}
use Rattle.planning.specs.Planning.{PlanLists, lent_of, heaps_text, runs_text, plan_lengths, BothReturned, BothRun}

-- ---- words written twice

same_twice : (xs ys words : List ℕ) → xs ≡ ys → words_after (Ok tt) ys (words_after (Ok tt) xs words) ≡ words_after (Ok tt) ys words
same_twice xs ys words e = rw e (ap (λ (l : List ℕ). ys ++ l) (drop-append_seam ys (drop (length ys) words)))

-- A list that one search has filled and then another, which has found the same.
list_behind : {s t : Search} → s ≡ t → (list : Search → List ℕ) (words : List ℕ) {between words' : List ℕ} → between ≡ words_after (Ok tt) (list s) words
    → words' ≡ words_after (Ok tt) (list t) between → words' ≡ words_after (Ok tt) (list t) words
list_behind {s} {t} e list words p q = q ∙ ap (words_after (Ok tt) (list t)) p ∙ same_twice (list s) (list t) words (ap list e)

longer_twice : (a b : ℕ) (words : List ℕ) → a ≤ b → words_after (Ok tt) (replicate b 0) (words_after (Ok tt) (replicate a 0) words) ≡ words_after (Ok tt) (replicate b 0) words
longer_twice a b words h =
    let first : length {A = ℕ} (replicate a 0) ≡ a = length-replicate a 0 in
    let second : length {A = ℕ} (replicate b 0) ≡ length {A = ℕ} (replicate a 0) + (b - a) = length-replicate b 0 ∙ omega (arith, first) in
    ap (λ (l : List ℕ). replicate b 0 ++ l)
    (ap (λ (k : ℕ). drop k (replicate a 0 ++ drop (length {A = ℕ} (replicate a 0)) words)) second
    ∙ drop-append-add (replicate a 0) (drop (length {A = ℕ} (replicate a 0)) words) (b - a)
    ∙ drop-drop (b - a) (length {A = ℕ} (replicate a 0)) words
    ∙ ap (λ (k : ℕ). drop k words) (sym second))

-- ---- the lines of nodes

-- What stands past the words of the nodes is not told.
nodes_told : (count : ℕ) (distances parents distances' parents' : List ℕ) → count ≤ length distances → count ≤ length parents
    → node_lines count (distances ++ distances') (parents ++ parents') ≡ node_lines count distances parents
unfolding node_lines
nodes_told zero distances parents distances' parents' d p = refl
nodes_told (suc v) distances parents distances' parents' d p =
    rw (
      nodes_told v distances parents distances' parents' (omega arith) (omega arith),
      get_or-append distances distances' 0 v d,
      get_or-append parents parents' 0 v p,
    ) refl

-- ---- both runs

-- A run behind another of the same inputs, which needs no more work words, leaves what it would leave without it.
module _ {L L' : Levels} {I : Inputs} (words : fixed_words L ≤ fixed_words L') (agree : (steps_of L I).search ≡ (steps_of L' I).search) where
  run_behind : (l between l' : Lent) {r r' : RunAnswer} → Ran L I (Ok tt) r l between → Ran L' I (Ok tt) r' between l' → Ran L' I (Ok tt) r' l l'
  run_behind l between l' P Q = record {
    numbers = Q.numbers;
    distances = list_behind agree (λ (s : Search). s.distances) l.distances P.distances Q.distances;
    parents = list_behind agree (λ (s : Search). s.parents) l.parents P.parents Q.parents;
    roster = list_behind agree (λ (s : Search). s.roster) l.roster P.roster Q.roster;
    work =
        Q.work ∙ ap (words_after (Ok tt) (replicate (work_words L' I.map.nodes) 0)) P.work
        ∙ longer_twice (work_words L I.map.nodes) (work_words L' I.map.nodes) l.work (omega (arith, words));
    demanded = Q.demanded;
  }

-- Where the checks of a run pass it is not refused.
pub never_refused : {L : Levels} {I : Inputs} {l l' : Lent} {fault : Fault} → first_fault (run_checks L I (lengths_of l)) ≡ Ok tt
    → Promised L I (Err fault) l l' → ⊥
never_refused {L} {I} {l} {l'} {fault} e P =
    let ran : Ran L I (Ok tt) (Err fault) l l' = subst (λ (k : Check). Ran L I k (Err fault) l l') e P in
    omega (arith, kind_number fault.kind, ap (λ (n : Numbers). n.returned) ran.numbers)

-- The runs of a planning file, on its lists.
module _ (K : ℕ) (I : Inputs) (L L' : PlanLists) where
  abbrev entry : Lent
  entry = lent_of L

  abbrev exit : Lent
  exit = lent_of L'

  abbrev first : Heap
  first = steps_of One I

  module _ (f : first_fault (run_checks (Two K) I (plan_lengths L)) ≡ Ok tt) where
    agree : first.search ≡ (steps_of (Two K) I).search
    agree = let ready = passed_ready f in heaps_agree ready.valid One (Two K) tt (allowed_segmented (Two K) ready.allowed)

    both_made : {one two : Run} {between : Lent} → Ran One I (Ok tt) (Ok one) entry between → Ran (Two K) I (Ok tt) (Ok two) between exit
        → BothReturned K I L L' (Ok (record { one = one; two = two }))
    both_made {one} {two} {between} P Q =
        let behind = run_behind (omega arith) agree entry between exit P Q in
        record {
          both = record { one = one; two = two };
          accepted = refl;
          first_numbers = P.numbers;
          second_numbers = Q.numbers;
          left = record {
            distances_after = behind.distances ∙ ap (λ (s : Search). words_after (Ok tt) s.distances L.distances) (sym agree);
            parents_after = behind.parents ∙ ap (λ (s : Search). words_after (Ok tt) s.parents L.parents) (sym agree);
            roster_after = behind.roster ∙ ap (λ (s : Search). words_after (Ok tt) s.roster L.roster) (sym agree);
            work_after = behind.work;
          };
        }

    -- As the code tells it: each run's checks are those of the lists as they are then.
    module _ (between : Lent)
        (distances : length between.distances ≡ length L.distances) (parents : length between.parents ≡ length L.parents)
        (roster : length between.roster ≡ length L.roster) (work : length between.work ≡ length L.work) where
      second_accepted : first_fault (run_checks (Two K) I (lengths_of between)) ≡ Ok tt
      second_accepted =
          let same : lengths_of between ≡ plan_lengths L = rw (distances, parents, roster, work) refl in
          ap (λ (k : Lengths). first_fault (run_checks (Two K) I k)) same ∙ f

      pub second_runs : {fault : Fault} {after : Lent} → Promised (Two K) I (Err fault) between after → ⊥
      second_runs Q = never_refused second_accepted Q

      pub both_returned : {one two : Run} → first_fault (run_checks One I (plan_lengths L)) ≡ Ok tt
          → Promised One I (Ok one) entry between → Promised (Two K) I (Ok two) between exit
          → BothReturned K I L L' (Ok (record { one = one; two = two }))
      both_returned {one} {two} e P Q =
          both_made (subst (λ (k : Check). Ran One I k (Ok one) entry between) e P)
          (subst (λ (k : Check). Ran (Two K) I k (Ok two) between exit) second_accepted Q)

    -- The text of what is given back is that of the steps.
    pub both_run : {m : ℕ} {answer : Result BothRuns Fault} {output output' : List ℕ} {written : ℕ} → BothReturned K I L L' answer
        → Writes 0 (runs_text I.map.nodes m answer L'.distances L'.parents) output output' written → BothRun m K I L L' output output' written
    unfolding runs_text accepted_text
    both_run {m} {answer} R W =
        let routes = (one_level_demanded (passed_ready f).valid).cheapest in
        let same : runs_text I.map.nodes m answer L'.distances L'.parents ≡ heaps_text m K I =
        rw (
          R.accepted,
          ap (λ (n : Numbers). n.reached) R.first_numbers,
          ap (λ (n : Numbers). n.buckets) R.first_numbers,
          ap (λ (n : Numbers). n.counts) R.first_numbers,
          ap (λ (n : Numbers). n.buckets) R.second_numbers,
          ap (λ (n : Numbers). n.counts) R.second_numbers,
          R.left.distances_after,
          R.left.parents_after,
          nodes_told I.map.nodes first.search.distances first.search.parents (drop (length first.search.distances) L.distances)
              (drop (length first.search.parents) L.parents) (omega (arith, routes.distances_length)) (omega (arith, routes.parents_length)),
        ) refl in
        record { text = writes_same same W; left = R.left }
