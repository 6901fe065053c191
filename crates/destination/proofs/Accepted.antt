-- What an accepted run to a destination leaves is what is promised, for both heaps. Assumes nothing.
use Prim.Native.Nat.{ℕ, ◌+◌, ◌≤◌}
use native.Mathlib.Numerals.{add-one}
use native.Mathlib.Omega.{arith}
use mathlib.Core.Path.{◌≡◌, refl, sym, ◌∙◌, ap, subst}
use mathlib.Core.List.{List, ◌++◌, map}
use lib.ListN.{length, get_or, take, drop, length-map, length-append, length-drop}
use lib.Seq.{take_at, drop_at}
use Rattle.model.specs.Answers.{Check, RunAnswer, numbers_of, words_after}
use Rattle.std.specs.Prelude.{Ok, Err}
use Rattle.model.specs.declared.Fault.{Fault}
use Rattle.theory.specs.Maps.{none, Map, arcs, Sound}
use Rattle.theory.specs.Runs.{Inputs, inputs, heap_buckets, removal_looks}
use Rattle.theory.specs.declared.Levels.{Levels}
use Rattle.theory.proofs.Demands.{allowed_segmented}
use Rattle.checks.specs.Checks.{first_fault, Ready}
use Rattle.runs.specs.Promise.{Lent, lengths_of, Ran}
use Rattle.reversal.specs.Reversed.{reversed, old_numbers, old_number, old_parents, reversed_inputs, steps_to}
use Rattle.reversal.specs.Demands.{DemandedTo}
use Rattle.reversal.proofs.Numbers.{old_length}
use Rattle.reversal.proofs.Valid.{reversed_arcs, reversed_sound, reversed_valid}
use Rattle.reversal.proofs.Demanded.{steps_demanded}
use Rattle.reversing.specs.Reversing.{Reversible, ReversedFilled}
use Rattle.destination_checks.specs.Destination.{ReadyTo, checks_to}
use Rattle.destination.specs.Promise.{LentTo, lent_to, lengths_to, RanTo, PromisedTo}

-- The first words of a list that was filled, and those behind them.
module _ (filled words : List ℕ) {words' : List ℕ} (count : ℕ) (long : length filled ≡ count) (is : words' ≡ words_after (Ok tt) filled words) where
  first_words_lem : take count words' ≡ filled
  first_words_lem = ap (take count) is ∙ take_at filled (drop (length filled) words) count long

  words_fit : count ≤ length words'
  words_fit = omega (arith, ap length is, length-append filled (drop (length filled) words), long)

  words_behind : drop count words' ≡ drop count words
  words_behind = ap (drop count) is ∙ drop_at filled (drop (length filled) words) count long ∙ ap (λ (k : ℕ). drop k words) long

-- Inputs and lists that have passed the checks.
module _ {L : Levels} {I : Inputs} (l : LentTo) (ready : ReadyTo L I (lengths_to l)) where
  abbrev M : Map
  M = I.map

  sound : Sound M I.source
  sound = ready.valid.sound

  pub reversible : Reversible M.nodes M.starts M.heads M.costs l.starts l.heads l.costs l.arcs
  reversible = record {
    holds = M.holds;
    source = I.source;
    sound = sound;
    starts_fit = ready.starts_fit;
    heads_fit = ready.heads_fit;
    costs_fit = ready.costs_fit;
    arcs_fit = ready.arcs_fit;
  }

  -- The reversed map is one that the steps take.
  pub ready_run : Ready L (reversed_inputs I) (lengths_of l.run)
  unfolding reversed
  ready_run = record {
    valid = unfold reversed in reversed_valid ready.valid;
    allowed = ready.allowed;
    distances_fit = ready.distances_fit;
    parents_fit = ready.parents_fit;
    roster_fit = ready.roster_fit;
    work_fit = ready.work_fit;
  }

  demanded : DemandedTo M I.source (heap_buckets L I.ceiling) (removal_looks L I.ceiling) (steps_to L I)
  demanded = steps_demanded ready.valid L (allowed_segmented L ready.allowed)

  -- The working lists hold the reversed map.
  module _ {starts' heads' costs' arcs' : List ℕ} (f : ReversedFilled M l.starts l.heads l.costs l.arcs starts' heads' costs' arcs') where
    starts_are : take (M.nodes + 1) starts' ≡ (reversed M).starts
    unfolding reversed
    starts_are = first_words_lem (reversed M).starts l.starts (M.nodes + 1) ((reversed_sound sound).starts_length ∙ sym (add-one M.nodes)) f.starts_filled

    heads_are : take (arcs M) heads' ≡ (reversed M).heads
    heads_are = first_words_lem (reversed M).heads l.heads (arcs M) (reversed_arcs sound) f.heads_filled

    costs_are : take (arcs M) costs' ≡ (reversed M).costs
    costs_are = first_words_lem (reversed M).costs l.costs (arcs M) ((reversed_sound sound).costs_length ∙ reversed_arcs sound) f.costs_filled

    arcs_are : take (arcs M) arcs' ≡ old_numbers M
    arcs_are = first_words_lem (old_numbers M) l.arcs (arcs M) (old_length sound) f.arcs_filled

    -- the parts that are lent to the steps
    pub starts_part : M.nodes + 1 ≡ length (take (M.nodes + 1) starts')
    unfolding reversed
    starts_part = sym (ap length starts_are ∙ (reversed_sound sound).starts_length ∙ sym (add-one M.nodes))

    pub heads_part : arcs M ≡ length (take (arcs M) heads')
    heads_part = sym (ap length heads_are ∙ reversed_arcs sound)

    pub costs_part : arcs M ≡ length (take (arcs M) costs')
    costs_part = sym (ap length costs_are ∙ (reversed_sound sound).costs_length ∙ reversed_arcs sound)

    pub arcs_part : arcs M ≡ length (take (arcs M) arcs')
    arcs_part = sym (ap length arcs_are ∙ old_length sound)

    pub arcs_fit : arcs M ≤ length arcs'
    arcs_fit = words_fit (old_numbers M) l.arcs (arcs M) (old_length sound) f.arcs_filled

    abbrev given : Inputs
    given = inputs M.nodes I.ceiling I.source (take (M.nodes + 1) starts') (take (arcs M) heads') (take (arcs M) costs') M.holds

    given_are : given ≡ reversed_inputs I
    unfolding reversed
    given_are = rw (starts_are, heads_are, costs_are)

    pub ready_given : Ready L given (lengths_of l.run)
    ready_given = subst (λ (J : Inputs). Ready L J (lengths_of l.run)) (sym given_are) ready_run

    -- What the steps leave, once the parents have their old numbers.
    module _ {r : RunAnswer} {k : Lent} (ran : Ran L given (Ok tt) r l.run k) where
      left : Ran L (reversed_inputs I) (Ok tt) r l.run k
      left = subst (λ (J : Inputs). Ran L J (Ok tt) r l.run k) given_are ran

      abbrev parents : List ℕ
      parents = (steps_to L I).search.parents

      parents_long : length parents ≡ M.nodes
      parents_long = sym (length-map parents (old_number M)) ∙ demanded.cheapest.parents_length

      pub parents_part : M.nodes ≡ length (take M.nodes k.parents)
      parents_part = sym (ap length (first_words_lem parents l.run.parents M.nodes parents_long left.parents) ∙ parents_long)

      pub parents_fit : M.nodes ≤ length k.parents
      parents_fit = words_fit parents l.run.parents M.nodes parents_long left.parents

      module _ {parents' : List ℕ} (renamed : parents' ≡ map (λ i. get_or (take (arcs M) arcs') i none) (take M.nodes k.parents)) where
        old_parents_lem : parents' ≡ old_parents M parents
        old_parents_lem =
            renamed
            ∙ ap (λ (p : List ℕ). map (λ i. get_or (take (arcs M) arcs') i none) p) (first_words_lem parents l.run.parents M.nodes parents_long left.parents)
            ∙ ap (λ (a : List ℕ). map (λ i. get_or a i none) parents) arcs_are

        parents_left : parents' ++ drop M.nodes k.parents ≡ words_after (Ok tt) (old_parents M parents) l.run.parents
        parents_left =
            ap (λ (p : List ℕ). p ++ drop M.nodes k.parents) old_parents_lem
            ∙ ap (λ (p : List ℕ). old_parents M parents ++ p) (words_behind parents l.run.parents M.nodes parents_long left.parents)
            ∙ ap (λ (n : ℕ). old_parents M parents ++ drop n l.run.parents) (sym demanded.cheapest.parents_length)

        pub parents_kept : length (parents' ++ drop M.nodes k.parents) ≡ length l.run.parents
        parents_kept =
            let old = old_parents M parents in
            let rest = drop (length old) l.run.parents in
            omega (arith, ap length parents_left, length-append old rest, length-drop (length old) l.run.parents, demanded.cheapest.parents_length, ready.parents_fit)

        pub renamed_ran : RanTo L I (Ok tt) r l
            (lent_to k.distances (parents' ++ drop M.nodes k.parents) k.roster k.work starts' heads' costs' arcs')
        unfolding reversed
        renamed_ran = record {
          numbers = left.numbers;
          distances = left.distances;
          parents = parents_left;
          roster = left.roster;
          work = left.work;
          starts = f.starts_filled;
          heads = f.heads_filled;
          costs = f.costs_filled;
          arcs = f.arcs_filled;
          demanded = demanded;
        }

-- The checks have come to `check`, which is that all pass.
pub passed_ran_to : {L : Levels} {I : Inputs} {l l' : LentTo} {check : Check} {r : RunAnswer} → check ≡ first_fault (checks_to L I (lengths_to l))
    → check ≡ Ok tt → RanTo L I (Ok tt) r l l' → PromisedTo L I r l l'
passed_ran_to is passed ran = rw (sym is ∙ passed) ran

-- A refusal leaves every list as it was.
pub refused_ran_to : {L : Levels} {I : Inputs} {check : Check} {fault : Fault} {r : RunAnswer} {l : LentTo} → check ≡ Err fault
    → r ≡ Err fault → RanTo L I check r l l
refused_ran_to e q = rw e (record {
  numbers = ap numbers_of q;
  distances = refl;
  parents = refl;
  roster = refl;
  work = refl;
  starts = refl;
  heads = refl;
  costs = refl;
  arcs = refl;
  demanded = tt;
})
