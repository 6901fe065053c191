-- The checks of a run to a destination pass exactly if it can be made, and none is refused with number 0. Assumes nothing.
use Prim.Native.Nat.{ℕ, ◌+◌, ◌≤◌}
use native.Mathlib.Omega.{arith}
use mathlib.Core.Path.{◌≡◌}
use mathlib.Core.List.{List}
use Rattle.std.specs.Prelude.{Ok, Err}
use Rattle.model.specs.Answers.{number_of}
use Rattle.model.specs.declared.Fault.{Fault}
use Rattle.theory.specs.Maps.{arcs, head_of}
use Rattle.theory.specs.Runs.{Inputs, Allowed, work_words}
use Rattle.theory.specs.declared.Levels.{Levels}
use Rattle.check_sums.proofs.Sums.{passed_sums, sums_pass}
use Rattle.checks.specs.Checks.{first_fault, LentList, lent_checks}
use Rattle.checks.proofs.Order.{AllPass, none, more}
use Rattle.checks.proofs.Sizes.{passed_lent, lent_passes}
use Rattle.checks.proofs.Valid.{Ordered, passed_call, call_passed}
use Rattle.checks.proofs.Numbered.{kind_number}
use Rattle.reversal.specs.Reversed.{ValidTo}
use Rattle.destination_checks.specs.Destination.{head_sums_check, SummableTo, LengthsTo, lists_to, checks_to, ReadyTo}

-- ---- a map

module _ {I : Inputs} where
  pub ordered_summable_to : Ordered I → SummableTo I.ceiling I.map.heads I.map.costs I.map.holds
  ordered_summable_to o = record {
    paired = o.sound.costs_length;
    held = λ a l. omega (arith, o.sound.heads_nodes a l, o.sound.holds_length);
    holds_most = o.holds_most;
  }

  summed_valid : Ordered I → head_sums_check I ≡ Ok tt → ValidTo I.map I.ceiling I.source
  summed_valid o e = record {
    sound = o.sound;
    low_ceiling = o.low_ceiling;
    holds_most = λ v l. o.holds_most v (omega (arith, o.sound.holds_length));
    sums_most = λ a l.
        passed_sums I.ceiling (head_of I.map) I.map.costs I.map.holds e a (omega (arith, o.sound.costs_length));
  }

  valid_ordered : ValidTo I.map I.ceiling I.source → Ordered I
  valid_ordered v = record {
    sound = v.sound;
    low_ceiling = v.low_ceiling;
    holds_most = λ i l. v.holds_most i (omega (arith, v.sound.holds_length));
  }

  valid_summed : ValidTo I.map I.ceiling I.source → head_sums_check I ≡ Ok tt
  valid_summed v =
      sums_pass I.ceiling (head_of I.map) I.map.costs I.map.holds
      (λ a l. v.sums_most a (omega (arith, v.sound.costs_length)))

-- ---- a run to a destination

module _ (L : Levels) (I : Inputs) (lengths : LengthsTo) where
  abbrev n : ℕ
  n = I.map.nodes

  abbrev m : ℕ
  m = arcs I.map

  abbrev lists : List LentList
  lists = lists_to L n m lengths

  ready : ValidTo I.map I.ceiling I.source → Allowed L → AllPass (lent_checks 0 lists) → ReadyTo L I lengths
  unfolding lent_checks
  ready valid allowed (more p0 (more p1 (more p2 (more p3 (more p4 (more p5 (more p6 (more p7 none)))))))) = record {
    valid = valid;
    allowed = allowed;
    distances_fit = passed_lent 0 lengths.run.distances n p0;
    parents_fit = passed_lent 1 lengths.run.parents n p1;
    roster_fit = passed_lent 2 lengths.run.roster n p2;
    work_fit = passed_lent 3 lengths.run.work (work_words L n) p3;
    starts_fit = passed_lent 4 lengths.starts (n + 1) p4;
    heads_fit = passed_lent 5 lengths.heads m p5;
    costs_fit = passed_lent 6 lengths.costs m p6;
    arcs_fit = passed_lent 7 lengths.arcs m p7;
  }

  lists_pass : ReadyTo L I lengths → AllPass (lent_checks 0 lists)
  unfolding lent_checks
  lists_pass r =
      more (lent_passes 0 lengths.run.distances n r.distances_fit)
      (more (lent_passes 1 lengths.run.parents n r.parents_fit)
      (more (lent_passes 2 lengths.run.roster n r.roster_fit)
      (more (lent_passes 3 lengths.run.work (work_words L n) r.work_fit)
      (more (lent_passes 4 lengths.starts (n + 1) r.starts_fit)
      (more (lent_passes 5 lengths.heads m r.heads_fit)
      (more (lent_passes 6 lengths.costs m r.costs_fit)
      (more (lent_passes 7 lengths.arcs m r.arcs_fit) none)))))))

module _ {L : Levels} {I : Inputs} {lengths : LengthsTo} where
  pub passed_ready_to : first_fault (checks_to L I lengths) ≡ Ok tt → ReadyTo L I lengths
  unfolding checks_to
  passed_ready_to e =
      let p = passed_call L I (head_sums_check I) (lists L I lengths) e in
      ready L I lengths (summed_valid p.ordered p.summed) p.allowed p.lent

  pub ready_passed_to : ReadyTo L I lengths → first_fault (checks_to L I lengths) ≡ Ok tt
  unfolding checks_to
  ready_passed_to r =
      call_passed L I (head_sums_check I) (lists L I lengths)
      (record {
        ordered = valid_ordered r.valid;
        summed = valid_summed r.valid;
        allowed = r.allowed;
        lent = lists_pass L I lengths r;
      })

-- So it returns 0 exactly where all its checks pass.
pub fault_number_to : (L : Levels) (I : Inputs) (lengths : LengthsTo) (fault : Fault) → first_fault (checks_to L I lengths) ≡ Err fault
    → 1 ≤ number_of fault.kind
fault_number_to L I lengths fault e = kind_number fault.kind
