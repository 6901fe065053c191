-- The lists of a map pass their checks exactly if they are sound, and a map, a ceiling and a source exactly if they are valid; what the
-- checks of a run say besides. Assumes nothing.
use mathlib.Core.Path.{◌≡◌, refl, sym, ◌∙◌}
use mathlib.Core.List.{List, [], ◌∷◌, ◌++◌}
use Prim.Native.Nat.{ℕ, suc, ◌+◌, ◌-◌, ◌≤◌}
use native.Mathlib.Numerals.{add-one}
use native.Mathlib.Omega.{arith}
use lib.ListN.{length}
use Rattle.std.specs.Prelude.{Ok}
use Rattle.model.specs.Answers.{Check}
use Rattle.theory.specs.Maps.{Map, arcs, tail_of, Sound}
use Rattle.theory.specs.Runs.{Inputs, ValidInputs, Allowed, work_words}
use Rattle.theory.specs.declared.Levels.{Levels}
use Rattle.theory.specs.declared.Levels.TheVariants.{One, Two}
use Rattle.theory.proofs.Maps.Arcs.{leaves_arc}
use Rattle.theory.proofs.Maps.Tails.{tail_leaves, tail_is}
use Rattle.check_numbers.specs.Numbers.{nodes_check, source_check, start_count_check}
use Rattle.check_lists.specs.Lists.{starts_check, heads_check, NoneAbove, NoneFalls}
use Rattle.check_lists.proofs.Start.{rise_passes, passed_fits}
use Rattle.check_lists.proofs.Words.{heads_below, heads_pass, passed_holds, holds_pass}
use Rattle.check_sums.specs.Sums.{Summable}
use Rattle.check_sums.proofs.Sums.{passed_sums, sums_pass}
use Rattle.checks.specs.Checks.{first_fault, size_checks, lists_checks, tail_sums_check, summed_checks, map_checks, LentList, lent_checks, run_lists, levels_checks, call_checks, run_checks, Lengths, Ready}
use Rattle.checks.proofs.Order.{AllPass, none, more, passed_all, all_passed_lem, first_passed, pass_parts, parts_pass}
use Rattle.checks.proofs.Sizes.{passed_range, range_passes, passed_ceiling, ceiling_passes, passed_source, source_passes, passed_arcs, arcs_pass, passed_starts, starts_pass, passed_lent, lent_passes}

-- ---- the lists of a map

-- The checks of a map that look at no cost and no hold pass. Number 4 and the length of holds stand as what they show, since a route
-- checks neither costs nor holds.
pub record ListsPass (M : Map) (source : ℕ) : Type 0 where
  pub nodes : nodes_check M.nodes ≡ Ok tt
  pub from : source_check M.nodes source ≡ Ok tt
  pub few : arcs M ≤ 65536
  pub paired : length M.costs ≡ arcs M
  pub held : length M.holds ≡ M.nodes
  pub count : start_count_check M.nodes (length M.starts) ≡ Ok tt
  pub words : starts_check M.nodes (arcs M) M.starts ≡ Ok tt
  pub below : heads_check M.nodes M.heads ≡ Ok tt

module _ {M : Map} {source : ℕ} where
  pub passed_sound : ListsPass M source → Sound M source
  passed_sound p =
      let range = passed_range _ M.nodes 1 4096 p.nodes in
      let fits = passed_fits M.nodes (arcs M) M.starts p.words in
      record {
        some_node = range.0;
        few_nodes = range.1;
        source_node = passed_source M.nodes source p.from;
        few_arcs = p.few;
        costs_length = p.paired;
        holds_length = p.held;
        starts_length = passed_starts M.nodes (length M.starts) p.count ∙ add-one M.nodes;
        starts_first = (fits 0 (omega arith)).first refl;
        starts_rise = λ v l.
            let e : suc v - 1 ≡ v = omega arith in
            rw e at ((fits (suc v) (omega arith)).rises (omega arith));
        starts_last = (fits M.nodes (omega arith)).last refl;
        heads_nodes = heads_below M.nodes M.heads p.below;
      }

  pub sound_passed : Sound M source → ListsPass M source
  sound_passed s = record {
    nodes = range_passes _ M.nodes 1 4096 s.some_node s.few_nodes;
    from = source_passes M.nodes source s.source_node;
    few = s.few_arcs;
    paired = s.costs_length;
    held = s.holds_length;
    count = starts_pass M.nodes (length M.starts) long;
    words = rise_passes M.nodes (arcs M) M.starts long s.starts_first s.starts_last rise;
    below = heads_pass M.nodes M.heads s.heads_nodes;
  }
    where
      long : length M.starts ≡ M.nodes + 1
      long = s.starts_length ∙ sym (add-one M.nodes)

      rise : NoneFalls M.starts
      rise i l p =
          let e : suc (i - 1) ≡ i = omega arith in
          rw e at (s.starts_rise (i - 1) (omega (arith, s.starts_length)))

-- ---- what the checks of a run's lists show

-- Lists in order, and neither the ceiling nor a hold too high.
pub record Ordered (I : Inputs) : Type 0 where
  pub sound : Sound I.map I.source
  pub low_ceiling : I.ceiling ≤ 1048575
  pub holds_most : NoneAbove I.ceiling I.map.holds

pub ordered_summable : {I : Inputs} → Ordered I → Summable I.map.nodes I.ceiling I.map.starts I.map.costs I.map.holds
ordered_summable {I} o = record { heads = I.map.heads; source = I.source; sound = o.sound; holds_most = o.holds_most }

module _ (I : Inputs) where
  abbrev n : ℕ
  n = I.map.nodes

  abbrev C : ℕ
  C = I.ceiling

  abbrev heads : List ℕ
  heads = I.map.heads

  abbrev costs : List ℕ
  costs = I.map.costs

  abbrev holds : List ℕ
  holds = I.map.holds

  ordered : AllPass (lists_checks I) → Ordered I
  unfolding size_checks lists_checks
  ordered (more nodes (more ceiling (more from (more both (more count (more words (more held (more below none)))))))) =
      let counts = passed_arcs (length heads) (length costs) both in
      let each = passed_holds n C holds held in
      record {
        sound =
            passed_sound
            (record {
              nodes = nodes;
              from = from;
              few = counts.0;
              paired = sym counts.1;
              held = each.0;
              count = count;
              words = words;
              below = below;
            });
        low_ceiling = passed_ceiling C ceiling;
        holds_most = each.1;
      }

  pub passed_ordered : first_fault (lists_checks I) ≡ Ok tt → Ordered I
  passed_ordered e = ordered (passed_all (lists_checks I) e)

  pub ordered_passed : Ordered I → first_fault (lists_checks I) ≡ Ok tt
  unfolding size_checks lists_checks
  ordered_passed o =
      let p = sound_passed o.sound in
      all_passed_lem
      (more p.nodes
      (more (ceiling_passes C o.low_ceiling)
      (more p.from
      (more (arcs_pass (length heads) (length costs) p.few (sym p.paired))
      (more p.count (more p.words (more (holds_pass n C holds p.held o.holds_most) (more p.below none))))))))

  -- ---- a map

  abbrev tails : ℕ → ℕ
  tails a = tail_of n I.map.starts a

  summed_valid : Ordered I → tail_sums_check I ≡ Ok tt → ValidInputs I
  summed_valid o e =
      let sums = passed_sums C tails costs holds e in
      record {
        sound = o.sound;
        low_ceiling = o.low_ceiling;
        holds_most = λ v l. o.holds_most v (omega (arith, o.sound.holds_length));
        sums_most = λ a v h.
            rw (tail_is o.sound a v h) at (sums a (omega (arith, leaves_arc o.sound a v h, o.sound.costs_length)));
      }

  valid_ordered : ValidInputs I → Ordered I
  valid_ordered v = record {
    sound = v.sound;
    low_ceiling = v.low_ceiling;
    holds_most = λ i l. v.holds_most i (omega (arith, v.sound.holds_length));
  }

  valid_summed : ValidInputs I → tail_sums_check I ≡ Ok tt
  valid_summed v =
      sums_pass C tails costs holds
      (λ a l. v.sums_most a (tails a) (tail_leaves v.sound a (omega (arith, v.sound.costs_length))))

  -- whichever hold 8 looks at
  module _ (sums : Check) where
    passed_summed : first_fault (summed_checks I sums) ≡ Ok tt → Ordered I × (sums ≡ Ok tt)
    passed_summed e =
        let p = pass_parts (lists_checks I) (sums ∷ []) e in
        (passed_ordered p.0, first_passed (passed_all (sums ∷ []) p.1))

    summed_passed : Ordered I → sums ≡ Ok tt → first_fault (summed_checks I sums) ≡ Ok tt
    summed_passed o e = parts_pass (lists_checks I) (sums ∷ []) (ordered_passed o) (all_passed_lem (more e none))

  pub passed_valid : first_fault (map_checks I) ≡ Ok tt → ValidInputs I
  unfolding map_checks
  passed_valid e = let p = passed_summed (tail_sums_check I) e in summed_valid p.0 p.1

  pub valid_passed : ValidInputs I → first_fault (map_checks I) ≡ Ok tt
  unfolding map_checks
  valid_passed v = summed_passed (tail_sums_check I) (valid_ordered v) (valid_summed v)

-- ---- a call that runs

-- K is allowed exactly if its check passes
pub passed_allowed : (L : Levels) → first_fault (levels_checks L) ≡ Ok tt → Allowed L
passed_allowed One e = tt
passed_allowed (Two K) e = passed_range _ K 2 64 (first_passed (passed_all _ e))

allowed_passes : (L : Levels) → Allowed L → first_fault (levels_checks L) ≡ Ok tt
allowed_passes One a = all_passed_lem none
allowed_passes (Two K) a = all_passed_lem (more (range_passes _ K 2 64 a.0 a.1) none)

-- The checks of a call that runs pass exactly if these do, whichever hold 8 looks at and whichever lists are lent.
module _ (L : Levels) (I : Inputs) (sums : Check) (lists : List LentList) where
  pub record CallPasses : Type 0 where
    pub ordered : Ordered I
    pub summed : sums ≡ Ok tt
    pub allowed : Allowed L
    pub lent : AllPass (lent_checks 0 lists)

  pub passed_call : first_fault (call_checks L I sums lists) ≡ Ok tt → CallPasses
  passed_call e =
      let p = pass_parts (summed_checks I sums) (levels_checks L ++ lent_checks 0 lists) e in
      let q = pass_parts (levels_checks L) (lent_checks 0 lists) p.1 in
      let map = passed_summed I sums p.0 in
      record { ordered = map.0; summed = map.1; allowed = passed_allowed L q.0; lent = passed_all (lent_checks 0 lists) q.1 }

  pub call_passed : CallPasses → first_fault (call_checks L I sums lists) ≡ Ok tt
  call_passed p =
      parts_pass (summed_checks I sums) (levels_checks L ++ lent_checks 0 lists) (summed_passed I sums p.ordered p.summed)
      (parts_pass (levels_checks L) (lent_checks 0 lists) (allowed_passes L p.allowed) (all_passed_lem p.lent))

-- ---- a run

module _ (L : Levels) (I : Inputs) (room : Lengths) where
  abbrev lists : List LentList
  lists = run_lists I.map.nodes room (work_words L I.map.nodes)

  ready : ValidInputs I → Allowed L → AllPass (lent_checks 0 lists) → Ready L I room
  unfolding lent_checks
  ready valid allowed (more first (more second (more third (more fourth none)))) = record {
    valid = valid;
    allowed = allowed;
    distances_fit = passed_lent 0 room.distances I.map.nodes first;
    parents_fit = passed_lent 1 room.parents I.map.nodes second;
    roster_fit = passed_lent 2 room.roster I.map.nodes third;
    work_fit = passed_lent 3 room.work (work_words L I.map.nodes) fourth;
  }

  lists_pass : Ready L I room → AllPass (lent_checks 0 lists)
  unfolding lent_checks
  lists_pass r =
      more (lent_passes 0 room.distances I.map.nodes r.distances_fit)
      (more (lent_passes 1 room.parents I.map.nodes r.parents_fit)
      (more (lent_passes 2 room.roster I.map.nodes r.roster_fit)
      (more (lent_passes 3 room.work (work_words L I.map.nodes) r.work_fit) none)))

-- The checks of a run pass exactly if it can be made.
module _ {L : Levels} {I : Inputs} {room : Lengths} where
  pub passed_ready : first_fault (run_checks L I room) ≡ Ok tt → Ready L I room
  unfolding run_checks
  passed_ready e =
      let p = passed_call L I (tail_sums_check I) (lists L I room) e in
      ready L I room (summed_valid I p.ordered p.summed) p.allowed p.lent

  pub ready_passed : Ready L I room → first_fault (run_checks L I room) ≡ Ok tt
  unfolding run_checks
  ready_passed r =
      call_passed L I (tail_sums_check I) (lists L I room)
      (record {
        ordered = valid_ordered I r.valid;
        summed = valid_summed I r.valid;
        allowed = r.allowed;
        lent = lists_pass L I room r;
      })
