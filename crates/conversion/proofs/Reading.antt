-- What an answer of the reader tells of a road file, with the words that `convert` lends, and what the writer's checks then come to. Assumes
-- nothing.
use Prim.Native.Nat.{ℕ, suc, ◌+◌, ◌≤◌, ◌<◌}
use native.Mathlib.Omega.{arith}
use mathlib.Core.Bool.{Bool, true, false, cond}
use mathlib.Core.Path.{◌≡◌, refl, sym, ap, subst, ◌∙◌}
use mathlib.Core.List.{List, ◌++◌, append_assoc}
use lib.Dec.{ltb}
use lib.ListN.{length, take}
use borrow.Author.Tests.{lt-ltb, le-ltb}
use Rattle.std.specs.Prelude.{Ok, Err}
use Rattle.model.specs.Answers.{Check, fault_of}
use Rattle.model.specs.declared.Kind.TheVariants.{InputSize}
use Rattle.model.specs.declared.Fault.{Fault}
use Rattle.theory.specs.Runs.{Inputs}
use Rattle.theory.specs.declared.Levels.TheVariants.{Two}
use Rattle.theory.proofs.Cases.{differ}
use Rattle.checks.specs.Checks.{first_fault, map_checks, levels_checks}
use Rattle.checks.proofs.Order.{stopped}
use Rattle.grouping.specs.Arcs.{tail_key}
use Rattle.grouping.proofs.Starts.{starts_length}
use Rattle.dimacs_checks.specs.Checking.{road_check}
use Rattle.dimacs.specs.declared.RoadSize.{RoadSize}
use Rattle.dimacs.specs.Roads.{Road, road, road_starts, road_heads, road_costs, road_inputs}
use Rattle.dimacs.specs.Promise.{DimacsAnswer, dimacs_answer, DimacsAnswered}
use Rattle.dimacs.proofs.Runnable.{RoadFits, roads_fit}
use Rattle.reader.proofs.Told.{front}
use Rattle.writer.specs.Promise.{write_checks, Writable}
use Rattle.writer.proofs.Answered.{found_writable}
use Rattle.writer.proofs.Theorems.{roomy_accepted}
use Rattle.conversion.specs.Conversion.{road_file_check, front_inputs}

-- ---- the most bytes

pub long_check : (bytes : List ℕ) (C : ℕ) → 65536 < length bytes → road_file_check bytes C ≡ Err (fault_of InputSize 0)
unfolding road_file_check
long_check bytes C long = rw (lt-ltb 65536 (length bytes) long) refl

pub short_check : (bytes : List ℕ) (C : ℕ) → length bytes ≤ 65536 → road_file_check bytes C ≡ road_check bytes C 513 2048 2048
unfolding road_file_check
short_check bytes C short = rw (le-ltb 65536 (length bytes) short) refl

-- The words lent are enough for the map of a file that passes.
pub file_fits : (bytes : List ℕ) (C : ℕ) → road_file_check bytes C ≡ Ok tt → RoadFits (road bytes) 513 2048 2048
unfolding road_file_check
file_fits bytes C e = go (ltb 65536 (length bytes)) e
  where
    go : (long : Bool) → cond long (Err (fault_of InputSize 0)) (road_check bytes C 513 2048 2048) ≡ Ok tt → RoadFits (road bytes) 513 2048 2048
    go true f = differ (cc)
    go false f = roads_fit bytes C 513 2048 2048 f

-- ---- what the answer tells

fault_told : (check : Check) (told : Road) {fault : Fault} → dimacs_answer check told ≡ Err fault → check ≡ Err fault
fault_told (Ok tt) told e = differ (cc)
fault_told (Err fault) told e = let same : Err fault ≡ dimacs_answer (Err fault) told = refl in cc

size_passed : (check : Check) (told : Road) {size : RoadSize} → dimacs_answer check told ≡ Ok size → check ≡ Ok tt
size_passed (Ok tt) told e = refl
size_passed (Err fault) told e = differ (cc)

module _ {check : Check} {bytes starts heads costs starts' heads' costs' : List ℕ} {answer : DimacsAnswer}
    (P : DimacsAnswered check bytes starts heads costs starts' heads' costs' answer) where
  abbrev Told : Check → Type 0
  Told made = DimacsAnswered made bytes starts heads costs starts' heads' costs' answer

  module _ {fault : Fault} (a : answer ≡ Err fault) where
    pub refused : check ≡ Err fault
    refused = fault_told check (road bytes) (sym P.answered ∙ a)

    pub refused_told : Told (Err fault)
    refused_told = subst Told refused P

  module _ {size : RoadSize} (a : answer ≡ Ok size) where
    pub passed : check ≡ Ok tt
    passed = size_passed check (road bytes) (sym P.answered ∙ a)

    pub read_told : Told (Ok tt)
    read_told = subst Told passed P

    same : size ≡ record { nodes = (road bytes).nodes; arcs = (road bytes).count }
    same = let e : Ok size ≡ dimacs_answer (Ok tt) (road bytes) = sym a ∙ read_told.answered in cc

    pub nodes_told : size.nodes ≡ (road bytes).nodes
    nodes_told = ap (λ (k : RoadSize). k.nodes) same

    pub count_told : size.arcs ≡ (road bytes).count
    count_told = ap (λ (k : RoadSize). k.arcs) same

    pub starts_front : (take (size.nodes + 1) starts' ≡ road_starts bytes) × (size.nodes + 1 ≤ length starts')
    starts_front =
        front (road_starts bytes) starts (size.nodes + 1) read_told.starts_after
        (starts_length tail_key 0 (suc (road bytes).nodes) (road bytes).arcs ∙ omega (arith, nodes_told))

    module _ {room₀ room₁ room₂ : ℕ} (fits : RoadFits (road bytes) room₀ room₁ room₂) where
      pub heads_front : (take size.arcs heads' ≡ road_heads bytes) × (size.arcs ≤ length heads')
      heads_front = front (road_heads bytes) heads size.arcs read_told.heads_after (fits.heads_count ∙ sym count_told)

      pub costs_front : (take size.arcs costs' ≡ road_costs bytes) × (size.arcs ≤ length costs')
      costs_front = front (road_costs bytes) costs size.arcs read_told.costs_after (fits.costs_count ∙ sym count_told)

      -- what the writer is given is what the file tells
      pub inputs_told : (C source : ℕ) → front_inputs size.nodes size.arcs C source starts' heads' costs' ≡ road_inputs bytes C source
      inputs_told C source = rw (starts_front.0, heads_front.0, costs_front.0, nodes_told) refl

-- ---- the output is long enough

module _ (bytes : List ℕ) (C source K : ℕ) where
  abbrev I : Inputs
  I = road_inputs bytes C source

  -- 1 to 9, without the buffer's 10
  abbrev pub numbers_checks : List Check
  numbers_checks = map_checks I ++ levels_checks (Two K)

  pub passed_writable : first_fault numbers_checks ≡ Ok tt → Writable I K
  passed_writable e = found_writable I K refl e

  -- 10 cannot come: the checks stop before it, or the file is short enough.
  pub room_enough : road_file_check bytes C ≡ Ok tt → first_fault (write_checks I K 40992) ≡ first_fault numbers_checks
  unfolding write_checks
  room_enough passed = go (first_fault numbers_checks) refl
    where
      fits : RoadFits (road bytes) 513 2048 2048
      fits = file_fits bytes C passed

      go : (made : Check) → first_fault numbers_checks ≡ made → first_fault (write_checks I K 40992) ≡ made
      go (Ok tt) e =
          roomy_accepted I K 40992 (passed_writable e) (omega (arith, fits.heads_count, fits.starts_fit, fits.heads_fit))
      go (Err fault) e =
          sym (ap first_fault (append_assoc (map_checks I) (levels_checks (Two K)) _)) ∙ sym (stopped numbers_checks _ refl e) ∙ e
