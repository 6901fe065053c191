-- From what the reader and the run give to the whole answer. Assumes nothing.
use Prim.Native.Nat.{ℕ, ◌≤◌, ◌<◌}
use native.Mathlib.Omega.{arith}
use mathlib.Core.Path.{◌≡◌, refl, sym, subst}
use mathlib.Core.List.{List}
use lib.ListN.{length}
use Rattle.model.specs.Answers.{Check, fault_of}
use Rattle.model.specs.declared.Kind.TheVariants.{InputSize}
use Rattle.std.specs.Prelude.{Ok, Err}
use Rattle.model.specs.declared.Fault.{Fault}
use Rattle.reader.specs.declared.PlanHeader.{PlanHeader}
use Rattle.theory.specs.declared.Levels.TheVariants.{One}
use Rattle.fields.specs.Writing.{Writes}
use Rattle.fields.proofs.Written.{writes_inside}
use Rattle.reader.specs.Plans.{Plan}
use Rattle.reader.specs.Promise.{PlanAnswer, PlanPromised}
use Rattle.report.specs.Report.{refused_text}
use Rattle.planning.specs.Planning.{planning_check, PlanLists, plan_lists, WordsLent, map_inputs, MapRunnable}
use Rattle.planning.proofs.Reading.{map_in, long_check, refused_left, refused_check, untouched, passed_check, inputs_read, map_read, read_left}
use Rattle.itineraries.specs.Itineraries.{routes_text, Listed, ItinerariesPromised, RunListed}

refused_listed : (bytes : List ℕ) {l : PlanLists} {fault : Fault} {route output output' : List ℕ} {written : ℕ} → planning_check bytes ≡ Err fault
    → Writes 0 (refused_text fault) output output' written → ItinerariesPromised bytes l l route route output output' written
refused_listed bytes e W = rw e (record { text = W; lists = refused_left; route_after = refl })

pub too_long : (bytes : List ℕ) (l : PlanLists) {route output output' : List ℕ} {written : ℕ} → 65536 < length bytes
    → Writes 0 (refused_text (fault_of InputSize 0)) output output' written → ItinerariesPromised bytes l l route route output output' written
too_long bytes l long W = refused_listed bytes (long_check bytes long) W

module _ (bytes : List ℕ) (short : length bytes ≤ 65536) {l : PlanLists} (lent : WordsLent l) {starts' heads' costs' holds' : List ℕ} {answer : PlanAnswer}
    (P : PlanPromised bytes l.starts l.heads l.costs l.holds starts' heads' costs' holds' answer) where
  pub read_refused : {fault : Fault} {route output output' : List ℕ} {written : ℕ} → answer ≡ Err fault → Writes 0 (refused_text fault) output output' written
      → ItinerariesPromised bytes l (map_in l starts' heads' costs' holds') route route output output' written
  read_refused {route = route} {output = output} {output' = output'} {written = written} a W =
      subst (λ (l' : PlanLists). ItinerariesPromised bytes l l' route route output output' written) (sym (untouched bytes short lent P a))
      (refused_listed bytes (refused_check bytes short lent P a) W)

  module _ {header : PlanHeader} (a : answer ≡ Ok header) where
    pub one_read : MapRunnable One header (map_in l starts' heads' costs' holds')
    one_read = map_read bytes short lent P a One tt (omega arith)

    pub map_listed : {distances' parents' roster' work' route route' output output' : List ℕ} {written : ℕ} → let l' = plan_lists starts' heads' costs' holds' distances' parents' roster' work' in
        RunListed (map_inputs header (map_in l starts' heads' costs' holds')) (map_in l starts' heads' costs' holds') l' route route' output output' written
        → ItinerariesPromised bytes l l' route route' output output' written
    map_listed B =
        let E = rw (inputs_read bytes short lent P a) at B in
        rw (passed_check bytes short lent P a) (record { text = E.text; lists = read_left bytes short lent P a _ E.left; route_after = E.route_after })

-- What is written is the text of the file.
pub answer_text : (bytes : List ℕ) {l l' : PlanLists} {route route' output output' : List ℕ} {written : ℕ}
    → ItinerariesPromised bytes l l' route route' output output' written → Writes 0 (routes_text bytes) output output' written
unfolding routes_text
answer_text bytes A = A.text

-- What is written lies within the output.
pub answer_within : {check : Check} {plan : Plan} {l l' : PlanLists} {route route' output output' : List ℕ} {written : ℕ}
    → Listed check plan l l' route route' output output' written → written ≤ length output'
answer_within A = writes_inside A.text
