-- What the checks of a route show, and how they come together with the walk. Assumes nothing.
use Prim.Native.Nat.{ℕ, ◌+◌, ◌≤◌, ◌<◌}
use native.Mathlib.Omega.{arith}
use mathlib.Core.Bool.{Bool, true, false, cond, not, ◌&&◌}
use mathlib.Core.Path.{◌≡◌, refl, sym, ◌∙◌, ap}
use mathlib.Core.List.{List, [], ◌∷◌, ◌++◌}
use lib.Dec.{ltb, leb, eqb}
use lib.ListN.{length, get_or, drop, length-replicate}
use borrow.Author.Tests.{le-leb, lt-leb, leb-false}
use Rattle.std.specs.Prelude.{Ok, Err}
use Rattle.model.specs.Answers.{Check, fault_of}
use Rattle.model.specs.declared.Kind.TheVariants.{NodeCount, Destination, NoParent, RouteRoom}
use Rattle.model.specs.declared.Fault.{Fault}
use Rattle.theory.specs.Maps.{parent_of}
use Rattle.theory.specs.Maps as maps
use Rattle.theory.proofs.Cases.{differ}
use Rattle.theory.proofs.Lists.{get_d_inside}
use Rattle.check_numbers.specs.Numbers.{fault_if}
use Rattle.checks.specs.Checks.{first_fault}
use Rattle.checks.proofs.Order.{AllPass, none, more, passed_all, stopped, gone_on}
use Rattle.checks.proofs.Sizes.{passed_range, passed_heads, passed_starts, passed_lent}
use Rattle.checks.proofs.Valid.{passed_sound}
use Rattle.walk.specs.declared.WalkError.TheVariants.{NoRoom}
use Rattle.walk.specs.Walk.{Walk, NoWalk, Nodes, Table, walked_of, walked_words}
use Rattle.route.specs.Routes.{RouteAnswer, route_walk, table_size_checks, table_checks, destination_check, parent_check, walk_check, room_check, route_checks, route_numbers_of, RouteGiven, RoutePromised, walked_numbers}

-- ---- the table

pub sizes_pass : (n source starts heads : ℕ) → AllPass (table_size_checks n source starts heads) → (0 < n) × (starts ≡ n + 1)
unfolding table_size_checks
sizes_pass n source starts heads (more nodes (more from (more count (more words none)))) = ((passed_range NodeCount n 1 4096 nodes).0, passed_starts n starts words)

module _ (n source : ℕ) (starts heads : List ℕ) where
  table_sound : (parents : List ℕ) → AllPass (table_checks n source starts heads (length parents)) → Table n source starts heads parents
  unfolding table_size_checks table_checks
  table_sound parents (more nodes (more from (more few (more count (more words (more below (more long none))))))) = record {
    sound =
        passed_sound
        (record {
          nodes = nodes;
          from = from;
          few = passed_heads (length heads) few;
          paired = length-replicate (length heads) 0;
          held = length-replicate n 0;
          count = count;
          words = words;
          below = below;
        });
    long = passed_lent 1 (length parents) n long;
  }

  pub passed_table : (parents : List ℕ) → first_fault (table_checks n source starts heads (length parents)) ≡ Ok tt → Table n source starts heads parents
  passed_table parents e = table_sound parents (passed_all (table_checks n source starts heads (length parents)) e)

-- ---- the destination

module _ (n source : ℕ) (parents : List ℕ) (destination : ℕ) where
  abbrev checks : List Check
  checks = destination_check n destination ∷ parent_check source parents destination ∷ []

  pub destination_far : n ≤ destination → Err (fault_of Destination 0) ≡ first_fault checks
  unfolding fault_if first_fault
  destination_far l = rw (le-leb n destination l) refl

  -- the code's test of the parent, whose word is read
  abbrev missing : Bool
  missing = not (eqb destination source) && eqb (get_or parents destination 0) maps.none

  parent_word : n ≤ length parents → destination < n → missing ≡ (not (eqb destination source) && eqb (parent_of parents destination) maps.none)
  parent_word long l = ap (λ (k : ℕ). not (eqb destination source) && eqb k maps.none) (get_d_inside parents destination 0 maps.none (omega arith))

  pub parent_missing : n ≤ length parents → destination < n → missing ≡ true → Err (fault_of NoParent 0) ≡ first_fault checks
  unfolding fault_if first_fault
  parent_missing long l e = rw (lt-leb n destination l, sym (parent_word long l) ∙ e) refl

  pub destination_passes : n ≤ length parents → destination < n → missing ≡ false → (Ok tt) ≡ first_fault checks
  unfolding fault_if first_fault
  destination_passes long l e = rw (lt-leb n destination l, sym (parent_word long l) ∙ e) refl

  pub destination_node : first_fault checks ≡ Ok tt → destination < n
  unfolding fault_if first_fault
  destination_node e = go (leb n destination) refl e
    where
      go : (t : Bool) → leb n destination ≡ t → first_fault (cond t (Err (fault_of Destination 0)) (Ok tt) ∷ parent_check source parents destination ∷ []) ≡ Ok tt → destination < n
      go true f g = differ (cc)
      go false f g = leb-false n destination f

-- ---- the checks and the walk together

walk_made : (walk : Walk) (words : List ℕ) {answer : RouteAnswer} {words' : List ℕ} → route_numbers_of answer ≡ walked_numbers (walked_of (length words) 0 walk)
    → words' ≡ walked_words 0 walk words → RouteGiven (first_fault (walk_check walk ∷ room_check (length words) walk ∷ [])) walk answer words words'
unfolding fault_if first_fault walked_of walked_words
walk_made NoWalk words e f = record { numbers = e; list = f }
walk_made (Nodes nodes) words {answer} {words'} e f =
    let z : length nodes + 0 ≡ length nodes = omega arith in
    go (ltb (length words) (length nodes)) (rw z at e) (rw z at f)
  where
    go : (t : Bool) → route_numbers_of answer ≡ walked_numbers (cond t (Err NoRoom) (Ok (length nodes))) → words' ≡ cond t words (nodes ++ drop (length nodes) words)
        → RouteGiven (first_fault (cond t (Err (fault_of RouteRoom 0)) (Ok tt) ∷ [])) (Nodes nodes) answer words words'
    go true e f = record { numbers = e; list = f }
    go false e f = record { numbers = e; list = f }

module _ (n source : ℕ) (starts heads parents : List ℕ) (destination : ℕ) where
  abbrev table : List Check
  table = table_checks n source starts heads (length parents)

  abbrev ends : List Check
  ends = destination_check n destination ∷ parent_check source parents destination ∷ []

  abbrev walk : Walk
  walk = route_walk n source starts heads parents destination

  abbrev rest : (room : ℕ) → List Check
  rest room = walk_check walk ∷ room_check room walk ∷ []

  refused_given : {check : Check} {fault : Fault} {answer : RouteAnswer} (words : List ℕ) → check ≡ Err fault
      → answer ≡ Err fault → RouteGiven check walk answer words words
  refused_given words e f = rw e (record { numbers = ap route_numbers_of f; list = refl })

  pub table_refused : (words : List ℕ) {answer : RouteAnswer} {fault : Fault} → first_fault table ≡ Err fault
      → answer ≡ Err fault → RoutePromised n source starts heads parents destination answer words words
  unfolding route_checks
  table_refused words e f = refused_given words (sym (stopped table (ends ++ rest (length words)) refl e) ∙ e) f

  pub destination_refused : (words : List ℕ) {answer : RouteAnswer} {fault : Fault} → first_fault table ≡ Ok tt → first_fault ends ≡ Err fault
      → answer ≡ Err fault → RoutePromised n source starts heads parents destination answer words words
  unfolding route_checks
  destination_refused words p e f =
      refused_given words (sym (gone_on table p (record { is = stopped ends (rest (length words)) refl e })) ∙ e) f

  pub walk_promised : (words : List ℕ) {answer : RouteAnswer} {words' : List ℕ} → first_fault table ≡ Ok tt → first_fault ends ≡ Ok tt
      → route_numbers_of answer ≡ walked_numbers (walked_of (length words) 0 walk) → words' ≡ walked_words 0 walk words
      → RoutePromised n source starts heads parents destination answer words words'
  unfolding route_checks
  walk_promised words p q e f =
      let inner = gone_on ends q (record { is = refl {a = first_fault (rest (length words))} }) in
      rw (sym (gone_on table p (record { is = inner }))) (walk_made walk words e f)
