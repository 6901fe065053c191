-- What a route gives back that cannot be refused: its nodes are found, and they stand at the front of the list. Assumes nothing.
use Prim.Native.Nat.{ℕ}
use native.Mathlib.Omega.{arith}
use mathlib.Core.Path.{◌≡◌, sym, ◌∙◌, ap, subst}
use mathlib.Core.List.{List}
use lib.ListN.{length, take, drop}
use lib.Seq.{take_at}
use Rattle.model.specs.Answers.{Check, words_after}
use Rattle.std.specs.Prelude.{Ok, Err}
use Rattle.model.specs.declared.Fault.{Fault}
use Rattle.checks.specs.Checks.{first_fault}
use Rattle.route.specs.Routes.{RouteAnswer, route_walk, route_checks, RouteNumbers, route_numbers_of, RouteGiven, RoutePromised}
use Rattle.itineraries.specs.Itineraries.{nodes_to, Routable}

module _ {n source : ℕ} {starts heads parents : List ℕ} {v : ℕ} {answer : RouteAnswer} {words words' : List ℕ} (room : length words ≡ 512)
    (R : Routable n source starts heads parents v) (P : RoutePromised n source starts heads parents v answer words words') where
  abbrev nodes : List ℕ
  nodes = nodes_to n source starts heads parents v

  promised : RouteGiven (Ok tt) (route_walk n source starts heads parents v) answer words words'
  promised =
      subst (λ (k : Check). RouteGiven k (route_walk n source starts heads parents v) answer words words')
      (ap (λ (k : ℕ). first_fault (route_checks n source starts heads parents v k)) room ∙ R.accepted) P

  pub found_list : words' ≡ words_after (Ok tt) nodes words
  found_list = promised.list

  pub found_count : {count : ℕ} → answer ≡ Ok count → count ≡ length nodes
  found_count e = ap (λ (k : RouteNumbers). k.nodes) (sym (ap route_numbers_of e) ∙ promised.numbers)

  pub found_nodes : {count : ℕ} → answer ≡ Ok count → take count words' ≡ nodes
  found_nodes {count} e = ap (take count) found_list ∙ take_at nodes (drop (length nodes) words) count (sym (found_count e))

  pub never_refused : {fault : Fault} → answer ≡ Err fault → ⊥
  never_refused e = omega (arith, ap (λ (k : RouteNumbers). k.nodes) (sym (ap route_numbers_of e) ∙ promised.numbers), R.some)
