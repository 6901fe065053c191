-- From what the one-level run leaves in the lists to the lines and words of its routes, as the definition has them. Assumes nothing.
use Prim.Native.Nat.{ℕ, zero, suc, ◌≤◌, ◌<◌}
use native.Mathlib.Omega.{arith}
use mathlib.Core.Path.{◌≡◌, refl, sym, ◌∙◌, ap, ap₂, subst}
use mathlib.Core.Logic.{inl, inr}
use mathlib.Core.List.{List, ◌++◌}
use lib.ListN.{length, get_or, drop, length-append, get_or-append}
use Rattle.model.specs.Answers.{Check, RunAnswer}
use Rattle.std.specs.Prelude.{Ok}
use Rattle.theory.specs.Maps.{none}
use Rattle.theory.specs.Heap.{Heap}
use Rattle.theory.specs.Runs.{Inputs, ValidInputs, steps_of}
use Rattle.theory.specs.declared.Levels.TheVariants.{One}
use Rattle.theory.proofs.Cases.{same?}
use Rattle.checks.specs.Checks.{first_fault, run_checks}
use Rattle.checks.proofs.Valid.{passed_ready}
use Rattle.runs.specs.Promise.{Lent, lengths_of, Ran, OneLevelPromised}
use Rattle.fields.specs.Writing.{Writes}
use Rattle.fields.proofs.Written.{writes_same}
use Rattle.reader.specs.declared.PlanHeader.{PlanHeader}
use Rattle.planning.specs.Planning.{PlanLists, lent_of, map_inputs, MapRunnable}
use Rattle.itineraries.specs.Itineraries.{line_if_reached, route_lines, nodes_to, run_route, run_lines, words_if_reached, route_fields, run_fields, AllRoutable, RunListed}
use Rattle.itineraries.proofs.Lines.{unreached_line, unreached_words}
use Rattle.itineraries.proofs.Reaching.{nodes_past, reached_routable}

-- ---- the same routes of the nodes that are reached

module _ (distance : ℕ) (nodes nodes' : List ℕ) (same : (distance ≡ none → ⊥) → nodes ≡ nodes') where
  line_same : (v : ℕ) → line_if_reached v distance nodes ≡ line_if_reached v distance nodes'
  line_same v = elim (same? distance none) [
    | inl e ↦ sym (unreached_line v distance nodes e) ∙ unreached_line v distance nodes' e
    | inr q ↦ ap (line_if_reached v distance) (same q)
  ]

  word_same : (words : List ℕ) → words_if_reached distance nodes words ≡ words_if_reached distance nodes' words
  word_same words = elim (same? distance none) [
    | inl e ↦ sym (unreached_words 0 distance nodes words e) ∙ unreached_words 0 distance nodes' words e
    | inr q ↦ ap (λ (l : List ℕ). words_if_reached distance l words) (same q)
  ]

module _ (distances distances' : List ℕ) (routes routes' : ℕ → List ℕ) where
  lines_same : (count : ℕ) → ((v : ℕ) → v < count → get_or distances v 0 ≡ get_or distances' v 0)
      → ((v : ℕ) → v < count → (get_or distances' v 0 ≡ none → ⊥) → routes v ≡ routes' v) → route_lines count distances routes ≡ route_lines count distances' routes'
  unfolding route_lines
  lines_same zero d r = refl
  lines_same (suc v) d r =
      ap₂ (λ (x y : List ℕ). x ++ y) (lines_same v (λ w l. d w (omega arith)) (λ w l. r w (omega arith)))
      (ap (λ (k : ℕ). line_if_reached v k (routes v)) (d v (omega arith)) ∙ line_same (get_or distances' v 0) (routes v) (routes' v) (r v (omega arith)) v)

  words_same : (words : List ℕ) (count : ℕ) → ((v : ℕ) → v < count → get_or distances v 0 ≡ get_or distances' v 0)
      → ((v : ℕ) → v < count → (get_or distances' v 0 ≡ none → ⊥) → routes v ≡ routes' v) → route_fields count distances routes words ≡ route_fields count distances' routes' words
  unfolding route_fields
  words_same words zero d r = refl
  words_same words (suc v) d r =
      ap₂ (λ (k : ℕ) (l : List ℕ). words_if_reached k (routes v) l) (d v (omega arith)) (words_same words v (λ w l. d w (omega arith)) (λ w l. r w (omega arith)))
      ∙ word_same (get_or distances' v 0) (routes v) (routes' v) (r v (omega arith)) (route_fields v distances' routes' words)

-- ---- a run that is accepted

module _ (I : Inputs) (l l' : Lent) {r : RunAnswer} (passed : first_fault (run_checks One I (lengths_of l)) ≡ Ok tt) (P : OneLevelPromised I r l l') where
  abbrev n : ℕ
  n = I.map.nodes

  abbrev run : Heap
  run = steps_of One I

  -- the nodes of each route by the parents that are lent
  abbrev lent_route : ℕ → List ℕ
  lent_route = nodes_to n I.source I.map.starts I.map.heads l'.parents

  pub ran : Ran One I (Ok tt) r l l'
  ran = subst (λ (k : Check). Ran One I k r l l') passed P

  valid : ValidInputs I
  valid = (passed_ready passed).valid

  abbrev past : List ℕ
  past = drop (length run.search.parents) l.parents

  lent_distance : (v : ℕ) → v < n → get_or l'.distances v 0 ≡ get_or run.search.distances v 0
  lent_distance v h =
      ap (λ (words : List ℕ). get_or words v 0) ran.distances
      ∙ get_or-append run.search.distances (drop (length run.search.distances) l.distances) 0 v (omega (arith, ran.demanded.cheapest.distances_length))

  pub all_routable : n ≤ 512 → AllRoutable n I.source I.map.starts I.map.heads l'.distances l'.parents
  all_routable h = record {
    nodes_fit = h;
    distances_fit = omega (
      arith,
      ap length ran.distances,
      length-append run.search.distances (drop (length run.search.distances) l.distances),
      ran.demanded.cheapest.distances_length,
    );
    routable = λ v node q.
        rw ran.parents (reached_routable valid.sound ran.demanded.cheapest v node (λ e. q (lent_distance v node ∙ e)) past h);
  }

  lent_nodes : (v : ℕ) → v < n → (get_or run.search.distances v 0 ≡ none → ⊥) → lent_route v ≡ run_route I v
  lent_nodes v node q =
      ap (λ (parents : List ℕ). nodes_to n I.source I.map.starts I.map.heads parents v) ran.parents
      ∙ nodes_past valid.sound ran.demanded.cheapest v node q past

  pub lent_lines : route_lines n l'.distances lent_route ≡ run_lines I
  lent_lines = lines_same l'.distances run.search.distances lent_route (run_route I) n lent_distance lent_nodes

  pub lent_words : (words : List ℕ) → route_fields n l'.distances lent_route words ≡ run_fields I words
  lent_words words = words_same l'.distances run.search.distances lent_route (run_route I) words n lent_distance lent_nodes

-- ---- as the code tells it

module _ {header : PlanHeader} {l : PlanLists} (R : MapRunnable One header l) where
  abbrev I : Inputs
  I = map_inputs header l

  pub run_routable : (l' : Lent) {r : RunAnswer} → OneLevelPromised I r (lent_of l) l'
      → AllRoutable header.nodes header.source.0 I.map.starts I.map.heads l'.distances l'.parents
  run_routable l' P = all_routable I (lent_of l) l' R.accepted P R.nodes_fit

  pub run_listed : (l' : PlanLists) {r : RunAnswer} {route route' output output' : List ℕ} {written : ℕ} → OneLevelPromised I r (lent_of l) (lent_of l')
      → Writes 0 (route_lines header.nodes l'.distances (nodes_to header.nodes header.source.0 I.map.starts I.map.heads l'.parents)) output output' written
      → route' ≡ route_fields header.nodes l'.distances (nodes_to header.nodes header.source.0 I.map.starts I.map.heads l'.parents) route
      → RunListed I l l' route route' output output' written
  run_listed l' {r} {route} P W e =
      let Q = ran I (lent_of l) (lent_of l') R.accepted P in
      record {
        text = writes_same (lent_lines I (lent_of l) (lent_of l') R.accepted P) W;
        left = record { distances_after = Q.distances; parents_after = Q.parents; roster_after = Q.roster; work_after = Q.work };
        route_after = e ∙ lent_words I (lent_of l) (lent_of l') R.accepted P route;
      }
