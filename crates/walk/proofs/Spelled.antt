-- The walk back and what the parents spell: the walk with enough arcs allowed finds the nodes of the route that the parents spell, and n - 1
-- arcs are enough, since a route that is spelled passes through no node twice. Assumes nothing.
use Prim.Native.Nat.{ℕ, zero, suc, ◌+◌, ◌-◌, ◌≤◌, ◌<◌}
use native.Mathlib.Omega.{arith}
use mathlib.Core.Path.{◌≡◌, refl, sym, ◌∙◌, ap, subst}
use mathlib.Core.Bool.{Bool, true, false}
use mathlib.Core.Logic.{◌≢◌, inl, inr, ⊎_elim}
use mathlib.Core.List.Memᴰ
use mathlib.Core.List.{List, [], ◌∷◌, ◌++◌, Memᴰ}
use lib.ListN.{length, length-append}
use borrow.Author.Tests.{lt-ltb, eq-eqb}
use Rattle.theory.specs.Maps.{Map, arcs, head_of, tail_of, SpelledRoute, parent_of, Sound}
use Rattle.theory.specs.Demands.{Distinct}
use Rattle.theory.proofs.Cases.{same?, differ}
use Rattle.theory.proofs.Lists.{mem_snoc, distinct_snoc}
use Rattle.theory.proofs.Maps.Arcs.{leaves_arc}
use Rattle.theory.proofs.Maps.Tails.{tail_leaves, tail_is}
use Rattle.theory.proofs.Maps.Routes.{spelled_once}
use Rattle.walk.specs.Walk.{leads_to, Walk, NoWalk, Nodes, extended, walk_back, nodes_along}
use Rattle.walk.proofs.Walking.{back_source, back_stops, back_misfit, back_on, leads_arc, leads_head}
use Rattle.walk.proofs.Distinct.{distinct_few}

pub along_snoc : (M : Map) (v : ℕ) (route : List ℕ) (a : ℕ) → nodes_along M v (route ++ (a ∷ [])) ≡ nodes_along M v route ++ (head_of M a ∷ [])
unfolding nodes_along
along_snoc M v [] a = refl
along_snoc M v (b ∷ route) a = ap {B = List ℕ} (λ nodes. v ∷ nodes) (along_snoc M (head_of M b) route a)

pub along_length : (M : Map) (v : ℕ) (route : List ℕ) → length (nodes_along M v route) ≡ suc (length route)
unfolding nodes_along
along_length M v [] = refl
along_length M v (a ∷ route) = ap suc (along_length M (head_of M a) route)

module _ {M : Map} {source : ℕ} (sound : Sound M source) (parents : List ℕ) where
  abbrev back : (allowed v : ℕ) → Walk
  back = walk_back M.nodes M.starts M.heads parents source

  -- ---- what is spelled is found

  spelled_leads : (a : ℕ) → a < arcs M → leads_to M.heads a (head_of M a) ≡ true
  spelled_leads a l = rw (lt-ltb a (arcs M) l, eq-eqb (head_of M a) (head_of M a) refl) refl

  pub spelled_walk : {v : ℕ} {route : List ℕ} → SpelledRoute M source parents v route → (allowed : ℕ) → length route ≤ allowed
      → back allowed v ≡ Nodes (nodes_along M source route)
  unfolding nodes_along
  spelled_walk SpelledRoute.here allowed l = back_source M.nodes source M.starts M.heads parents allowed source refl
  spelled_walk (SpelledRoute.on {t} {route} r a h p q) zero l = absurd (omega (arith, length-append route (a ∷ [])))
  spelled_walk (SpelledRoute.on {t} {route} r a h p q) (suc allowed) l =
      back_on M.nodes source M.starts M.heads parents allowed (head_of M a) (λ e. q (sym e)) (rw p (spelled_leads a (leaves_arc sound a t h)))
      ∙ rw (p, tail_is sound a t h, spelled_walk r allowed (omega (arith, length-append route (a ∷ []))), along_snoc M source route a) refl

  -- ---- what is found is spelled

  -- The route behind a walk.
  pub record Behind (v allowed : ℕ) (nodes : List ℕ) : Type 0 where
    pub route : List ℕ
    pub spelled : SpelledRoute M source parents v route
    pub along : nodes ≡ nodes_along M source route
    pub short : length route ≤ allowed

  nodes_same : {l r : List ℕ} → Nodes l ≡ Nodes r → l ≡ r
  nodes_same e = cc

  behind_on : (v allowed : ℕ) → v ≢ source → leads_to M.heads (parent_of parents v) v ≡ true → (nodes : List ℕ)
      → Behind (tail_of M.nodes M.starts (parent_of parents v)) allowed nodes → Behind v (suc allowed) (nodes ++ (v ∷ []))
  behind_on v allowed q fits nodes B =
      let a = parent_of parents v in
      let head : head_of M a ≡ v = leads_head M.heads a v fits in
      let step = SpelledRoute.on B.spelled a (tail_leaves sound a (leads_arc M.heads a v fits)) (ap (parent_of parents) head) (λ e. q (sym (e ∙ head))) in
      record {
        route = B.route ++ (a ∷ []);
        spelled = subst (λ (w : ℕ). SpelledRoute M source parents w (B.route ++ (a ∷ []))) head step;
        along = rw (along_snoc M source B.route a, head, B.along) refl;
        short = omega (arith, length-append B.route (a ∷ []), B.short);
      }

  at_source : (allowed v : ℕ) (nodes : List ℕ) → v ≡ source → back allowed v ≡ Nodes nodes → Behind v allowed nodes
  unfolding nodes_along
  at_source allowed v nodes s e = record {
    route = [];
    spelled = subst (λ (w : ℕ). SpelledRoute M source parents w []) (sym s) SpelledRoute.here;
    along = nodes_same (sym e ∙ back_source M.nodes source M.starts M.heads parents allowed v s);
    short = omega arith;
  }

  away : (allowed v : ℕ) (nodes : List ℕ)
      → ((inner : List ℕ) → back allowed (tail_of M.nodes M.starts (parent_of parents v)) ≡ Nodes inner → Behind (tail_of M.nodes M.starts (parent_of parents v)) allowed inner)
      → v ≢ source → back (suc allowed) v ≡ Nodes nodes → Behind v (suc allowed) nodes
  away allowed v nodes inside q e = fit (leads_to M.heads (parent_of parents v) v) refl
    where
      walked : leads_to M.heads (parent_of parents v) v ≡ true → (walk : Walk) → back allowed (tail_of M.nodes M.starts (parent_of parents v)) ≡ walk
          → extended walk v ≡ Nodes nodes → Behind v (suc allowed) nodes
      walked f NoWalk g h = differ (cc)
      walked f (Nodes inner) g h = subst (Behind v (suc allowed)) (nodes_same h) (behind_on v allowed q f inner (inside inner g))

      fit : (t : Bool) → leads_to M.heads (parent_of parents v) v ≡ t → Behind v (suc allowed) nodes
      fit false f = let z = sym (back_misfit M.nodes source M.starts M.heads parents (suc allowed) v q f) ∙ e in differ (cc)
      fit true f = walked f (back allowed (tail_of M.nodes M.starts (parent_of parents v))) refl
          (sym (back_on M.nodes source M.starts M.heads parents allowed v q f) ∙ e)

  pub walk_spelled : (allowed v : ℕ) (nodes : List ℕ) → back allowed v ≡ Nodes nodes → Behind v allowed nodes
  walk_spelled zero v nodes e = elim (same? v source) [
    | inl s ↦ at_source 0 v nodes s e
    | inr q ↦ let z = sym (back_stops M.nodes source M.starts M.heads parents v q) ∙ e in differ (cc)
  ]
  walk_spelled (suc allowed) v nodes e = elim (same? v source) [
    | inl s ↦ at_source (suc allowed) v nodes s e
    | inr q ↦ away allowed v nodes (walk_spelled allowed (tail_of M.nodes M.starts (parent_of parents v))) q e
  ]

  -- ---- a spelled route passes through no node twice

  pub spelled_node : {v : ℕ} {route : List ℕ} → SpelledRoute M source parents v route → v < M.nodes
  spelled_node SpelledRoute.here = sound.source_node
  spelled_node (SpelledRoute.on {t} r a h p q) = sound.heads_nodes a (leaves_arc sound a t h)

  -- Each node of a spelled route is spelled by a part of it.
  spelled_part : {v : ℕ} {route : List ℕ} → SpelledRoute M source parents v route → (w : ℕ) → Memᴰ w (nodes_along M source route)
      → (part : List ℕ) × SpelledRoute M source parents w part × (length part ≤ length route)
  unfolding nodes_along
  spelled_part SpelledRoute.here w m = let e : w ≡ source = Memᴰ.eq_of_singleton m in rw e ([], SpelledRoute.here, omega arith)
  spelled_part (SpelledRoute.on {t} {route} r a h p q) w m =
      let more : length (route ++ (a ∷ [])) ≡ length route + 1 = length-append route (a ∷ []) in
      ⊎_elim
      (λ k. let part = spelled_part r w k in (part.0, part.1, omega (arith, part.2)))
      (λ (e : w ≡ head_of M a). rw e (route ++ (a ∷ []), SpelledRoute.on r a h p q, omega arith))
      (mem_snoc (nodes_along M source route) (rw (along_snoc M source route a) at m))

  spelled_distinct : {v : ℕ} {route : List ℕ} → SpelledRoute M source parents v route → Distinct (nodes_along M source route)
  unfolding nodes_along
  spelled_distinct SpelledRoute.here = ((λ m. absurd (Memᴰ.not-nil m)), tt)
  spelled_distinct (SpelledRoute.on {t} {route} r a h p q) =
      rw (along_snoc M source route a)
      (distinct_snoc (nodes_along M source route) (head_of M a) (spelled_distinct r)
      (λ m.
      let part = spelled_part r (head_of M a) m in
      let same = spelled_once sound (head_of M a) part.0 (route ++ (a ∷ [])) part.1 (SpelledRoute.on r a h p q) in
      absurd (omega (arith, part.2, ap length same, length-append route (a ∷ [])))))

  pub spelled_short : {v : ℕ} {route : List ℕ} → SpelledRoute M source parents v route → length route < M.nodes
  spelled_short {v} {route} r =
      let few = distinct_few M.nodes (nodes_along M source route) (spelled_distinct r) (λ w m. spelled_node (spelled_part r w m).1) in
      omega (arith, few, along_length M source route)

  -- A walk that arrives at all arrives within n - 1 arcs.
  pub walk_enough : (allowed v : ℕ) (nodes : List ℕ) → back allowed v ≡ Nodes nodes → back (M.nodes - 1) v ≡ Nodes nodes
  walk_enough allowed v nodes e =
      let B = walk_spelled allowed v nodes e in
      spelled_walk B.spelled (M.nodes - 1) (omega (arith, spelled_short B.spelled)) ∙ ap Nodes (sym B.along)

  -- So a walk that has not arrived after n - 1 arcs never arrives.
  pub walk_never : (v : ℕ) → back (M.nodes - 1) v ≡ NoWalk → (allowed : ℕ) → back allowed v ≡ NoWalk
  walk_never v e allowed = go (back allowed v) refl
    where
      go : (walk : Walk) → back allowed v ≡ walk → walk ≡ NoWalk
      go NoWalk f = refl
      go (Nodes nodes) f = let z = sym e ∙ walk_enough allowed v nodes f in differ (cc)
