-- The walk back, case by case, and what the walk in code leaves where it arrives and where it comes back. Assumes nothing.
use Prim.Native.Nat.{ℕ, zero, suc, ◌+◌, ◌-◌, ◌≤◌, ◌<◌}
use native.Mathlib.Omega.{arith}
use native.Mathlib.Numerals.{add-one}
use mathlib.Core.Bool.{Bool, true, false, cond, ◌&&◌}
use mathlib.Core.Path.{◌≡◌, refl, sym, ◌∙◌, ap}
use mathlib.Core.Logic.{◌≢◌}
use mathlib.Core.List.{List, [], ◌∷◌, ◌++◌}
use lib.Dec.{ltb, eqb}
use lib.ListN.{length, get_or, set, drop, length-append}
use lib.Seq.{drop-cons, set-append_seam, append_snoc}
use borrow.Author.Tests.{lt-ltb, le-ltb, ltb-true, ltb-false, eqb-true, eq-eqb, ne_eqb}
use Rattle.std.specs.Prelude.{Result, Ok, Err}
use Rattle.theory.specs.Maps.{none, parent_of, LeavesBy, tail_of}
use Rattle.theory.proofs.Cases.{differ}
use Rattle.theory.proofs.Lists.{get_d_inside}
use Rattle.theory.proofs.Maps.Arcs.{leaves_node}
use Rattle.theory.proofs.Maps.Tails.{tail_is}
use Rattle.walk.specs.declared.WalkError.{WalkError}
use Rattle.walk.specs.declared.WalkError.TheVariants.{Lost, NoRoom}
use Rattle.walk.specs.Walk.{leads_to, Walk, NoWalk, Nodes, extended, walk_back, Tailed, Walks, walked_of, walked_words}

-- ---- the walk back, case by case

module _ (n source : ℕ) (starts heads parents : List ℕ) where
  abbrev back : (allowed v : ℕ) → Walk
  back = walk_back n starts heads parents source

  pub back_source : (allowed v : ℕ) → v ≡ source → back allowed v ≡ Nodes (source ∷ [])
  unfolding walk_back
  back_source zero v e = rw (eq-eqb v source e) refl
  back_source (suc allowed) v e = rw (eq-eqb v source e) refl

  pub back_stops : (v : ℕ) → v ≢ source → back 0 v ≡ NoWalk
  unfolding walk_back
  back_stops v q = rw (ne_eqb v source q) refl

  pub back_misfit : (allowed v : ℕ) → v ≢ source → leads_to heads (parent_of parents v) v ≡ false → back allowed v ≡ NoWalk
  unfolding walk_back
  back_misfit zero v q e = rw (ne_eqb v source q) refl
  back_misfit (suc allowed) v q e = rw (ne_eqb v source q, e) refl

  pub back_on : (allowed v : ℕ) → v ≢ source → leads_to heads (parent_of parents v) v ≡ true
      → back (suc allowed) v ≡ extended (back allowed (tail_of n starts (parent_of parents v))) v
  unfolding walk_back
  back_on allowed v q e = rw (ne_eqb v source q, e) refl

-- An arc that leads to a node is below m, and its head is that node.
pub leads_arc : (heads : List ℕ) (a v : ℕ) → leads_to heads a v ≡ true → a < length heads
leads_arc heads a v e = go (ltb a (length heads)) refl (eqb (get_or heads a 0) v) e
  where
    go : (t : Bool) → ltb a (length heads) ≡ t → (u : Bool) → (t && u) ≡ true → a < length heads
    go true l u h = ltb-true a (length heads) l
    go false l u h = differ (cc)

pub leads_head : (heads : List ℕ) (a v : ℕ) → leads_to heads a v ≡ true → get_or heads a 0 ≡ v
leads_head heads a v e = go (ltb a (length heads)) (eqb (get_or heads a 0) v) refl e
  where
    go : (t u : Bool) → eqb (get_or heads a 0) v ≡ u → (t && u) ≡ true → get_or heads a 0 ≡ v
    go true true l h = eqb-true (get_or heads a 0) v l
    go true false l h = differ (cc)
    go false u l h = differ (cc)

-- ---- one step of the walk in code

module _ {n source : ℕ} {starts heads parents : List ℕ} {v allowed behind : ℕ} (W : Walks n source starts heads parents v allowed behind) where
  pub parent_inside : v < length parents
  parent_inside = omega (arith, W.node, W.table.long)

  -- The word that is read is the parent.
  pub parent_read : get_or parents v 0 ≡ parent_of parents v
  parent_read = get_d_inside parents v 0 none parent_inside

  pub misfit : {t : Bool} → t ≡ leads_to heads (get_or parents v 0) v → t ≡ false → leads_to heads (parent_of parents v) v ≡ false
  misfit e f = rw (sym parent_read) (sym e ∙ f)

  pub arc_fits : {t : Bool} → t ≡ leads_to heads (get_or parents v 0) v → t ≡ true → Tailed n starts (get_or parents v 0)
  arc_fits e f =
      let sound = W.table.sound in
      record {
        count = sound.starts_length ∙ sym (add-one n);
        few = sound.few_nodes;
        first = omega (arith, sound.starts_first);
        last = omega (arith, sound.starts_last, leads_arc heads (get_or parents v 0) v (sym e ∙ f));
      }

  pub walks_on : {a tail : ℕ} → LeavesBy starts a tail → 0 < allowed → Walks n source starts heads parents tail (allowed - 1) (behind + 1)
  walks_on h l = record { table = W.table; node = leaves_node W.table.sound _ _ h; short = omega (arith, W.short) }

-- ---- what the walk in code leaves

-- At the source, with room for all.
pub source_written : (words : List ℕ) (source behind : ℕ) → behind < length words
    → (Ok 1 ≡ walked_of (length words) behind (Nodes (source ∷ []))) × (set words 0 source ≡ walked_words behind (Nodes (source ∷ [])) words)
unfolding walked_of walked_words
source_written [] source behind l = absurd (omega arith)
source_written (word ∷ words) source behind l = let e = le-ltb (suc (length words)) (1 + behind) (omega arith) in (rw e refl, rw e refl)

-- At the source, without.
pub no_room : (words : List ℕ) (source behind : ℕ) → length words ≤ behind
    → (Err NoRoom ≡ walked_of (length words) behind (Nodes (source ∷ []))) × (words ≡ walked_words behind (Nodes (source ∷ [])) words)
unfolding walked_of walked_words
no_room words source behind l = let e = lt-ltb (length words) (1 + behind) (omega arith) in (rw e refl, rw e refl)

-- No walk.
pub lost_walk : (words : List ℕ) (behind : ℕ) {walk : Walk} → walk ≡ NoWalk → (Err Lost ≡ walked_of (length words) behind walk) × (words ≡ walked_words behind walk words)
unfolding walked_of walked_words
lost_walk words behind e = (rw e refl, rw e refl)

-- Where the walk comes back to node v without its nodes, none is written with v.
lost_behind : (walk : Walk) (words : List ℕ) (behind v : ℕ) {error : WalkError} → Err error ≡ walked_of (length words) (behind + 1) walk
    → (Err error ≡ walked_of (length words) behind (extended walk v)) × (walked_words (behind + 1) walk words ≡ walked_words behind (extended walk v) words)
unfolding walked_of walked_words
lost_behind NoWalk words behind v e = (e, refl)
lost_behind (Nodes nodes) words behind v {error} e =
    let more : length (nodes ++ (v ∷ [])) ≡ length nodes + 1 = length-append nodes (v ∷ []) in
    let next : length nodes + 1 + behind ≡ length nodes + (behind + 1) = omega arith in
    rw (more, next) (go (ltb (length words) (length nodes + (behind + 1))) e)
  where
    go : (t : Bool) → Err error ≡ cond t (Err NoRoom) (Ok (length nodes))
        → (Err error ≡ cond t (Err NoRoom) (Ok (length nodes + 1)))
        × (cond t words (nodes ++ drop (length nodes) words) ≡ cond t words ((nodes ++ (v ∷ [])) ++ drop (length nodes + 1) words))
    go true e = (e, refl)
    go false e = differ (cc)

-- Where it comes back with them, there is a word for v behind those that are written, and v is written there.
pub record Behind (walk : Walk) (words : List ℕ) (behind v nodes : ℕ) : Type 0 where
  pub room : nodes < length (walked_words (behind + 1) walk words)
  pub answer : Ok (nodes + 1) ≡ walked_of (length words) behind (extended walk v)
  pub list : set (walked_words (behind + 1) walk words) nodes v ≡ walked_words behind (extended walk v) words

behind_written : (walk : Walk) (words : List ℕ) (behind v : ℕ) {nodes : ℕ} → Ok nodes ≡ walked_of (length words) (behind + 1) walk → Behind walk words behind v nodes
unfolding walked_of walked_words
behind_written NoWalk words behind v e = differ (cc)
behind_written (Nodes route) words behind v {nodes} e = go (ltb (length words) (length route + (behind + 1))) refl e
  where
    more : length (route ++ (v ∷ [])) ≡ length route + 1
    more = length-append route (v ∷ [])

    next : length route + 1 + behind ≡ length route + (behind + 1)
    next = omega arith

    go : (t : Bool) → ltb (length words) (length route + (behind + 1)) ≡ t → Ok nodes ≡ cond t (Err NoRoom) (Ok (length route))
        → Behind (Nodes route) words behind v nodes
    go true l e = differ (cc)
    go false l e =
        let all : nodes ≡ length route = cc in
        let fits = ltb-false (length words) (length route + (behind + 1)) l in
        let front : drop (length route) words ≡ get_or words (length route) 0 ∷ drop (suc (length route)) words = drop-cons words (length route) 0 (omega (arith, fits)) in
        record {
          room = rw (l, all, front, length-append route (get_or words (length route) 0 ∷ drop (suc (length route)) words)) (omega arith);
          answer = rw (more, next, l, all) refl;
          list =
              rw (more, next, l, all)
              (ap (λ (k : List ℕ). set (route ++ k) (length route) v) front
              ∙ set-append_seam route (get_or words (length route) 0) (drop (suc (length route)) words) v
              ∙ sym (append_snoc route v (drop (suc (length route)) words))
              ∙ ap (λ (k : ℕ). (route ++ (v ∷ [])) ++ drop k words) (sym (add-one (length route))));
        }

module _ {n source : ℕ} {starts heads parents : List ℕ} {v allowed behind : ℕ} (W : Walks n source starts heads parents v allowed behind) where
  abbrev whole_walk : Walk
  whole_walk = walk_back n starts heads parents source allowed v

  -- The parent of v leads on to `tail`.
  pub record GoesOn (tail : ℕ) : Type 0 where
    pub away : v ≢ source
    pub fits : leads_to heads (get_or parents v 0) v ≡ true
    pub leaves : LeavesBy starts (get_or parents v 0) tail
    pub some : 0 < allowed

  module _ {tail : ℕ} (G : GoesOn tail) where
    abbrev inner : Walk
    inner = walk_back n starts heads parents source (allowed - 1) tail

    goes_on : whole_walk ≡ extended inner v
    goes_on =
        let a : allowed ≡ suc (allowed - 1) = omega (arith, G.some) in
        let t = tail_is W.table.sound (get_or parents v 0) tail G.leaves in
        ap (λ (k : ℕ). walk_back n starts heads parents source k v) a
        ∙ back_on n source starts heads parents (allowed - 1) v G.away (rw (sym (parent_read W)) G.fits)
        ∙ ap (λ (k : ℕ). extended (walk_back n starts heads parents source (allowed - 1) k) v) (ap (tail_of n starts) (sym (parent_read W)) ∙ t)

    pub came_back_lost : (words : List ℕ) {r : Result ℕ WalkError} {l : List ℕ} {error : WalkError} → r ≡ walked_of (length words) (behind + 1) inner
        → l ≡ walked_words (behind + 1) inner words → r ≡ Err error
        → (Err error ≡ walked_of (length words) behind whole_walk) × (l ≡ walked_words behind whole_walk words)
    came_back_lost words e f is =
        let b = lost_behind inner words behind v (sym is ∙ e) in
        rw goes_on (b.0, f ∙ b.1)

    pub came_back : (words : List ℕ) {r : Result ℕ WalkError} {l : List ℕ} {nodes : ℕ} → r ≡ walked_of (length words) (behind + 1) inner
        → l ≡ walked_words (behind + 1) inner words → r ≡ Ok nodes
        → (nodes < length l) × (Ok (nodes + 1) ≡ walked_of (length words) behind whole_walk) × (set l nodes v ≡ walked_words behind whole_walk words)
    came_back words e f is =
        let b = behind_written inner words behind v (sym is ∙ e) in
        rw (goes_on, f) (b.room, b.answer, b.list)
