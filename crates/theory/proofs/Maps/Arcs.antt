-- The arcs of a map: where its lists are in order each leaves one node, and where it is valid its network is one that the theorems are
-- about.
use Prim.Native.Nat.{ℕ, zero, suc, ◌+◌, ◌-◌, ◌≤◌, ◌<◌}
use mathlib.Core.Bool.{Bool, true, false, cond}
use mathlib.Core.Path.{◌≡◌, refl, sym, ◌∙◌, ap}
use mathlib.Core.Logic.{inl, inr, ⊎_elim}
use mathlib.Core.List.Memᴰ
use mathlib.Core.List.{List, Memᴰ}
use native.Mathlib.Omega.{arith}
use lib.Dec.{eqb}
use lib.ListN.{length, length-append, get_or-eq_default}
use Rattle.theory.specs.Sums.{sum_below}
use Rattle.theory.specs.Maps.{Map, arcs, start_of, head_of, hold_of, Leaves, Sound, Valid}
use Rattle.theory.specs.Network.{Link, links_from, tail_hold, arc_cost, arc_links, network, Admissible}
use Rattle.theory.proofs.Cases.{split}

-- A link of a range of arcs is a link of one of them, and conversely.
module _ (give : ℕ → List Link) where
  links_from_from : (a count : ℕ) (l : Link) → Memᴰ l (links_from give a count) → (i : ℕ) × (a ≤ i) × (i < a + count) × Memᴰ l (give i)
  unfolding links_from
  links_from_from a zero l m = absurd (Memᴰ.not-nil m)
  links_from_from a (suc count) l m = ⊎_elim
      (λ q. (a, omega arith, omega arith, q))
      (λ q. let r = links_from_from (suc a) count l q in (r.0, omega (arith, r.1), omega (arith, r.2), r.3))
      (Memᴰ.append_cases (give a) m)

  links_from_in : (a count i : ℕ) (l : Link) → a ≤ i → i < a + count → Memᴰ l (give i) → Memᴰ l (links_from give a count)
  unfolding links_from
  links_from_in a zero i l low high m = absurd (omega arith)
  links_from_in a (suc count) i l low high m = elim (split a i) [
    | inl h ↦ Memᴰ.append_right (give a) (links_from_in (suc a) count i l h (omega arith) m)
    | inr h ↦ let e : i ≡ a = omega arith in Memᴰ.append_left (links_from give (suc a) count) (rw e at m)
  ]

  links_from_length : ((i : ℕ) → length (give i) ≤ 1) → (a count : ℕ) → length (links_from give a count) ≤ count
  unfolding links_from
  links_from_length one a zero = omega arith
  links_from_length one a (suc count) = rw length-append (omega (arith, one a, links_from_length one (suc a) count))

-- The link of arc a out of node v.
abbrev pub link_of : Map → (source v a : ℕ) → Link
link_of M source v a = record { arc = a; head = head_of M a; cost = arc_cost M source v a }

-- What an arc costs besides itself is at most its tail's hold.
pub tail_hold_most : (M : Map) (source v : ℕ) → tail_hold M.holds source v ≤ hold_of M v
unfolding tail_hold
tail_hold_most M source v = go (eqb v source)
  where
    go : (t : Bool) → cond t 0 (hold_of M v) ≤ hold_of M v
    go true = omega arith
    go false = omega arith

-- The links of a node are those of the arcs that leave it.
module _ (M : Map) (source v : ℕ) where
  pub out_leaves : (l : Link) → Memᴰ l ((network M source).out v) → Leaves M l.arc v × (l ≡ link_of M source v l.arc)
  unfolding network
  out_leaves l m =
      let r = links_from_from (arc_links M.heads (arc_cost M source v)) (start_of M v) (start_of M (suc v) - start_of M v) l m in
      let e : l ≡ link_of M source v r.0 = Memᴰ.eq_of_singleton r.3 in
      rw e ((r.1, omega (arith, r.2)), refl)

  pub leaves_out : (a : ℕ) → Leaves M a v → Memᴰ (link_of M source v a) ((network M source).out v)
  unfolding network
  leaves_out a h = links_from_in (arc_links M.heads (arc_cost M source v)) (start_of M v) (start_of M (suc v) - start_of M v) a (link_of M source v a) h.0 (omega (arith, h.1)) (Memᴰ.head refl)

module _ {M : Map} {source : ℕ} (sound : Sound M source) where
  pub starts_mono : (v w : ℕ) → v ≤ w → w ≤ M.nodes → start_of M v ≤ start_of M w
  starts_mono v zero l h = let e : v ≡ 0 = omega arith in rw e (omega arith)
  starts_mono v (suc w) l h = elim (split v (suc w)) [
    | inl k ↦ omega (arith, starts_mono v w (omega arith) (omega arith), sound.starts_rise w (omega arith))
    | inr k ↦ let e : v ≡ suc w = omega arith in rw e (omega arith)
  ]

  -- Only nodes have arcs, every arc number is below m, and an arc leaves one node.
  pub leaves_node : (a v : ℕ) → Leaves M a v → v < M.nodes
  leaves_node a v h = elim (split v M.nodes) [
    | inl l ↦ l
    | inr l ↦ let e : start_of M (suc v) ≡ 0 = get_or-eq_default M.starts 0 (omega (arith, sound.starts_length)) in absurd (omega (arith, h.1))
  ]

  pub leaves_arc : (a v : ℕ) → Leaves M a v → a < arcs M
  leaves_arc a v h = omega (arith, h.1, starts_mono (suc v) M.nodes (leaves_node a v h) (omega arith), sound.starts_last)

  pub leaves_once : (a v w : ℕ) → Leaves M a v → Leaves M a w → v ≡ w
  leaves_once a v w h g = elim (split v w) [
    | inl l ↦ absurd (omega (arith, h.1, g.0, starts_mono (suc v) w l (omega (arith, leaves_node a w g))))
    | inr l ↦ elim (split w v) [
      | inl k ↦ absurd (omega (arith, h.0, g.1, starts_mono (suc w) v k (omega (arith, leaves_node a v h))))
      | inr k ↦ omega arith
    ]
  ]

  links_sum : (v : ℕ) → v ≤ M.nodes → sum_below v (λ w. length ((network M source).out w)) ≤ start_of M v
  unfolding network
  links_sum zero h = omega arith
  links_sum (suc v) h =
      omega (
        arith,
        links_sum v (omega arith),
        sound.starts_rise v h,
        links_from_length (arc_links M.heads (arc_cost M source v)) (λ i. omega arith) (start_of M v) (start_of M (suc v) - start_of M v),
      )

  -- Whatever holds of every arc with its tail holds of every link.
  all_links : (P : Link → Type 0) → ((a v : ℕ) → Leaves M a v → P (link_of M source v a)) → (v : ℕ) → v < M.nodes → (l : Link) → Memᴰ l ((network M source).out v) → P l
  all_links P all v _ l m = let r = out_leaves M source v l m in rw r.1 (all l.arc v r.0)

module _ {M : Map} {C source : ℕ} (valid : Valid M C source) where
  pub map_admissible : Admissible (network M source) C (arcs M)
  map_admissible = record {
    few_nodes = unfold network in valid.sound.few_nodes;
    low_ceiling = valid.low_ceiling;
    few_arcs = valid.sound.few_arcs;
    source_node = unfold network in valid.sound.source_node;
    heads = unfold network in all_links valid.sound (λ l. l.head < M.nodes) (λ a v h. valid.sound.heads_nodes a (leaves_arc valid.sound a v h));
    costs = unfold network in all_links valid.sound (λ l. l.cost ≤ C) (λ a v h. omega (arith, valid.sums_most a v h, tail_hold_most M source v));
    links = unfold network in omega (arith, links_sum valid.sound M.nodes (omega arith), valid.sound.starts_last);
    numbers = unfold network in all_links valid.sound (λ l. l.arc < arcs M) (leaves_arc valid.sound);
    one_arc_lem = λ v w l k p q e.
        let a = out_leaves M source v l p in
        let b = out_leaves M source w k q in
        let s = leaves_once valid.sound l.arc v w a.0 (rw e b.0) in
        (s, a.1 ∙ ap (λ (x : ℕ). link_of M source x l.arc) s ∙ ap (link_of M source w) e ∙ sym b.1);
  }
