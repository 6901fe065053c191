-- The arcs of a map in number order: they come in the order of their tails, have the map's own lists and, where the map is valid, are in
-- range. Assumes nothing.
use Prim.Native.Nat.{ℕ, zero, suc, ◌≤◌, ◌<◌, min}
use native.Mathlib.Nat.{zero-add}
use native.Mathlib.Omega.{arith}
use mathlib.Core.Path.{◌≡◌, refl, sym, ◌∙◌}
use mathlib.Core.Logic.{inl, inr}
use mathlib.Core.List.{[], ◌∷◌}
use lib.ListN.{length, get_or}
use lib.Seq.{ext_get_or}
use borrow.Author.Tests.{le-ltb}
use Rattle.theory.specs.Sums.{list_below}
use Rattle.theory.specs.Maps.{Map, arcs, start_of, Leaves, Sound, Valid}
use Rattle.theory.proofs.Cases.{split}
use Rattle.theory.proofs.Maps.Arcs.{starts_mono, leaves_node}
use Rattle.theory.proofs.Maps.Tails.{tail_leaves}
use Rattle.grouping.specs.Groups.{keys_below}
use Rattle.grouping.specs.Arcs.{PlanArc, tail_key, tails_below, numbered, starts_of, heads_of, costs_of}
use Rattle.grouping.proofs.All.{All}
use Rattle.grouping.proofs.Groups.{below_append, below_one}
use Rattle.grouping.proofs.Starts.{starts_length, start_at}
use Rattle.grouping.proofs.Order.{Rising, in_order}
use Rattle.grouping.proofs.Valid.{SumIn, ArcsIn}
use Rattle.plan_text.specs.Files.{arcs_of}
use Rattle.plan_text.proofs.Items.{all_below, rises_below, column_back}
use Rattle.plan_text.proofs.Most.{map_arc}

-- ---- the arcs of a map in order

module _ {M : Map} {source : ℕ} (sound : Sound M source) where
  leaves : (a : ℕ) → a < arcs M → Leaves M a (map_arc M a).tail
  leaves a l = tail_leaves sound a l

  tail_node : (a : ℕ) → a < arcs M → (map_arc M a).tail < M.nodes
  tail_node a l = leaves_node sound a (map_arc M a).tail (leaves a l)

  -- an arc before the start of node v has a tail below v, and no other arc has
  before_start : (a v : ℕ) → a < arcs M → v ≤ M.nodes → a < start_of M v → (map_arc M a).tail < v
  before_start a v l h before = elim (split (map_arc M a).tail v) [
    | inl k ↦ k
    | inr k ↦ absurd (omega (arith, (leaves a l).0, starts_mono sound v (map_arc M a).tail k (omega (arith, tail_node a l))))
  ]

  from_start : (a v : ℕ) → a < arcs M → v ≤ M.nodes → start_of M v ≤ a → v ≤ (map_arc M a).tail
  from_start a v l h from = elim (split (map_arc M a).tail v) [
    | inl k ↦ absurd (omega (arith, (leaves a l).1, starts_mono sound (suc (map_arc M a).tail) v k h))
    | inr k ↦ k
  ]

  no_tail_falls : (a b : ℕ) → a ≤ b → b < arcs M → (map_arc M a).tail ≤ (map_arc M b).tail
  no_tail_falls a b l h =
      from_start b (map_arc M a).tail h (omega (arith, tail_node a (omega arith))) (omega (arith, (leaves a (omega arith)).0))

  pub arcs_rise : Rising tail_key M.nodes 0 (arcs_of M)
  arcs_rise = rises_below tail_key M.nodes (arcs M) (map_arc M) no_tail_falls tail_node

  -- ---- its lists

  none_below_one : (v : ℕ) (arc : PlanArc) → v ≤ arc.tail → tails_below v (arc ∷ []) ≡ 0
  unfolding keys_below
  none_below_one v arc l = rw (le-ltb arc.tail v l)

  starts_counted : (v : ℕ) → v ≤ M.nodes → (a : ℕ) → a ≤ arcs M → tails_below v (list_below a (map_arc M)) ≡ min a (start_of M v)
  unfolding keys_below
  starts_counted v h zero l = omega arith
  starts_counted v h (suc a) l =
      below_append tail_key v (list_below a (map_arc M)) (map_arc M a ∷ [])
      ∙ elim (split a (start_of M v)) [
        | inl before ↦ omega (arith, starts_counted v h a (omega arith), below_one tail_key v (map_arc M a) (before_start a v l h before))
        | inr from ↦ omega (arith, starts_counted v h a (omega arith), none_below_one v (map_arc M a) (from_start a v l h from))
      ]

  pub starts_back : starts_of M.nodes (arcs_of M) ≡ M.starts
  starts_back =
      ext_get_or 0 (starts_of M.nodes (arcs_of M)) M.starts (starts_length tail_key 0 (suc M.nodes) (arcs_of M) ∙ sym sound.starts_length) at_each
    where
      at_each : (v : ℕ) → v < length (starts_of M.nodes (arcs_of M)) → get_or (starts_of M.nodes (arcs_of M)) v 0 ≡ start_of M v
      at_each v l =
          let within : v < suc M.nodes = omega (arith, starts_length tail_key 0 (suc M.nodes) (arcs_of M)) in
          rw (zero-add v) at (start_at tail_key 0 (suc M.nodes) (arcs_of M) v within)
          ∙ omega (arith, starts_counted v (omega arith) (arcs M) (omega arith), starts_mono sound v M.nodes (omega arith) (omega arith), sound.starts_last)

  in_order_already : numbered M.nodes (arcs_of M) ≡ arcs_of M
  in_order_already = in_order (arcs_of M) arcs_rise

  pub heads_back : heads_of M.nodes (arcs_of M) ≡ M.heads
  heads_back = rw in_order_already (column_back (λ (arc : PlanArc). arc.head) refl M.heads (arcs M) (map_arc M) refl (λ a. refl))

  pub costs_back : costs_of M.nodes (arcs_of M) ≡ M.costs
  costs_back = rw in_order_already (column_back (λ (arc : PlanArc). arc.cost) refl M.costs (arcs M) (map_arc M) sound.costs_length (λ a. refl))

-- ---- a valid map

module _ {M : Map} {C source : ℕ} (valid : Valid M C source) where
  pub map_arcs_in : ArcsIn M.nodes C (arcs_of M)
  map_arcs_in = all_below (arcs M) (map_arc M)
      (λ a l. record {
        ends = record { tail_node = tail_node valid.sound a l; head_node = valid.sound.heads_nodes a l };
        cost_most = omega (arith, valid.sums_most a (map_arc M a).tail (leaves valid.sound a l));
      })

  pub map_sums_in : All (SumIn C M.holds) (arcs_of M)
  map_sums_in = all_below (arcs M) (map_arc M) (λ a l. valid.sums_most a (map_arc M a).tail (leaves valid.sound a l))
