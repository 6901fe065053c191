-- The two numberings of the arcs: new numbers and old ones undo each other, and an arc of the reversed map leaves its old head for its old tail.
-- Assumes nothing.
use Prim.Native.Nat.{ℕ, zero, suc, ◌≤◌, ◌<◌}
use native.Mathlib.Nat.{zero-add}
use native.Mathlib.Omega.{arith}
use mathlib.Core.Path.{◌≡◌, refl, ◌∙◌, ap}
use mathlib.Core.Logic.{inl, inr}
use mathlib.Core.List.{List, [], ◌∷◌, ◌++◌, map, append_assoc}
use lib.ListN.{length, get_or, length-map, get_or-map, get_or-eq_default}
use Rattle.theory.specs.Maps.{none, Map, arcs, start_of, head_of, cost_of, tail_of, Leaves, Sound}
use Rattle.theory.proofs.Cases.{split, same?}
use Rattle.theory.proofs.Lists.{get_d_inside}
use Rattle.theory.proofs.Sums.{length_list_below}
use Rattle.grouping.specs.Groups.{keys_below, having}
use Rattle.grouping.proofs.Groups.{more_same, more_other, below_append, below_one, grouped_length, grouped_key, group_of}
use Rattle.grouping.proofs.Placed.{within_group, room, at_place}
use Rattle.grouping.proofs.Starts.{starts_length, start_at}
use Rattle.reversal.specs.Reversed.{numbers_below, old_numbers, reversed, old_number, new_number}

-- The numbers below m are those below a, then a, then others.
numbers_split : (m a : ℕ) → a < m → (rest : List ℕ) × (numbers_below m ≡ numbers_below a ++ (a ∷ rest))
numbers_split zero a l = absurd (omega arith)
numbers_split (suc m) a l = elim (split a m) [
  | inl h ↦
      let r = numbers_split m a h in
      (r.0 ++ (m ∷ []), ap (λ (l : List ℕ). l ++ (m ∷ [])) r.1 ∙ append_assoc (numbers_below a) (a ∷ r.0) (m ∷ []))
  | inr h ↦ let e : a ≡ m = omega arith in rw e ([], refl)
]

-- A number with k smaller ones of its key, wherever the key has more than k numbers.
having_number : (key : ℕ → ℕ) (v k m : ℕ) → k < length (having key v (numbers_below m))
    → (a : ℕ) × (a < m) × (key a ≡ v) × (length (having key v (numbers_below a)) ≡ k)
unfolding having
having_number key v k zero h = absurd (omega arith)
having_number key v k (suc m) h = elim (split k (length (having key v (numbers_below m)))) [
  | inl l ↦ let r = having_number key v k m l in (r.0, omega (arith, r.1), r.2, r.3)
  | inr l ↦ elim (same? (key m) v) [
    | inl e ↦ (m, omega arith, e, omega (arith, more_same key v (numbers_below m) m e))
    | inr n ↦ absurd (omega (arith, more_other key v (numbers_below m) m n))
  ]
]

module _ {M : Map} {s : ℕ} (sound : Sound M s) where
  abbrev numbers : List ℕ
  numbers = numbers_below (arcs M)

  -- Every head is below n.
  pub heads_counted : (k : ℕ) → k ≤ arcs M → keys_below (head_of M) M.nodes (numbers_below k) ≡ k
  unfolding keys_below
  heads_counted zero l = refl
  heads_counted (suc k) l =
      omega (
        arith,
        below_append (head_of M) M.nodes (numbers_below k) (k ∷ []),
        below_one (head_of M) M.nodes k (sound.heads_nodes k l),
        heads_counted k (omega arith),
      )

  pub old_length : length (old_numbers M) ≡ arcs M
  unfolding old_numbers
  old_length = grouped_length (head_of M) M.nodes numbers ∙ heads_counted (arcs M) (omega arith)

  -- ---- the numberings undo each other

  pub new_below : (a : ℕ) → a < arcs M → new_number M a < arcs M
  new_below a l =
      let r = numbers_split (arcs M) a l in
      omega (arith, room (head_of M) numbers (numbers_below a) a r.0 r.1, length_list_below (arcs M) (λ (i : ℕ). i))

  pub old_of_new : (a : ℕ) → a < arcs M → old_number M (new_number M a) ≡ a
  unfolding old_numbers
  old_of_new a l =
      let r = numbers_split (arcs M) a l in
      at_place (head_of M) numbers (numbers_below a) a r.0 r.1 M.nodes none (sound.heads_nodes a l)

  -- Every place has some arc's new number.
  number_at : (p : ℕ) → p < arcs M → (a : ℕ) × (a < arcs M) × (p ≡ new_number M a)
  number_at p l =
      let g = group_of (head_of M) numbers M.nodes p (omega (arith, heads_counted (arcs M) (omega arith))) in
      let r = having_number (head_of M) g.0 g.1 (arcs M) g.3 in
      (r.0, r.1, g.4 ∙ rw (r.2, r.3))

  pub old_below : (p : ℕ) → p < arcs M → old_number M p < arcs M
  old_below p l = let r = number_at p l in rw (r.2, old_of_new r.0 r.1) r.1

  pub new_of_old : (p : ℕ) → p < arcs M → new_number M (old_number M p) ≡ p
  new_of_old p l = let r = number_at p l in rw r.2 (ap (new_number M) (old_of_new r.0 r.1))

  -- none is past every list
  pub old_none : old_number M none ≡ none
  old_none = get_or-eq_default (old_numbers M) none (omega (arith, old_length, sound.few_arcs))

  -- ---- the reversed map's lists

  pub new_start : (v : ℕ) → v ≤ M.nodes → start_of (reversed M) v ≡ keys_below (head_of M) v numbers
  unfolding reversed
  new_start v l = rw (zero-add v) at (start_at (head_of M) 0 (suc M.nodes) numbers v (omega arith))

  column_at : (f : ℕ → ℕ) (p : ℕ) → p < arcs M → get_or (map f (old_numbers M)) p 0 ≡ f (old_number M p)
  column_at f p l =
      get_d_inside (map f (old_numbers M)) p 0 (f none) (omega (arith, length-map (old_numbers M) f, old_length))
      ∙ get_or-map f (old_numbers M) p none

  pub new_head : (p : ℕ) → p < arcs M → head_of (reversed M) p ≡ tail_of M.nodes M.starts (old_number M p)
  unfolding reversed
  new_head = column_at (tail_of M.nodes M.starts)

  pub new_cost : (p : ℕ) → p < arcs M → cost_of (reversed M) p ≡ cost_of M (old_number M p)
  unfolding reversed
  new_cost = column_at (cost_of M)

  -- ---- what an arc of the reversed map leaves

  pub new_leaves : (a : ℕ) → a < arcs M → Leaves (reversed M) (new_number M a) (head_of M a)
  new_leaves a l =
      let r = numbers_split (arcs M) a l in
      let h = sound.heads_nodes a l in (
        omega (arith, new_start (head_of M a) (omega arith)),
        omega (arith, new_start (suc (head_of M a)) h, within_group (head_of M) numbers (numbers_below a) a r.0 r.1),
      )

  left_node : (p v : ℕ) → Leaves (reversed M) p v → v < M.nodes
  unfolding reversed
  left_node p v h = elim (split v M.nodes) [
    | inl l ↦ l
    | inr l ↦
        let long = starts_length (head_of M) 0 (suc M.nodes) numbers in
        absurd (omega (arith, h.1, get_or-eq_default (reversed M).starts 0 {n = suc v} (omega (arith, long))))
  ]

  pub leaves_old : (p v : ℕ) → Leaves (reversed M) p v → head_of M (old_number M p) ≡ v
  unfolding old_numbers
  leaves_old p v h =
      let l = left_node p v h in
      grouped_key (head_of M) numbers M.nodes v p none l (omega (arith, h.0, new_start v (omega arith))) (omega (arith, h.1, new_start (suc v) l))
