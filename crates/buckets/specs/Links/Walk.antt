-- What is read: `first`, `take_first`, `is_empty`, and `least`, a walk along a slot's chain, of which `LeastWalk` is the loop's invariant and `steps` the
-- measure. Assumes nothing.
use Rattle.std.specs.Prelude.{◌≡◌, refl, ◌⊎◌, Bool, true, false, List, [], ◌∷◌, ℕ, zero, suc, ◌+◌, ◌*◌, ◌-◌, ◌≤◌, ◌<◌, eqb, length, get_or}
use Rattle.std.proofs.Common.{sym, ap, ◌∙◌, subst, inl, inr, ⊎_elim, arith, eqb-true}
use Rattle.std.proofs.Math.Nat.{suc_inj}
use Rattle.std.proofs.Math.Decide.{dec_lt}
use Rattle.std.proofs.lemmas.Bool.{eqb-false}
use Rattle.buckets.specs.Answer.{InSlot, InBucket, SomeNode, NoNode, EmptyBucket, Before, Earlier, LeastIn}
use Rattle.buckets.specs.Lists.{ListedIn, Once}
use Rattle.buckets.specs.Lists.Without.{few}
use Rattle.buckets.specs.Tally.{tally}
use Rattle.buckets.specs.Tally.Laws.{tally_some, tally_find}
use Rattle.buckets.specs.Words.{slot_bucket, place_bucket, places, heads, bucket_count, count_at}
use Rattle.buckets.specs.Words.Laws.{bucket_one, count_words_lem, place_word_lem, places_length}
use Rattle.buckets.specs.Links.{Spells, Slot, Linked}
use Rattle.buckets.specs.Links.Chain as chain
use Rattle.buckets.specs.Links.Chain.{chain_below, chain_le, first_in}
use Rattle.buckets.specs.Links.Laws.{slot_bucket_lem, bucket_slot}

-- ---- first: an empty slot, and the first node of one that is not empty

module _ {n slots segments : ℕ} {words : List ℕ} (L : Linked n slots segments words) (s : ℕ) (hs : s < slots) where
  pub head_le : get_or words (heads n + s) 0 ≤ n
  head_le = chain.head_le L.chains s hs

  pub first_none : get_or words (heads n + s) 0 ≡ 0 → NoNode (InSlot n segments s words)
  first_none e x p =
      go (L.chains.slot s hs).nodes (L.chains.slot s hs).chain
      ((L.chains.slot s hs).all x p.0 (sym (place_word_lem n words x p.0) ∙ p.1))
    where
      go : (l : List ℕ) → Spells n words (heads n + s) l → ListedIn x l → ⊥
      go [] c i = i
      go (y ∷ l) c i = let d : get_or words (heads n + s) 0 ≡ suc y = c.0 in omega arith

  pub first_some : (u : ℕ) → get_or words (heads n + s) 0 ≡ suc u → InSlot n segments s words u
  first_some u e =
      let a : Slot n segments words s = L.chains.slot s hs in
      let h : u < n = omega (arith, head_le) in
      (h, place_word_lem n words u h ∙ a.held u (first_in n words (heads n + s) a.nodes a.chain u e))

  -- the first node's before word is the slot's head word's index, and its place word names the slot's bucket
  pub first_home : (u : ℕ) → get_or words (heads n + s) 0 ≡ suc u → get_or words (n + u) 0 ≡ heads n + s
  first_home u e = go (L.chains.slot s hs).nodes (L.chains.slot s hs).chain
    where
      go : (l : List ℕ) → Spells n words (heads n + s) l → get_or words (n + u) 0 ≡ heads n + s
      go [] c = absurd (omega arith)
      go (y ∷ l) c = ap (λ (k : ℕ). get_or words (n + k) 0) (suc_inj (sym e ∙ c.0)) ∙ c.2

  pub first_held : (u : ℕ) → InSlot n segments s words u → 512 ≤ get_or (places n words) u 0
  first_held u p = omega (arith, p.1)

  pub first_bucket : (u : ℕ) → InSlot n segments s words u → place_bucket (get_or words (2 * n + u) 0) ≡ slot_bucket segments s
  first_bucket u p = omega (arith, place_word_lem n words u p.0, p.1, L.fits.few)

-- ---- is_empty: one word tells

-- a test of a word for 0, where the word is 0 just if the bucket has no node
empty_test : (n bucket : ℕ) (words : List ℕ) (word k : ℕ) → k ≡ 0 → (word ≡ 0 → NoNode (InBucket n bucket words))
    → ((word ≡ 0 → ⊥) → SomeNode (InBucket n bucket words)) → EmptyBucket n bucket words (eqb word k)
empty_test n bucket words word k z none some = go (eqb word k) refl
  where
    go : (t : Bool) → eqb word k ≡ t → EmptyBucket n bucket words t
    go true e = none (eqb-true word k e ∙ z)
    go false e = some (λ d. eqb-false word k e (d ∙ sym z))

module _ {n slots segments : ℕ} {words : List ℕ} (L : Linked n slots segments words) (bucket : ℕ)
    (hb : 0 < bucket) (hc : bucket ≤ bucket_count slots segments) where
  size : length (places n words) ≡ n
  size = places_length n words (omega (arith, L.fits.long))

  pub empty_count : (k : ℕ) → k ≡ 0 → 1 < segments → EmptyBucket n bucket words (eqb (get_or words (count_at n slots bucket) 0) k)
  empty_count k z more =
      empty_test n bucket words (get_or words (count_at n slots bucket) 0) k z
      (λ e u p. omega (arith, right, tally_some place_bucket bucket (places n words) u (omega (arith, size, p.0)) p.1))
      (λ d.
      let r = tally_find place_bucket bucket (places n words) (omega (arith, right)) in
      record { node = r.0; holds = (omega (arith, size, r.1), r.2) })
    where
      right : get_or words (count_at n slots bucket) 0 ≡ tally place_bucket bucket (places n words)
      right = L.counted bucket hb (omega (arith, count_words_lem slots segments more))

  module _ (one : segments ≡ 1) where
    -- a bucket of one segment is its slot
    one_slot : (s : ℕ) → slot_bucket segments s ≡ s + 1
    one_slot s = ap (λ (i : ℕ). slot_bucket i s) one ∙ bucket_one s

    pub only_low : bucket - 1 < slots
    only_low = omega (arith, one_slot (slots - 1), L.fits.some)

    slot_in : (u : ℕ) → InBucket n bucket words u → InSlot n segments (bucket - 1) words u
    slot_in u p =
        let r = bucket_slot L u p.0 bucket hb p.1 in
        subst (λ (i : ℕ). InSlot n segments i words u) (omega (arith, one_slot r.0, r.2)) r.3

    slot_out : (u : ℕ) → InSlot n segments (bucket - 1) words u → InBucket n bucket words u
    slot_out u p =
        subst (λ (i : ℕ). InBucket n i words u) (omega (arith, one_slot (bucket - 1))) (slot_bucket_lem L (bucket - 1) u only_low p)

    pub empty_head : (k : ℕ) → k ≡ 0 → EmptyBucket n bucket words (eqb (get_or words (heads n + (bucket - 1)) 0) k)
    empty_head k z =
        empty_test n bucket words (get_or words (heads n + (bucket - 1)) 0) k z
        (λ e u p. first_none L (bucket - 1) only_low e u (slot_in u p))
        (λ d.
        let u : ℕ = get_or words (heads n + (bucket - 1)) 0 - 1 in
        record { node = u; holds = slot_out u (first_some L (bucket - 1) only_low u (omega arith)) })

-- ---- least

before_trans : (keys : List ℕ) (a b c : ℕ) → Before keys a b → Before keys b c → Before keys a c
before_trans keys a b c (inl h) (inl g) = inl (omega arith)
before_trans keys a b c (inl h) (inr g) = inl (omega arith)
before_trans keys a b c (inr h) (inl g) = inl (omega arith)
before_trans keys a b c (inr h) (inr g) = inr (omega arith)

-- how many nodes follow, from a word that holds q: the walk's measure
pub steps : ℕ → List ℕ → ℕ → ℕ
steps zero words q = 0
steps (suc k) words zero = 0
steps (suc k) words (suc u) = suc (steps k words (get_or words u 0))

steps_chain : (n : ℕ) (words : List ℕ) (k j : ℕ) (l : List ℕ) → Spells n words j l → length l ≤ k → steps k words (get_or words j 0) ≡ length l
unfolding steps
steps_chain n words zero j [] c h = refl
steps_chain n words zero j (x ∷ l) c h = absurd (omega arith)
steps_chain n words (suc k) j [] c h = ap (λ (q : ℕ). steps (suc k) words q) c
steps_chain n words (suc k) j (x ∷ l) c h =
    ap (λ (q : ℕ). steps (suc k) words q) c.0 ∙ ap suc (steps_chain n words k x l c.3 (omega arith))

-- the walk has come to a word that holds q: best goes before each node of the slot that is not still to come
pub record LeastWalk (n segments s : ℕ) (words keys : List ℕ) (best q : ℕ) : Type 0 where
  pub in_slot : InSlot n segments s words best
  from : ℕ
  here : get_or words from 0 ≡ q
  rest : List ℕ
  chain : Spells n words from rest
  short : length rest ≤ n
  own : (x : ℕ) → ListedIn x rest → InSlot n segments s words x
  seen : (x : ℕ) → InSlot n segments s words x → ListedIn x rest ⊎ Before keys best x

module _ {n slots segments : ℕ} {words : List ℕ} (L : Linked n slots segments words) (s : ℕ) (hs : s < slots) (keys : List ℕ)
    (some : SomeNode (InSlot n segments s words)) where
  pub walk_nonempty : 0 < get_or words (heads n + s) 0
  walk_nonempty = go (dec_lt 0 (get_or words (heads n + s) 0))
    where
      go : Dec (0 < get_or words (heads n + s) 0) → 0 < get_or words (heads n + s) 0
      go (yes h) = h
      go (no h) = absurd (first_none L s hs (omega arith) some.node some.holds)

  pub walk_start : LeastWalk n segments s words keys (get_or words (heads n + s) 0 - 1) (get_or words (get_or words (heads n + s) 0 - 1) 0)
  walk_start =
      let a : Slot n segments words s = L.chains.slot s hs in
      go a.nodes a.chain a.once
      (λ x i.
      let h : x < n = chain_below n words (heads n + s) a.nodes a.chain x i in
      (h, place_word_lem n words x h ∙ a.held x i))
      (λ x p. a.all x p.0 (sym (place_word_lem n words x p.0) ∙ p.1))
    where
      go : (l : List ℕ) → Spells n words (heads n + s) l → Once l
          → ((x : ℕ) → ListedIn x l → InSlot n segments s words x)
          → ((x : ℕ) → InSlot n segments s words x → ListedIn x l)
          → LeastWalk n segments s words keys (get_or words (heads n + s) 0 - 1) (get_or words (get_or words (heads n + s) 0 - 1) 0)
      go [] c o held all = let h : 0 < get_or words (heads n + s) 0 = walk_nonempty in absurd (omega arith)
      go (x ∷ r) c o held all =
          let d : get_or words (heads n + s) 0 ≡ suc x = c.0 in
          let e : x ≡ get_or words (heads n + s) 0 - 1 = omega arith in
          let f : suc (length r) ≤ n = few n (x ∷ r) o (chain_below n words (heads n + s) (x ∷ r) c) in
          subst (λ (k : ℕ). LeastWalk n segments s words keys k (get_or words k 0)) e
          (record {
            in_slot = held x (inl refl);
            from = x;
            here = refl;
            rest = r;
            chain = c.3;
            short = omega arith;
            own = λ y i. held y (inr i);
            seen = λ y p. ⊎_elim (λ q. inr (inr (ap (λ (k : ℕ). get_or keys k 0) (sym q), omega arith))) (λ j. inl j) (all y p);
          })

module _ {n segments s : ℕ} {words keys : List ℕ} {best q : ℕ} (W : LeastWalk n segments s words keys best q) where
  pub walk_below : q ≤ n
  walk_below = omega (arith, W.here, chain_le n words W.from W.rest W.chain)

  pub walk_next : (q ≡ 0 → ⊥) → (r : ℕ) → Earlier keys best (q - 1) r
      → LeastWalk n segments s words keys r (get_or words (q - 1) 0) × (steps n words (get_or words (q - 1) 0) < steps n words q)
  walk_next h r f = go W.rest W.chain W.short W.own W.seen
    where
      go : (l : List ℕ) → Spells n words W.from l → length l ≤ n → ((x : ℕ) → ListedIn x l → InSlot n segments s words x)
          → ((x : ℕ) → InSlot n segments s words x → ListedIn x l ⊎ Before keys best x)
          → LeastWalk n segments s words keys r (get_or words (q - 1) 0) × (steps n words (get_or words (q - 1) 0) < steps n words q)
      go [] c short own seen = absurd (h (sym W.here ∙ c))
      go (x ∷ l) c short own seen =
          let e : get_or words W.from 0 ≡ suc x = c.0 in
          let d : x ≡ q - 1 = omega (arith, W.here) in
          let rx : Earlier keys best x r = subst (λ (k : ℕ). Earlier keys best k r) (sym d) f in
          let m : steps n words (get_or words x 0) ≡ length l = steps_chain n words n x l c.3 (omega arith) in
          let g : steps n words (get_or words W.from 0) ≡ suc (length l) = steps_chain n words n W.from (x ∷ l) c short in
          let g' : steps n words q ≡ suc (length l) = ap (λ (k : ℕ). steps n words k) (sym W.here) ∙ g in
          subst (λ (k : ℕ). LeastWalk n segments s words keys r (get_or words k 0) × (steps n words (get_or words k 0) < steps n words q)) d (
            record {
              in_slot = ⊎_elim (λ (z : r ≡ best). subst (λ (k : ℕ). InSlot n segments s words k) (sym z) W.in_slot)
                  (λ (z : r ≡ x). subst (λ (k : ℕ). InSlot n segments s words k) (sym z) (own x (inl refl))) rx.one;
              from = x;
              here = refl;
              rest = l;
              chain = c.3;
              short = omega arith;
              own = λ y i. own y (inr i);
              seen = λ y p.
                  ⊎_elim
                  (λ i. ⊎_elim (λ (z : y ≡ x). inr (subst (λ (k : ℕ). Before keys r k) (sym z) rx.right)) (λ j. inl j) i)
                  (λ b. inr (before_trans keys r best y rx.left b))
                  (seen y p);
            },
            omega arith,
          )

  pub walk_end : q ≡ 0 → LeastIn n segments s words keys best
  walk_end e =
      record { in_slot = W.in_slot; before = λ u p. go W.rest W.chain u (W.seen u p) }
    where
      go : (l : List ℕ) → Spells n words W.from l → (u : ℕ) → ListedIn u l ⊎ Before keys best u → Before keys best u
      go [] c u (inl i) = absurd i
      go (x ∷ l) c u (inl i) = let d : get_or words W.from 0 ≡ suc x = c.0 in absurd (omega (arith, W.here))
      go [] c u (inr b) = b
      go (x ∷ l) c u (inr b) = b
