-- `unlink`: v leaves its slot. `AfterTake` says what the words then are, `take_chains` that such words are in order again, and
-- `take_relinked` that the stores of the code make such words. Assumes nothing.
use Rattle.std.specs.Prelude.{◌≡◌, refl, ◌≢◌, List, [], ◌∷◌, ℕ, zero, suc, ◌+◌, ◌*◌, ◌≤◌, ◌<◌, length, get_or, set}
use Rattle.std.proofs.Common.{sym, ap, ◌∙◌, subst, inl, inr, arith, length-set}
use Rattle.std.proofs.Math.Nat.{suc_inj}
use Rattle.std.proofs.Math.Decide.{ℕ_discrete}
use Rattle.buckets.specs.Lists.{ListedIn, Once}
use Rattle.buckets.specs.Lists.Without.{without, in_subst, in_without, not_in_without, in_other, once_without}
use Rattle.buckets.specs.Words.{place_word, place_slot, node_or, Held, Named, places, heads, Other, WordsFit}
use Rattle.buckets.specs.Words.Laws.{place_word_lem, node_or_is, node_or_low, node_or_apart}
use Rattle.buckets.specs.Links.{Points, Spells, Slot, Chains, Relinked}
use Rattle.buckets.specs.Links.Chain.{head_points, chain_below, back, next_in, slot_other, chains_again, slots_again}
use Rattle.buckets.specs.Links.Stores.{store, read_other, read_here, relinked_stores}

-- v is in no slot, and what pointed to it points to the node after it
record AfterTake (n slots v : ℕ) (words words' : List ℕ) : Type 0 where
  link : get_or words' (get_or words (n + v) 0) 0 ≡ get_or words v 0
  after : (u : ℕ) → u < n → get_or words v 0 ≡ suc u → get_or words' (n + u) 0 ≡ get_or words (n + v) 0
  place : get_or words' (2 * n + v) 0 ≡ 0
  points : (j : ℕ) → Points n slots j → j ≢ get_or words (n + v) 0 → get_or words' j 0 ≡ get_or words j 0
  befores : (x : ℕ) → x < n → (get_or words v 0 ≡ suc x → ⊥) → get_or words' (n + x) 0 ≡ get_or words (n + x) 0
  other_places : (x : ℕ) → x < n → x ≢ v → get_or words' (2 * n + x) 0 ≡ get_or words (2 * n + x) 0

module _ {n slots segments v s : ℕ} {words words' : List ℕ} (few : slots < 512) (hv : v < n) (hs : s < slots)
    (at : get_or words (2 * n + v) 0 ≡ place_word segments s) (C : Chains n slots segments words) (f : AfterTake n slots v words words') where
  v_in : ListedIn v (C.slot s hs).nodes
  v_in = (C.slot s hs).all v hv at

  v_back : get_or words (get_or words (n + v) 0) 0 ≡ suc v
  v_back = (back n words slots (heads n + s) (C.slot s hs).nodes (head_points n slots s hs) (C.slot s hs).chain v v_in).1

  -- a word that does not point to v is as it was
  kept : (j k : ℕ) → Points n slots j → get_or words j 0 ≡ k → k ≢ suc v → get_or words' j 0 ≡ k
  kept j k q e d = f.points j q (λ b. d (sym e ∙ ap (λ (i : ℕ). get_or words i 0) b ∙ v_back)) ∙ e

  -- a chain without v, and without the node after v
  apart : (j : ℕ) (l : List ℕ) → Points n slots j → Spells n words j l → (ListedIn v l → ⊥) → ((x : ℕ) → ListedIn x l → get_or words v 0 ≡ suc x → ⊥)
      → Spells n words' j l
  apart j [] q c k d = kept j 0 q c (omega arith)
  apart j (x ∷ l) q c k d = (
    kept j (suc x) q c.0 (λ e. k (inl (sym (suc_inj e)))),
    c.1,
    f.befores x c.1 (d x (inl refl)) ∙ c.2,
    apart x l (inl c.1) c.3 (λ i. k (inr i)) (λ y i. d y (inr i)),
  )

  -- v's own chain, from v on: the word that pointed to v points to what follows v
  rest : (l : List ℕ) → Spells n words v l → Once (v ∷ l) → Spells n words' (get_or words (n + v) 0) l
  rest [] c o = f.link ∙ c
  rest (u ∷ l) c o = (
    f.link ∙ c.0,
    c.1,
    f.after u c.1 c.0,
    apart u l (inl c.1) c.3 (λ i. o.0 (inr i)) (λ x i e. o.1.0 (in_subst x u l (suc_inj (sym e ∙ c.0)) i)),
  )

  whole : (j : ℕ) (l : List ℕ) → Points n slots j → Spells n words j l → Once l → (m : ListedIn v l) → Spells n words' j (without v l m)
  whole j [] q c o m = absurd m
  whole j (y ∷ l) q c o (inl e) =
      let b : get_or words (n + v) 0 ≡ j = ap (λ (k : ℕ). get_or words (n + k) 0) e ∙ c.2 in
      subst (λ (k : ℕ). Spells n words' k l) b
      (rest l (subst (λ (k : ℕ). Spells n words k l) (sym e) c.3) (subst (λ (k : ℕ). Once (k ∷ l)) (sym e) o))
  whole j (y ∷ l) q c o (inr m) = (
    kept j (suc y) q c.0 (λ e. o.0 (in_subst v y l (sym (suc_inj e)) m)),
    c.1,
    f.befores y c.1 (λ e. o.0 (next_in n words y l c.3 v y m e)) ∙ c.2,
    whole y l (inl c.1) c.3 o.1 m,
  )

  own : Slot n segments words' s
  own =
      let a : Slot n segments words s = C.slot s hs in
      record {
        nodes = without v a.nodes v_in;
        chain = whole (heads n + s) a.nodes (head_points n slots s hs) a.chain a.once v_in;
        once = once_without v a.nodes v_in a.once;
        held = λ x i. is_held x i (in_without v a.nodes v_in x i);
        all = λ x h e. go x h e (ℕ_discrete x v);
      }
    where
      is_held : (x : ℕ) → ListedIn x (without v (C.slot s hs).nodes v_in) → ListedIn x (C.slot s hs).nodes
          → get_or words' (2 * n + x) 0 ≡ place_word segments s
      is_held x i j =
          f.other_places x (chain_below n words (heads n + s) (C.slot s hs).nodes (C.slot s hs).chain x j)
          (λ e. not_in_without v (C.slot s hs).nodes v_in (C.slot s hs).once (in_subst x v (without v (C.slot s hs).nodes v_in) e i))
          ∙ (C.slot s hs).held x j

      go : (x : ℕ) → x < n → get_or words' (2 * n + x) 0 ≡ place_word segments s → Dec (x ≡ v) → ListedIn x (without v (C.slot s hs).nodes v_in)
      go x h e (yes d) =
          let g : get_or words' (2 * n + v) 0 ≡ place_word segments s = ap (λ (k : ℕ). get_or words' (2 * n + k) 0) (sym d) ∙ e in
          let z : get_or words' (2 * n + v) 0 ≡ 0 = f.place in
          absurd (omega arith)
      go x h e (no d) = in_other v (C.slot s hs).nodes v_in x d ((C.slot s hs).all x h (sym (f.other_places x h d) ∙ e))

  other : (t : ℕ) → t < slots → t ≢ s → Slot n segments words' t
  other t ht d =
      let a : Slot n segments words t = C.slot t ht in
      slot_other n words words' v 0 f.place f.other_places segments t a
      (apart (heads n + t) a.nodes (head_points n slots t ht) a.chain not_v not_after)
      not_v
      (omega arith)
    where
      not_v : ListedIn v (C.slot t ht).nodes → ⊥
      not_v i = let g : get_or words (2 * n + v) 0 ≡ place_word segments t = (C.slot t ht).held v i in omega arith

      not_after : (x : ℕ) → ListedIn x (C.slot t ht).nodes → get_or words v 0 ≡ suc x → ⊥
      not_after x i e =
          let b : get_or words (2 * n + x) 0 ≡ place_word segments s =
          (C.slot s hs).held x (next_in n words (heads n + s) (C.slot s hs).nodes (C.slot s hs).chain v x v_in e) in
          let g : get_or words (2 * n + x) 0 ≡ place_word segments t = (C.slot t ht).held x i in
          omega arith

  take_chains : Chains n slots segments words'
  take_chains =
      chains_again n words words' v 0 f.place f.other_places slots segments C (λ h. absurd (omega arith)) (slots_again s own other)

-- ---- the code's stores

-- a word that points is no before word and no place word, and is the lists'
points_off : (n slots j : ℕ) → Points n slots j → (x : ℕ) → x < n → (j ≢ n + x) × (j ≢ 2 * n + x)
points_off n slots j (inl h) x g = omega arith
points_off n slots j (inr h) x g = omega arith

points_low : (n slots j : ℕ) → Points n slots j → j < heads n + slots
points_low n slots j (inl h) = omega arith
points_low n slots j (inr h) = omega arith

points_ours : (n slots i j : ℕ) → Points n slots j → Other n slots i → i ≢ j
points_ours n slots i j (inl h) (inl o) = omega arith
points_ours n slots i j (inl h) (inr o) = omega arith
points_ours n slots i j (inr h) (inl o) = omega arith
points_ours n slots i j (inr h) (inr o) = omega arith

module _ {n slots segments : ℕ} {words : List ℕ} (F : WordsFit n slots segments (length words)) (C : Chains n slots segments words)
    (v : ℕ) (hv : v < n) (held : Held (get_or (places n words) v 0)) where
  -- v's next word, 0 or the node after it and 1
  abbrev next : ℕ
  next = get_or words v 0

  -- v's before word, the index of the word that points to v
  abbrev home : ℕ
  home = get_or words (n + v) 0

  -- v's slot
  abbrev slot_of : ℕ
  slot_of = place_slot (get_or words (2 * n + v) 0)

  named : Named slots segments (get_or words (2 * n + v) 0)
  named = C.named v hv (omega (arith, place_word_lem n words v hv))

  slot_of_in : ListedIn v (C.slot slot_of named.0).nodes
  slot_of_in = (C.slot slot_of named.0).all v hv named.1

  home_points : Points n slots home
  home_points =
      let a : Slot n segments words slot_of = C.slot slot_of named.0 in
      (back n words slots (heads n + slot_of) a.nodes (head_points n slots slot_of named.0) a.chain v slot_of_in).0

  -- what the code asks of v's words: the word that points to v is in range, and v's next word is 0, or a node's number and 1
  pub home_low : home < heads n + slots
  home_low = points_low n slots home home_points

  pub next_le : next ≤ n
  next_le = go next refl
    where
      go : (q : ℕ) → next ≡ q → q ≤ n
      go zero e = omega arith
      go (suc u) e =
          let a : Slot n segments words slot_of = C.slot slot_of named.0 in
          chain_below n words (heads n + slot_of) a.nodes a.chain u
          (next_in n words (heads n + slot_of) a.nodes a.chain v u slot_of_in e)

  -- what is stored: v's place word, the word that points to v, and the next node's before word, or v's own again
  module _ (place link-word after target : ℕ) (stored : (place ≡ 0) × (link-word ≡ next) × (after ≡ home) × (target ≡ node_or next v)) where
    -- the stores that are left after one
    abbrev take_1 : List (ℕ × ℕ)
    take_1 = (home, link-word) ∷ (n + target, after) ∷ []

    -- all the stores
    abbrev take_0 : List (ℕ × ℕ)
    take_0 = (2 * n + v, place) ∷ take_1

    target_low : target < n
    target_low = omega (arith, stored.3, node_or_low next v n next_le hv)

    off : (j : ℕ) → (j ≢ 2 * n + v) → (j ≢ home) → (j ≢ n + target) → get_or (store words take_0) j 0 ≡ get_or words j 0
    off j h g k = read_other words take_0 j (h, (g, (k, tt)))

    off_other : (j : ℕ) → Other n slots j → get_or (store words take_0) j 0 ≡ get_or words j 0
    off_other j (inl o) = off j (omega arith) (points_ours n slots j home home_points (inl o)) (omega (arith, target_low))
    off_other j (inr o) = off j (omega arith) (points_ours n slots j home home_points (inr o)) (omega (arith, target_low))

    -- the word stored last
    target_here : (x : ℕ) → x ≡ target → get_or (store words take_0) (n + x) 0 ≡ home
    target_here x e =
        let long : heads n + slots ≤ length words = omega (arith, F.long) in
        ap (λ (k : ℕ). get_or (store words take_0) (n + k) 0) e
        ∙ read_here (set (set words (2 * n + v) place) home link-word) (n + target) after [] (simp length-set (omega (arith, target_low))) tt ∙ stored.2

    take_words : AfterTake n slots v words (store words take_0)
    take_words =
        let long : heads n + slots ≤ length words = omega (arith, F.long) in
        let low : home < heads n + slots = home_low in
        let apart : (x : ℕ) → x < n → (home ≢ n + x) × (home ≢ 2 * n + x) = points_off n slots home home_points in
        let w₁ : List ℕ = set words (2 * n + v) place in
        record {
          place = read_here words (2 * n + v) place take_1 (omega arith) ((λ e. (apart v hv).1 (sym e)), (omega (arith, target_low), tt)) ∙ stored.0;
          link = read_here w₁ home link-word ((n + target, after) ∷ []) (simp length-set (omega arith)) ((apart target target_low).0, tt) ∙ stored.1;
          after = λ u h e. target_here u (sym (stored.3 ∙ node_or_is next v u e));
          points = λ j q d. off j (points_off n slots j q v hv).1 d (points_off n slots j q target target_low).0;
          befores = λ x h k. before x h k (apart x h).0 (ℕ_discrete x target) (ℕ_discrete x v);
          other_places = λ x h d. off (2 * n + x) (omega arith) (λ e. (apart x h).1 (sym e)) (omega (arith, target_low));
        }
      where
        before : (x : ℕ) → x < n → (next ≡ suc x → ⊥) → home ≢ n + x → Dec (x ≡ target) → Dec (x ≡ v) → get_or (store words take_0) (n + x) 0 ≡ get_or words (n + x) 0
        before x h k a (no d) m = off (n + x) (omega arith) (λ e. a (sym e)) (omega arith)
        before x h k a (yes d) (yes e) = target_here x d ∙ ap (λ (i : ℕ). get_or words (n + i) 0) (sym e)
        before x h k a (yes d) (no e) = absurd (node_or_apart next v x e k (d ∙ stored.3))

    -- v is taken out of its slot
    pub take_relinked : (at : ℕ) → at ≡ home
        → Relinked n slots segments words (set (set (set words (2 * n + v) place) at link-word) (n + target) after) v 0
    take_relinked at e =
        subst (λ (j : ℕ). Relinked n slots segments words (set (set (set words (2 * n + v) place) j link-word) (n + target) after) v 0) (sym e)
        (relinked_stores F take_0 v 0 hv take_words.place take_words.other_places off_other
        (take_chains F.few hv named.0 named.1 C take_words))
