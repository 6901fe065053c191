-- `link`: v, which no slot holds, becomes the first of slot s. `AfterPut` says what the words then are, `put_chains` that such words are
-- in order again, and `put_relinked` that the stores of the code make such words. Assumes nothing.
use Rattle.std.specs.Prelude.{◌≡◌, refl, ◌≢◌, List, [], ◌∷◌, ℕ, suc, ◌+◌, ◌*◌, ◌≤◌, ◌<◌, length, get_or, set}
use Rattle.std.proofs.Common.{sym, ap, ◌∙◌, inl, inr, ⊎_elim, arith, length-set}
use Rattle.std.proofs.Math.Nat.{suc_inj}
use Rattle.std.proofs.Math.Decide.{ℕ_discrete}
use Rattle.buckets.specs.Lists.{ListedIn, Once}
use Rattle.buckets.specs.Lists.Without.{in_subst}
use Rattle.buckets.specs.Words.{place_word, node_or, Free, places, heads, Other, WordsFit}
use Rattle.buckets.specs.Words.Laws.{place_named, place_word_lem, node_or_is, node_or_low, node_or_apart}
use Rattle.buckets.specs.Links.{Spells, Slot, Chains, Relinked}
use Rattle.buckets.specs.Links.Chain as chain
use Rattle.buckets.specs.Links.Chain.{chain_below, first_in, frame, slot_other, chains_again, slots_again}
use Rattle.buckets.specs.Links.Stores.{store, read_other, read_here, relinked_stores}

-- v is the first of slot s, with x for its place word, and what the slot held follows it
record AfterPut (n v s x : ℕ) (words words' : List ℕ) : Type 0 where
  head : get_or words' (heads n + s) 0 ≡ suc v
  next : get_or words' v 0 ≡ get_or words (heads n + s) 0
  before : get_or words' (n + v) 0 ≡ heads n + s
  place : get_or words' (2 * n + v) 0 ≡ x
  after : (u : ℕ) → u < n → get_or words (heads n + s) 0 ≡ suc u → get_or words' (n + u) 0 ≡ v
  other_heads : (t : ℕ) → t ≢ s → get_or words' (heads n + t) 0 ≡ get_or words (heads n + t) 0
  nexts : (y : ℕ) → y < n → y ≢ v → get_or words' y 0 ≡ get_or words y 0
  befores : (y : ℕ) → y < n → y ≢ v → (get_or words (heads n + s) 0 ≡ suc y → ⊥) → get_or words' (n + y) 0 ≡ get_or words (n + y) 0
  other_places : (y : ℕ) → y < n → y ≢ v → get_or words' (2 * n + y) 0 ≡ get_or words (2 * n + y) 0

module _ {n slots segments v s : ℕ} {words words' : List ℕ} (few : slots < 512) (hv : v < n) (hs : s < slots)
    (free : Free (get_or words (2 * n + v) 0)) (C : Chains n slots segments words) (f : AfterPut n v s (place_word segments s) words words') where
  -- v is in no slot
  new : (t : ℕ) (ht : t < slots) (x : ℕ) → ListedIn x (C.slot t ht).nodes → x ≢ v
  new t ht x i e =
      let g : get_or words (2 * n + v) 0 ≡ place_word segments t = ap (λ (k : ℕ). get_or words (2 * n + k) 0) (sym e) ∙ (C.slot t ht).held x i in
      omega arith

  -- the slot's old chain, from v's next word
  tail : (l : List ℕ) → Spells n words (heads n + s) l → Once l → ((x : ℕ) → ListedIn x l → x ≢ v) → Spells n words' v l
  tail [] c o k = f.next ∙ c
  tail (u ∷ r) c o k = (
    f.next ∙ c.0,
    c.1,
    f.after u c.1 c.0,
    frame n words words' u r (f.nexts u c.1 (k u (inl refl)))
        (λ x h i. (
          f.nexts x h (k x (inr i)),
          f.befores x h (k x (inr i)) (λ e. o.0 (in_subst x u r (suc_inj (sym e ∙ c.0)) i)),
        ))
        c.3,
  )

  own : Slot n segments words' s
  own =
      let a : Slot n segments words s = C.slot s hs in
      record {
        nodes = v ∷ a.nodes;
        chain = (f.head, hv, f.before, tail a.nodes a.chain a.once (new s hs));
        once = (λ i. new s hs v i refl, a.once);
        held = λ x. ⊎_elim (λ e. ap (λ (k : ℕ). get_or words' (2 * n + k) 0) e ∙ f.place)
            (λ i. f.other_places x (chain_below n words (heads n + s) a.nodes a.chain x i) (new s hs x i) ∙ a.held x i);
        all = λ x h e. go x h e (ℕ_discrete x v);
      }
    where
      go : (x : ℕ) → x < n → get_or words' (2 * n + x) 0 ≡ place_word segments s → Dec (x ≡ v) → ListedIn x (v ∷ (C.slot s hs).nodes)
      go x h e (yes d) = inl d
      go x h e (no d) = inr ((C.slot s hs).all x h (sym (f.other_places x h d) ∙ e))

  other : (t : ℕ) → t < slots → t ≢ s → Slot n segments words' t
  other t ht d =
      let a : Slot n segments words t = C.slot t ht in
      slot_other n words words' v (place_word segments s) f.place f.other_places segments t a
      (frame n words words' (heads n + t) a.nodes (f.other_heads t d)
      (λ x h i. (f.nexts x h (new t ht x i), f.befores x h (new t ht x i) (apart x i)))
      a.chain)
      (λ i. new t ht v i refl)
      (omega arith)
    where
      apart : (x : ℕ) → ListedIn x (C.slot t ht).nodes → get_or words (heads n + s) 0 ≡ suc x → ⊥
      apart x i e =
          let b : get_or words (2 * n + x) 0 ≡ place_word segments s =
          (C.slot s hs).held x (first_in n words (heads n + s) (C.slot s hs).nodes (C.slot s hs).chain x e) in
          let g : get_or words (2 * n + x) 0 ≡ place_word segments t = (C.slot t ht).held x i in
          omega arith

  put_chains : Chains n slots segments words'
  put_chains =
      chains_again n words words' v (place_word segments s) f.place f.other_places slots segments C
      (λ h. place_named slots segments s few hs)
      (slots_again s own other)

-- ---- the code's stores

module _ {n slots segments : ℕ} {words : List ℕ} (F : WordsFit n slots segments (length words)) (C : Chains n slots segments words)
    (v s : ℕ) (hv : v < n) (hs : s < slots) where
  -- the slot's head word, 0 or its first node and 1
  abbrev first : ℕ
  first = get_or words (heads n + s) 0

  pub head_le : first ≤ n
  head_le = chain.head_le C s hs

  -- what is stored: the old first node's before word, or v's own for now, then v's place word, its before word, its next word, and the
  -- slot's head word
  module _ (after place before next head target : ℕ)
      (stored : (after ≡ v) × (place ≡ place_word segments s) × (before ≡ heads n + s) × (next ≡ first) × (head ≡ v + 1) × (target ≡ node_or first v))
      (free : Free (get_or (places n words) v 0)) where
    -- the stores that are left after three
    abbrev put_3 : List (ℕ × ℕ)
    put_3 = (v, next) ∷ (heads n + s, head) ∷ []

    -- after two
    abbrev put_2 : List (ℕ × ℕ)
    put_2 = (n + v, before) ∷ put_3

    -- after one
    abbrev put_1 : List (ℕ × ℕ)
    put_1 = (2 * n + v, place) ∷ put_2

    -- all the stores
    abbrev put_0 : List (ℕ × ℕ)
    put_0 = (n + target, after) ∷ put_1

    target_low : target < n
    target_low = omega (arith, stored.5, node_or_low first v n head_le hv)

    off : (j : ℕ) → (j ≢ 2 * n + v) × (j ≢ n + v) × (j ≢ v) × (j ≢ heads n + s) → j ≢ n + target
        → get_or (store words put_0) j 0 ≡ get_or words j 0
    off j h k = read_other words put_0 j (k, (h.0, (h.1, (h.2, (h.3, tt)))))

    off_other : (j : ℕ) → Other n slots j → get_or (store words put_0) j 0 ≡ get_or words j 0
    off_other j (inl o) = off j (omega arith) (omega (arith, target_low))
    off_other j (inr o) = off j (omega arith) (omega (arith, target_low))

    out : Free (get_or words (2 * n + v) 0)
    out = omega (arith, place_word_lem n words v hv)

    not_first : first ≡ suc v → ⊥
    not_first e =
        let a : Slot n segments words s = C.slot s hs in
        let g : get_or words (2 * n + v) 0 ≡ place_word segments s = a.held v (first_in n words (heads n + s) a.nodes a.chain v e) in
        omega (arith, out)

    put_words : AfterPut n v s (place_word segments s) words (store words put_0)
    put_words =
        let long : heads n + slots ≤ length words = omega (arith, F.long) in
        let low : target < n = target_low in
        let w₁ : List ℕ = set words (n + target) after in
        let w₂ : List ℕ = set w₁ (2 * n + v) place in
        let w₃ : List ℕ = set w₂ (n + v) before in
        record {
          place = read_here w₁ (2 * n + v) place put_2 (simp length-set (omega arith)) (omega arith, (omega arith, (omega arith, tt))) ∙ stored.1;
          before = read_here w₂ (n + v) before put_3 (simp length-set (omega arith)) (omega arith, (omega arith, tt)) ∙ stored.2;
          next = read_here w₃ v next ((heads n + s, head) ∷ []) (simp length-set (omega arith)) (omega arith, tt) ∙ stored.3;
          head = read_here (set w₃ v next) (heads n + s) head [] (simp length-set (omega arith)) tt ∙ omega (arith, stored.4);
          after = λ u h e.
              let t : target ≡ u = stored.5 ∙ node_or_is first v u e in
              let d : u ≢ v = λ z. not_first (e ∙ ap suc z) in
              ap (λ (k : ℕ). get_or (store words put_0) (n + k) 0) (sym t)
              ∙ read_here words (n + target) after put_1 (omega arith) (omega arith, (omega arith, (omega arith, (omega arith, tt)))) ∙ stored.0;
          other_heads = λ t d. off (heads n + t) (omega arith) (omega arith);
          nexts = λ y h d. off y (omega arith) (omega arith);
          befores = λ y h d k. let a : y ≢ target = λ e. node_or_apart first v y d k (e ∙ stored.5) in off (n + y) (omega arith) (omega arith);
          other_places = λ y h d. off (2 * n + y) (omega arith) (omega arith);
        }

    -- v is put into slot s
    pub put_relinked : Relinked n slots segments words (store words put_0) v (place_word segments s)
    put_relinked =
        relinked_stores F put_0 v (place_word segments s) hv put_words.place put_words.other_places off_other
        (put_chains F.few hv hs out C put_words)
