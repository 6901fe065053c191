-- Chains of nodes: what they point to, and what they do not read. Assumes nothing.
use Rattle.std.specs.Prelude.{◌≡◌, refl, ◌≢◌, List, [], ◌∷◌, ℕ, suc, ◌+◌, ◌*◌, ◌≤◌, ◌<◌, get_or}
use Rattle.std.proofs.Common.{sym, ap, ◌∙◌, subst, inl, inr, arith}
use Rattle.std.proofs.Math.Nat.{suc_inj}
use Rattle.std.proofs.Math.Decide.{ℕ_discrete}
use Rattle.buckets.specs.Lists.{ListedIn}
use Rattle.buckets.specs.Lists.Without.{in_subst}
use Rattle.buckets.specs.Words.{place_word, Held, Named, heads, Ours}
use Rattle.buckets.specs.Links.{Points, Spells, Slot, Chains}

pub head_points : (n slots s : ℕ) → s < slots → Points n slots (heads n + s)
head_points n slots s h = inr (omega arith)

module _ (n : ℕ) (words : List ℕ) where
  pub chain_below : (j : ℕ) (l : List ℕ) → Spells n words j l → (x : ℕ) → ListedIn x l → x < n
  chain_below j [] c x i = absurd i
  chain_below j (y ∷ l) c x (inl e) = let h : y < n = c.1 in omega arith
  chain_below j (y ∷ l) c x (inr i) = chain_below y l c.3 x i

  -- the word that a node's before word names points to the node
  pub back : (slots j : ℕ) (l : List ℕ) → Points n slots j → Spells n words j l → (x : ℕ) → ListedIn x l
      → Points n slots (get_or words (n + x) 0) × (get_or words (get_or words (n + x) 0) 0 ≡ suc x)
  back slots j [] q c x i = absurd i
  back slots j (y ∷ l) q c x (inl e) =
      let b : get_or words (n + x) 0 ≡ j = ap (λ (k : ℕ). get_or words (n + k) 0) e ∙ c.2 in
      (subst (λ (k : ℕ). Points n slots k) (sym b) q, ap (λ (k : ℕ). get_or words k 0) b ∙ c.0 ∙ ap suc (sym e))
  back slots j (y ∷ l) q c x (inr i) = back slots y l (inl c.1) c.3 x i

  -- the node that the chain's word points to is of the chain
  pub first_in : (j : ℕ) (l : List ℕ) → Spells n words j l → (x : ℕ) → get_or words j 0 ≡ suc x → ListedIn x l
  first_in j [] c x e = absurd (omega arith)
  first_in j (y ∷ l) c x e = inl (suc_inj (sym e ∙ c.0))

  -- the node after one of the chain is of the chain
  pub next_in : (j : ℕ) (l : List ℕ) → Spells n words j l → (v u : ℕ) → ListedIn v l → get_or words v 0 ≡ suc u → ListedIn u l
  next_in j [] c v u i e = absurd i
  next_in j (y ∷ l) c v u (inl d) e = inr (first_in y l c.3 u (ap (λ (k : ℕ). get_or words k 0) (sym d) ∙ e))
  next_in j (y ∷ l) c v u (inr i) e = inr (next_in y l c.3 v u i e)

  -- the word that a chain starts from holds 0, or a node's number and 1
  pub chain_le : (j : ℕ) (l : List ℕ) → Spells n words j l → get_or words j 0 ≤ n
  chain_le j [] c = omega arith
  chain_le j (x ∷ l) c = let e : get_or words j 0 ≡ suc x = c.0 in let h : x < n = c.1 in omega arith

  module _ (words' : List ℕ) where
    -- words that the chain does not read may change
    pub frame : (j : ℕ) (l : List ℕ) → get_or words' j 0 ≡ get_or words j 0
        → ((x : ℕ) → x < n → ListedIn x l → (get_or words' x 0 ≡ get_or words x 0) × (get_or words' (n + x) 0 ≡ get_or words (n + x) 0))
        → Spells n words j l → Spells n words' j l
    frame j [] e f c = e ∙ c
    frame j (x ∷ l) e f c =
        let g : (get_or words' x 0 ≡ get_or words x 0) × (get_or words' (n + x) 0 ≡ get_or words (n + x) 0) = f x c.1 (inl refl) in
        (e ∙ c.0, c.1, g.1 ∙ c.2, frame x l g.0 (λ y h i. f y h (inr i)) c.3)

    -- v's place word has become x, and every other one is as it was
    module _ (v x : ℕ) (here : get_or words' (2 * n + v) 0 ≡ x)
        (same : (y : ℕ) → y < n → y ≢ v → get_or words' (2 * n + y) 0 ≡ get_or words (2 * n + y) 0) where
      -- a slot whose chain is as it was, that did not hold v and does not
      pub slot_other : (segments t : ℕ) (a : Slot n segments words t) → Spells n words' (heads n + t) a.nodes → (ListedIn v a.nodes → ⊥)
          → x ≢ place_word segments t → Slot n segments words' t
      slot_other segments t a c out d =
          record {
            nodes = a.nodes;
            chain = c;
            once = a.once;
            held = λ y i.
                same y (chain_below (heads n + t) a.nodes a.chain y i) (λ e. out (in_subst y v a.nodes e i)) ∙ a.held y i;
            all = λ y h e. go y h e (ℕ_discrete y v);
          }
        where
          go : (y : ℕ) → y < n → get_or words' (2 * n + y) 0 ≡ place_word segments t → Dec (y ≡ v) → ListedIn y a.nodes
          go y h e (yes q) = absurd (d (sym here ∙ ap (λ (k : ℕ). get_or words' (2 * n + k) 0) (sym q) ∙ e))
          go y h e (no q) = a.all y h (sym (same y h q) ∙ e)

      -- each slot is in order again, and so are the lists
      pub chains_again : (slots segments : ℕ) → Chains n slots segments words → (Held x → Named slots segments x)
          → ((t : ℕ) → t < slots → Slot n segments words' t) → Chains n slots segments words'
      chains_again slots segments C name slot =
          record { slot = slot; named = λ y h. go y h (ℕ_discrete y v) }
        where
          go : (y : ℕ) → y < n → Dec (y ≡ v) → Held (get_or words' (2 * n + y) 0) → Named slots segments (get_or words' (2 * n + y) 0)
          go y h (yes q) =
              let e : x ≡ get_or words' (2 * n + y) 0 = sym here ∙ ap (λ (k : ℕ). get_or words' (2 * n + k) 0) (sym q) in
              subst (λ (k : ℕ). Held k → Named slots segments k) e name
          go y h (no q) =
              subst (λ (k : ℕ). Held k → Named slots segments k) (sym (same y h q)) (C.named y h)

-- one slot, and every other
pub slots_again : {n slots segments : ℕ} {words : List ℕ} (s : ℕ) → Slot n segments words s
    → ((t : ℕ) → t < slots → t ≢ s → Slot n segments words t) → (t : ℕ) → t < slots → Slot n segments words t
slots_again {n} {slots} {segments} {words} s own other t ht = go (ℕ_discrete t s)
  where
    go : Dec (t ≡ s) → Slot n segments words t
    go (yes e) = subst (λ (k : ℕ). Slot n segments words k) (sym e) own
    go (no d) = other t ht d

-- the lists read the next, before, place and head words alone
pub chains_same : {n slots segments : ℕ} {words words' : List ℕ} → Chains n slots segments words
    → ((j : ℕ) → Ours n slots j → get_or words' j 0 ≡ get_or words j 0) → Chains n slots segments words'
chains_same {n} {slots} {segments} {words} {words'} C same =
    record {
      slot = λ t ht. go t ht;
      named = λ x h.
          subst (λ (k : ℕ). Held k → Named slots segments k) (sym (same (2 * n + x) (inl (omega arith)))) (C.named x h);
    }
  where
    go : (t : ℕ) → t < slots → Slot n segments words' t
    go t ht =
        let a : Slot n segments words t = C.slot t ht in
        let b : (x : ℕ) → ListedIn x a.nodes → x < n = chain_below n words (heads n + t) a.nodes a.chain in
        record {
          nodes = a.nodes;
          chain = frame n words words' (heads n + t) a.nodes (same (heads n + t) (inr (omega arith)))
              (λ x h i. (same x (inl (omega arith)), same (n + x) (inl (omega arith)))) a.chain;
          once = a.once;
          held = λ x i. same (2 * n + x) (inl (omega (arith, b x i))) ∙ a.held x i;
          all = λ x h e. a.all x h (sym (same (2 * n + x) (inl (omega arith))) ∙ e);
        }

-- a head word is 0, or a node's number and 1
pub head_le : {n slots segments : ℕ} {words : List ℕ} → Chains n slots segments words → (s : ℕ) → s < slots → get_or words (heads n + s) 0 ≤ n
head_le {n} {slots} {segments} {words} C s hs = chain_le n words (heads n + s) (C.slot s hs).nodes (C.slot s hs).chain
