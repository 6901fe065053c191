-- Place words and their buckets, the place words of a store, and what is kept. Assumes nothing.
use Rattle.std.specs.Prelude.{◌≡◌, refl, ◌≢◌, Bool, cond, List, ℕ, zero, suc, ◌+◌, ◌*◌, ◌-◌, ◌/◌, ◌≤◌, ◌<◌, length, get_or, drop}
use Rattle.std.proofs.Common.{sym, ◌∙◌, subst, div-le_self, div-mul-le_self, le-div_iff_mul-le, div-lt_iff_lt-mul, div-one, arith, length-set, length-take, length-drop, get_or-set_same, get_or-set_other, get_or-take, get_or-drop, ext_get_or, lt-ltb, le-ltb}
use Rattle.std.proofs.Math.Path.{ap}
use Rattle.std.proofs.Math.Nat.{suc_inj, div-eq_of_lt-le}
use Rattle.std.proofs.Math.Decide.{ℕ_discrete, dec_lt}
use Rattle.std.proofs.Math.ListN.{set}
use Rattle.buckets.specs.Words.{slot_bucket, place_word, place_bucket, place_slot, node_or, Named, places, bucket_count, count_words, count_at, recount, WordsKept, WordsFit}

-- ---- buckets of slots

pub bucket_le : (segments slot : ℕ) → slot_bucket segments slot ≤ slot + 1
bucket_le segments slot = omega (arith, div-le_self slot segments)

-- the slots of a bucket
pub bucket_of_lem : (segments bucket slot : ℕ) → 0 < bucket → (bucket - 1) * segments ≤ slot → slot < bucket * segments → slot_bucket segments slot ≡ bucket
bucket_of_lem segments zero slot h low high = elim h [ ]
bucket_of_lem segments (suc b) slot h low high =
    let e : suc b - 1 ≡ b = omega arith in
    let d : slot / segments ≡ b = div-eq_of_lt-le segments (rw e at low) (omega arith) in
    omega arith

pub bucket_range : (segments slot : ℕ) → 0 < segments
    → ((slot_bucket segments slot - 1) * segments ≤ slot) × (slot < slot_bucket segments slot * segments)
bucket_range segments slot h =
    let e : slot_bucket segments slot - 1 ≡ slot / segments = omega arith in
    (rw e (div-mul-le_self slot segments), (div-lt_iff_lt-mul h).0 (omega arith))

pub bucket_one : (slot : ℕ) → slot_bucket 1 slot ≡ slot + 1
bucket_one slot = omega (arith, div-one slot)

-- so many slots make so many buckets
pub bucket_count_lem : (segments buckets : ℕ) → 0 < segments → 0 < buckets → bucket_count ((buckets - 1) * segments + 1) segments ≡ buckets
bucket_count_lem segments zero hs hb = elim hb [ ]
bucket_count_lem segments (suc b) hs hb =
    bucket_of_lem segments (suc b) ((suc b - 1) * segments + 1 - 1) hb (omega arith)
    (let e : suc b - 1 ≡ b = omega arith in rw e (omega arith))

pub bucket_mono : (segments s t : ℕ) → 0 < segments → s ≤ t → slot_bucket segments s ≤ slot_bucket segments t
bucket_mono segments s t h l =
    let d : s / segments ≤ t / segments = (le-div_iff_mul-le h).1 (omega (arith, div-mul-le_self s segments)) in
    omega arith

-- a slot's bucket is one of the buckets
pub bucket_in : {n slots segments size : ℕ} → WordsFit n slots segments size → (bucket slot : ℕ) → slot < slots → bucket ≡ slot_bucket segments slot
    → (0 < bucket) × (bucket ≤ bucket_count slots segments)
bucket_in {n} {slots} {segments} F bucket slot hs e =
    omega (arith, bucket_mono segments slot (slots - 1) F.whole (omega arith))

-- a slot's place word names the slot
pub place_named : (slots segments s : ℕ) → slots < 512 → s < slots → Named slots segments (place_word segments s)
place_named slots segments s few h =
    let e : s ≡ place_slot (place_word segments s) = omega arith in (omega arith, ap (λ (t : ℕ). place_word segments t) e)

-- the bucket of a place word that names a slot
pub named_bucket : {slots segments place : ℕ} → slots < 512 → 0 < segments → Named slots segments place
    → (0 < place_bucket place) × (place_bucket place ≤ bucket_count slots segments) × (place_bucket place ≡ slot_bucket segments (place_slot place))
named_bucket {slots} {segments} {place} few whole h =
    let m : slot_bucket segments (place_slot place) ≤ bucket_count slots segments =
    bucket_mono segments (place_slot place) (slots - 1) whole (omega arith) in
    omega arith

-- ---- count words

pub count_words_lem : (slots segments : ℕ) → 1 < segments → count_words slots segments ≡ bucket_count slots segments
unfolding count_words
count_words_lem slots segments h = ap (λ (t : Bool). cond t (bucket_count slots segments) 0) (lt-ltb 1 segments h)

pub no_count_words : (slots segments : ℕ) → segments ≤ 1 → count_words slots segments ≡ 0
unfolding count_words
no_count_words slots segments h = ap (λ (t : Bool). cond t (bucket_count slots segments) 0) (le-ltb 1 segments h)

-- a count word is one of the words
pub count_low : {n slots segments size : ℕ} → WordsFit n slots segments size → (bucket : ℕ) → bucket ≤ bucket_count slots segments → 1 < segments
    → count_at n slots bucket < size
count_low {n} {slots} {segments} F bucket hc more = omega (arith, F.long, count_words_lem slots segments more)

module _ (n slots segments bucket count : ℕ) (words : List ℕ) where
  -- the count word set, or not
  abbrev recount_if : Bool → List ℕ
  recount_if t = cond t (set words (count_at n slots bucket) count) words

  pub set_recount : (x : ℕ) → x ≡ count → 1 < segments
      → set words (count_at n slots bucket) x ≡ recount n slots segments bucket count words
  unfolding recount
  set_recount x e h =
      ap (λ (k : ℕ). set words (count_at n slots bucket) k) e ∙ ap recount_if (sym (lt-ltb 1 segments h))

  pub none_recount : segments ≤ 1 → words ≡ recount n slots segments bucket count words
  unfolding recount
  none_recount h = ap recount_if (sym (le-ltb 1 segments h))

  pub recount_cases : (P : List ℕ → Type 0) → (1 < segments → P (set words (count_at n slots bucket) count)) → (segments ≤ 1 → P words)
      → P (recount n slots segments bucket count words)
  recount_cases P more one = go (dec_lt 1 segments)
    where
      go : Dec (1 < segments) → P (recount n slots segments bucket count words)
      go (yes h) = subst P (set_recount count refl h) (more h)
      go (no h) = let g : segments ≤ 1 = omega arith in subst P (none_recount g) (one g)

-- ---- the place words as a list

pub place_word_lem : (n : ℕ) (words : List ℕ) (v : ℕ) → v < n → get_or (places n words) v 0 ≡ get_or words (2 * n + v) 0
place_word_lem n words v h = get_or-take n (drop (2 * n) words) v 0 h ∙ get_or-drop (2 * n) words v 0

pub places_length : (n : ℕ) (words : List ℕ) → 3 * n ≤ length words → length (places n words) ≡ n
places_length n words h = simp (length-take, length-drop) (omega arith)

-- the place words are told by what stands at each node
pub places_are : (n : ℕ) (words l : List ℕ) → 3 * n ≤ length words → length l ≡ n
    → ((v : ℕ) → v < n → get_or words (2 * n + v) 0 ≡ get_or l v 0) → places n words ≡ l
places_are n words l h e same =
    let size : length (places n words) ≡ n = places_length n words h in
    ext_get_or 0 (places n words) l (size ∙ sym e)
    (λ v g. let hv : v < n = omega arith in place_word_lem n words v hv ∙ same v hv)

module _ (n : ℕ) (words words' : List ℕ) (long : 3 * n ≤ length words) (size : length words' ≡ length words) where
  pub places_same : ((v : ℕ) → v < n → get_or words' (2 * n + v) 0 ≡ get_or words (2 * n + v) 0) → places n words' ≡ places n words
  places_same same =
      places_are n words' (places n words) (omega arith) (places_length n words long)
      (λ v h. same v h ∙ sym (place_word_lem n words v h))

  -- one place word has changed
  pub places_moved : (v x : ℕ) → v < n → get_or words' (2 * n + v) 0 ≡ x
      → ((u : ℕ) → u < n → u ≢ v → get_or words' (2 * n + u) 0 ≡ get_or words (2 * n + u) 0)
      → places n words' ≡ set (places n words) v x
  places_moved v x hv here same =
      places_are n words' (set (places n words) v x) (omega arith) (length-set (places n words) v x ∙ places_length n words long)
      (λ u h. go u h (ℕ_discrete u v))
    where
      go : (u : ℕ) → u < n → Dec (u ≡ v) → get_or words' (2 * n + u) 0 ≡ get_or (set (places n words) v x) u 0
      go u h (yes e) =
          ap (λ (k : ℕ). get_or words' (2 * n + k) 0) e ∙ here
          ∙ sym (get_or-set_same (places n words) v x 0 (omega (arith, places_length n words long)))
          ∙ ap (λ (k : ℕ). get_or (set (places n words) v x) k 0) (sym e)
      go u h (no d) = same u h d ∙ sym (place_word_lem n words u h) ∙ sym (get_or-set_other (places n words) v u x 0 d)

-- ---- what is kept

pub kept_trans : {n own : ℕ} {words words' words'' : List ℕ} → WordsKept n own words words' → WordsKept n own words' words'' → WordsKept n own words words''
kept_trans a b =
    record { same_length = b.same_length ∙ a.same_length; same = λ j o. b.same j o ∙ a.same j o }

-- ---- next and head words

-- the node that a word q points to, or v
module _ (q v : ℕ) where
  pub node_or_is : (u : ℕ) → q ≡ suc u → node_or q v ≡ u
  node_or_is u e = go q e
    where
      go : (q : ℕ) → q ≡ suc u → node_or q v ≡ u
      go zero e = absurd (omega arith)
      go (suc k) e = suc_inj e

  pub node_or_low : (n : ℕ) → q ≤ n → v < n → node_or q v < n
  node_or_low n b h = go q b
    where
      go : (q : ℕ) → q ≤ n → node_or q v < n
      go zero b = h
      go (suc k) b = b

  -- no other node
  pub node_or_apart : (x : ℕ) → x ≢ v → (q ≡ suc x → ⊥) → x ≢ node_or q v
  node_or_apart x d k = go q k
    where
      go : (q : ℕ) → (q ≡ suc x → ⊥) → x ≢ node_or q v
      go zero k e = d e
      go (suc u) k e = k (ap suc (sym e))

  pub node_or_some : (q ≡ 0 → ⊥) → q - 1 ≡ node_or q v
  node_or_some k = go q k
    where
      go : (q : ℕ) → (q ≡ 0 → ⊥) → q - 1 ≡ node_or q v
      go zero k = absurd (k refl)
      go (suc u) k = omega arith
