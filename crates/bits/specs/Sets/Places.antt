-- What the other modules share: a bit's number as the index of its word, u / d, and its place in that word, u % d. Assumes nothing.
use Rattle.std.specs.Prelude.{◌≡◌, ◌⊎◌, ◌≢◌, List, ℕ, suc, ◌+◌, ◌*◌, ◌/◌, ◌%◌, ◌≤◌, ◌<◌, get_or}
use Rattle.std.proofs.Common.{sym, ap, ap₂, ◌∙◌, inl, inr, suc-mul, div-add-mod', le-div_iff_mul-le, mul-le-mul_right, arith}
use Rattle.std.proofs.Math.Decide.{dec_lt}
use Rattle.bits.specs.Word.{word_count}
use Rattle.bits.specs.Word.Laws.{bit_cases}
use Rattle.bits.specs.Sets.{at, In}

pub split : (a b : ℕ) → (a < b) ⊎ (b ≤ a)
split a b = go (dec_lt a b)
  where
    go : Dec (a < b) → (a < b) ⊎ (b ≤ a)
    go (yes h) = inl h
    go (no h) = inr (omega arith)

pub same_place : (d u v : ℕ) → u / d ≡ v / d → u % d ≡ v % d → u ≡ v
same_place d u v e f = sym (div-add-mod' u d) ∙ ap₂ (λ (x y : ℕ). x * d + y) e f ∙ div-add-mod' v d

pub word_below : (d n v : ℕ) → 0 < d → v < n → v / d < word_count d n
word_below d n v p h = (le-div_iff_mul-le p).1 (omega (arith, suc-mul (v / d) d, div-add-mod' v d))

-- the bits before bit k of word i: those of an earlier word, and those before k of the word itself
pub before : (d u i k : ℕ) → k < d → u < i * d + k → (u / d < i) ⊎ ((u / d ≡ i) × (u % d < k))
before d u i k l h = go (split (u / d) i) (split i (u / d))
  where
    go : (u / d < i) ⊎ (i ≤ u / d) → (i < u / d) ⊎ (u / d ≤ i) → (u / d < i) ⊎ ((u / d ≡ i) × (u % d < k))
    go (inl g) e = inl g
    go (inr g) (inl e) =
        let m : suc i * d ≤ u / d * d = mul-le-mul_right d e in absurd (omega (arith, suc-mul i d, div-add-mod' u d))
    go (inr g) (inr e) =
        let q : u / d ≡ i = omega arith in
        let m : u / d * d ≡ i * d = ap (λ (x : ℕ). x * d) q in
        inr (q, omega (arith, div-add-mod' u d))

-- ---- one word of a region, and one bit of a set

pub out_of : (a m i j : ℕ) → i < m → (j < a) ⊎ (a + m ≤ j) → a + i ≢ j
out_of a m i j l (inl h) = omega arith
out_of a m i j l (inr h) = omega arith

pub clear_of : (d n bits : ℕ) (w : List ℕ) (u : ℕ) → u < n → (In d n bits w u → ⊥) → at d bits w u ≡ 0
clear_of d n bits w u h out = go (bit_cases (get_or w (bits + u / d) 0) (u % d))
  where
    go : (at d bits w u ≡ 0) ⊎ (at d bits w u ≡ 1) → at d bits w u ≡ 0
    go (inl e) = e
    go (inr e) = absurd (out (record { below = h; marked = e }))
