-- Lists of words that are filled from the front on, or between two places. Assumes nothing.
use mathlib.Core.Path.{◌≡◌, refl, sym, ◌∙◌, ap}
use mathlib.Core.List.{List, [], ◌∷◌, ◌++◌, append_assoc}
use Prim.Native.Nat.{ℕ, zero, suc, ◌+◌, ◌-◌, ◌≤◌, ◌<◌}
use native.Mathlib.Nat.{sub_self}
use native.Mathlib.Numerals.{add-one}
use native.Mathlib.Omega.{arith}
use lib.ListN.{length, get_or, take, drop, set, replicate, length-append, length-replicate, length-drop, take-append-drop}
use lib.Seq.{length-take-le, drop-cons, set_at}
use Rattle.std.specs.Prelude.{Ok}
use Rattle.model.specs.Answers.{words_after}
use Rattle.reader.specs.Filling.{between}

-- ---- words filled from the front on

-- a word stored behind those that are filled
stored : (filled words : List ℕ) (i word : ℕ) → length filled ≡ i → i < length words
    → set (filled ++ drop i words) i word ≡ filled ++ (word ∷ drop (suc i) words)
stored filled words i word e l = rw (drop-cons words i 0 l) (set_at filled (get_or words i 0) (drop (suc i) words) word i e)

module _ (filled words₀ words : List ℕ) (i : ℕ) (e : length filled ≡ i) (so : words ≡ filled ++ drop i words₀) where
  pub filled_next : (word : ℕ) → i < length words₀ → set words i word ≡ (filled ++ (word ∷ [])) ++ drop (suc i) words₀
  filled_next word l =
      ap (λ (list : List ℕ). set list i word) so
      ∙ stored filled words₀ i word e l
      ∙ sym (append_assoc filled (word ∷ []) (drop (suc i) words₀))

  pub filled_length : i ≤ length words₀ → length words ≡ length words₀
  filled_length l = ap length so ∙ simp (length-append, length-drop) (omega arith)

  pub filled_end : (all : List ℕ) → all ≡ filled → words ≡ words_after (Ok tt) all words₀
  filled_end all same = so ∙ rw (same, e)

-- ---- words between two places

repeated : (count word : ℕ) (rest : List ℕ) → replicate count word ++ (word ∷ rest) ≡ word ∷ (replicate count word ++ rest)
repeated zero word rest = refl
repeated (suc count) word rest = ap (λ (words : List ℕ). word ∷ words) (repeated count word rest)

pub record Between (words₀ words : List ℕ) (from to word i : ℕ) : Type 0 where
  pub low : from ≤ i
  pub high : i ≤ to
  pub fits : to ≤ length words₀
  pub so : words ≡ between words₀ from i word

pub between_start : (words : List ℕ) (from to word : ℕ) → from ≤ to → to ≤ length words → Between words words from to word from
between_start words from to word l h = record {
  low = omega arith;
  high = l;
  fits = h;
  so = rw (sub_self) (sym (take-append-drop from words));
}

pub between_length : (words : List ℕ) (from to word : ℕ) → from ≤ to → to ≤ length words → length (between words from to word) ≡ length words
between_length words from to word l h =
    simp (length-append, length-replicate, length-drop) (omega (arith, length-take-le from words (omega arith)))

module _ {words₀ words : List ℕ} {from to word i : ℕ} (b : Between words₀ words from to word i) where
  pub same_length : length words ≡ length words₀
  same_length = ap length b.so ∙ between_length words₀ from i word b.low (omega (arith, b.high, b.fits))

  pub between_next : i < to → Between words₀ (set words i word) from to word (i + 1)
  between_next l =
      let front = take from words₀ ++ replicate (i - from) word in
      let long : length front ≡ i = simp (length-append, length-replicate) (omega (arith, length-take-le from words₀ (omega (arith, b.fits, b.low)), b.low)) in
      let count : suc i - from ≡ suc (i - from) = omega (arith, b.low) in
      rw add-one (record {
        low = omega (arith, b.low);
        high = l;
        fits = b.fits;
        so =
            ap (λ (list : List ℕ). set list i word) (b.so ∙ sym (append_assoc (take from words₀) (replicate (i - from) word) (drop i words₀)))
            ∙ stored front words₀ i word long (omega (arith, b.fits))
            ∙ append_assoc (take from words₀) (replicate (i - from) word) (word ∷ drop (suc i) words₀)
            ∙ rw (count, repeated);
      })

  pub between_end : to ≤ i → words ≡ between words₀ from to word
  between_end l = let last : i ≡ to = omega (arith, b.high) in rw last at b.so
