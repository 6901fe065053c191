-- Laws of bytes written into a buffer: nothing written changes nothing; bytes written one behind the other are one writing; the
-- buffer keeps its length. Assumes nothing.
use mathlib.Core.Path.{◌≡◌, refl, sym, ap, subst, ◌∙◌}
use mathlib.Core.List.{List, [], ◌∷◌, ◌++◌, append_assoc, append-nil}
use Prim.Native.Nat.{ℕ, suc, ◌+◌, ◌≤◌, ◌<◌}
use native.Mathlib.Nat.{add-zero}
use native.Mathlib.Numerals.{add-one}
use native.Mathlib.Omega.{arith}
use lib.ListN.{length, take, drop, set, length-append, length-drop, take-append-drop}
use lib.Seq.{length-take-le, take_at, drop_at, drop-drop, set_split, append_snoc}
use Rattle.fields.specs.Writing.{written, Writes}

module _ (at : ℕ) where
  pub written_nothing : (buffer : List ℕ) → written at [] buffer ≡ buffer
  unfolding written
  written_nothing buffer = rw (add-zero, append-nil, take-append-drop)

  pub written_length : (bytes buffer : List ℕ) → at + length bytes ≤ length buffer → length (written at bytes buffer) ≡ length buffer
  unfolding written
  written_length bytes buffer fits =
      simp (length-append, length-drop, length-take-le at buffer (omega arith)) (omega arith)

  -- the buffer before the place of the second bytes, and behind them
  front : (xs buffer : List ℕ) → at ≤ length buffer → length (take at buffer ++ xs) ≡ at + length xs
  front xs buffer fits = simp (length-append, length-take-le at buffer fits)

  pub written_behind : (xs ys buffer : List ℕ) → at ≤ length buffer
      → written (at + length xs) ys (written at xs buffer) ≡ written at (xs ++ ys) buffer
  unfolding written
  written_behind xs ys buffer fits =
      let head : take (at + length xs) (take at buffer ++ xs ++ drop (at + length xs) buffer) ≡ take at buffer ++ xs =
      take_at (take at buffer ++ xs) _ (at + length xs) (front xs buffer fits) in
      let rest : drop (at + length xs) (take at buffer ++ xs ++ drop (at + length xs) buffer) ≡ drop (at + length xs) buffer =
      drop_at (take at buffer ++ xs) _ (at + length xs) (front xs buffer fits) in
      let tail : drop (at + length xs + length ys) (take at buffer ++ xs ++ drop (at + length xs) buffer)
      ≡ drop (at + length (xs ++ ys)) buffer =
      let all : at + length (xs ++ ys) ≡ at + length xs + length ys = omega (arith, length-append xs ys) in
      rw all
      (sym (drop-drop (length ys) (at + length xs) _) ∙ ap (λ (l : List ℕ). drop (length ys) l) rest
      ∙ drop-drop (length ys) (at + length xs) buffer) in
      rw (head, tail) (simp append_assoc)

-- One byte stored.
pub writes_byte : (at byte : ℕ) (buffer : List ℕ) → at < length buffer
    → Writes at (byte ∷ []) buffer (set buffer at byte) (at + 1)
unfolding written
writes_byte at byte buffer inside = record {
  told = set_split buffer at byte inside ∙ sym (append_snoc (take at buffer) byte (drop (suc at) buffer))
      ∙ ap (λ (k : ℕ). take at buffer ++ (byte ∷ []) ++ drop k buffer) (sym (add-one at));
  behind = refl;
  fits = omega arith;
}

-- Bytes written, and then others behind them.
pub writes_then : {at next last : ℕ} {xs ys before between after : List ℕ} → Writes at xs before between next
    → Writes next ys between after last → Writes at (xs ++ ys) before after last
writes_then {at} {next} {last} {xs} {ys} {before} {between} {after} first second =
    let same : length between ≡ length before = ap length first.told ∙ written_length at xs before first.fits in
    record {
      told = second.told ∙ rw (first.behind, first.told) (written_behind at xs ys before (omega arith));
      behind = omega (arith, length-append xs ys);
      fits = omega (arith, length-append xs ys);
    }

-- The same bytes, spelled in another way.
pub writes_same : {at next : ℕ} {xs ys before after : List ℕ} → xs ≡ ys → Writes at xs before after next → Writes at ys before after next
writes_same {at} {next} {xs} {ys} {before} {after} e h = subst (λ (l : List ℕ). Writes at l before after next) e h

-- Nothing was written yet.
pub writes_nothing : (at : ℕ) (buffer : List ℕ) → at ≤ length buffer → Writes at [] buffer buffer at
writes_nothing at buffer inside = record { told = sym (written_nothing at buffer); behind = omega arith; fits = omega arith }

pub writes_length : {at next : ℕ} {bytes before after : List ℕ} → Writes at bytes before after next → length after ≡ length before
writes_length {at} {next} {bytes} {before} h = ap length h.told ∙ written_length at bytes before h.fits

-- What is written lies within the buffer.
pub writes_inside : {at next : ℕ} {bytes before after : List ℕ} → Writes at bytes before after next → next ≤ length after
writes_inside w = omega (arith, w.behind, w.fits, writes_length w)
