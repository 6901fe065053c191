-- The bytes from a place on, compared with a prefix by the library. Assumes nothing.
use Prim.Native.Nat.{ℕ, ◌-◌}
use mathlib.Core.Path.{◌≡◌, refl, sym, ◌∙◌}
use mathlib.Core.Bool.{Bool, true, false}
use mathlib.Core.List.{List, [], ◌∷◌}
use lib.Dec.{eqb}
use lib.ListN.{length, take, drop, length-drop}
use lib.Seq.{take-length}
use borrow.Author.Tests.{eqb-true, eq-eqb}
use Rattle.std.specs.List.{starts_with}
use Rattle.dimacs_lines.specs.Lines.{begins}

-- The slice of the bytes from a place on.
pub behind_place : (bytes : List ℕ) (at : ℕ) → take (length bytes - at) (drop at bytes) ≡ drop at bytes
behind_place bytes at = rw (sym (length-drop at bytes)) (take-length (drop at bytes))

same_either_way : (x y : ℕ) → eqb x y ≡ eqb y x
same_either_way x y = go (eqb x y) refl (eqb y x) refl
  where
    go : (t : Bool) → eqb x y ≡ t → (u : Bool) → eqb y x ≡ u → eqb x y ≡ eqb y x
    go true e u f = e ∙ sym (eq-eqb y x (sym (eqb-true x y e)))
    go false e true f = eq-eqb x y (sym (eqb-true y x f)) ∙ sym f
    go false e false f = e ∙ sym f

starts_begins : (prefix bytes : List ℕ) → starts_with eqb bytes prefix ≡ begins prefix bytes
unfolding begins
starts_begins [] bytes = refl
starts_begins (letter ∷ prefix) [] = refl
starts_begins (letter ∷ prefix) (byte ∷ bytes) = rw (same_either_way letter byte, starts_begins prefix bytes) refl

pub begins_at : (prefix bytes : List ℕ) (at : ℕ) {t : Bool} → t ≡ starts_with eqb (take (length bytes - at) (drop at bytes)) prefix → begins prefix (drop at bytes) ≡ t
begins_at prefix bytes at e = sym (rw (behind_place bytes at) at e ∙ starts_begins prefix (drop at bytes))
