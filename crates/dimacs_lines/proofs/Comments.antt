-- A comment goes up to its first line feed, which the library finds. Assumes nothing.
use Prim.Native.Nat.{ℕ, suc, ◌+◌}
use native.Mathlib.Numerals.{add-one}
use mathlib.Core.Path.{◌≡◌, refl, ◌∙◌, ap}
use mathlib.Core.Bool.{Bool, true, false, cond}
use mathlib.Core.List.{List, [], ◌∷◌}
use lib.Dec.{eqb}
use Rattle.std.specs.Prelude.{Option, Some, option_map, position}
use Rattle.std.specs.List.{position_from}
use Rattle.std.proofs.lemmas.Iterator.Adapters.{position_from-zero}
use Rattle.fields.specs.Fields.{line_feed}
use Rattle.dimacs_lines.specs.declared.RoadLine.{RoadLine}
use Rattle.dimacs_lines.specs.declared.Told.TheVariants.{Comment}
use Rattle.dimacs_lines.specs.Lines.{line_of, comment_from}

abbrev pub is_feed : ℕ → Bool
is_feed byte = eqb byte line_feed

-- The comment whose line feed stands at an index.
abbrev pub comment_to : (feed : ℕ) → RoadLine
comment_to feed = line_of Comment (feed + 1)

from_found : (taken : ℕ) (bytes : List ℕ) → option_map comment_to (position_from is_feed taken bytes) ≡ comment_from taken bytes
unfolding comment_from
from_found taken [] = refl
from_found taken (byte ∷ bytes) = go (is_feed byte) (from_found (taken + 1) bytes)
  where
    go : (t : Bool) → option_map comment_to (position_from is_feed (taken + 1) bytes) ≡ comment_from (taken + 1) bytes
        → option_map comment_to (cond t (Some taken) (position_from is_feed (taken + 1) bytes)) ≡ cond t (Some (line_of Comment (suc taken))) (comment_from (suc taken) bytes)
    go true behind = ap (λ (k : ℕ). Some (line_of Comment k)) (add-one taken)
    go false behind = behind ∙ ap (λ (k : ℕ). comment_from k bytes) (add-one taken)

-- The library finds the first line feed of the bytes from a place on.
pub comment_found : (bytes : List ℕ) {found : Option ℕ} → found ≡ position is_feed bytes → option_map comment_to found ≡ comment_from 0 bytes
comment_found bytes e = ap (option_map comment_to) (e ∙ position_from-zero is_feed bytes) ∙ from_found 0 bytes
