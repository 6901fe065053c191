-- Whether all holds are 0, found hold by hold, and the text that is written then. Assumes nothing.
use Prim.Native.Nat.{ℕ, suc, ◌+◌, ◌<◌}
use native.Mathlib.Numerals.{add-one}
use native.Mathlib.Omega.{arith}
use mathlib.Core.Bool.{true, false, ◌&&◌}
use mathlib.Core.Path.{◌≡◌, refl, sym, ap, ◌∙◌}
use mathlib.Core.List.{List, [], ◌∷◌}
use lib.Dec.{eqb}
use lib.ListN.{length, get_or, take, drop}
use lib.Seq.{drop-cons, drop-length}
use borrow.Author.Tests.{eq-eqb, ne_eqb}
use Rattle.theory.specs.Maps.{arcs}
use Rattle.theory.specs.Runs.{Inputs}
use Rattle.theory.proofs.Sums.{length_list_below}
use Rattle.plan_text.specs.Rendering.{all_zero, render_holds, render_plan}
use Rattle.plan_text.specs.Files.{arc_at, arcs_of, plan_file}
use Rattle.plan_writing.specs.Texts.{InOrder, TextLines, text_of}
use Rattle.writer.specs.Promise.{Writable}

-- ---- hold by hold

-- The holds from v on decide.
abbrev pub ZeroFrom : (holds : List ℕ) → (v : ℕ) → Type 0
ZeroFrom holds v = all_zero holds ≡ all_zero (drop v holds)

module _ (holds : List ℕ) (v : ℕ) (zero-from : ZeroFrom holds v) where
  module _ (l : v < length holds) where
    here : all_zero holds ≡ (eqb (get_or holds v 0) 0 && all_zero (drop (suc v) holds))
    unfolding all_zero
    here = zero-from ∙ ap all_zero (drop-cons holds v 0 l)

    pub zero_next : get_or holds v 0 ≡ 0 → ZeroFrom holds (v + 1)
    zero_next e = here ∙ rw (eq-eqb (get_or holds v 0) 0 e, add-one v) refl

    pub not_zero : (get_or holds v 0 ≡ 0 → ⊥) → false ≡ all_zero holds
    not_zero some = sym (here ∙ rw (ne_eqb (get_or holds v 0) 0 some) refl)

  pub zero_all : v ≡ length holds → true ≡ all_zero holds
  unfolding all_zero
  zero_all e = sym (zero-from ∙ ap (λ (k : ℕ). all_zero (drop k holds)) e ∙ ap all_zero (drop-length holds))

-- ---- the text

module _ (I : Inputs) (K : ℕ) where
  -- line 1's numbers, of which the last is left out where all holds are 0
  abbrev pub six_numbers : List ℕ
  six_numbers = I.map.nodes ∷ arcs I.map ∷ I.ceiling ∷ I.source ∷ K ∷ 1 ∷ []

  count : length (arcs_of I.map) ≡ arcs I.map
  count = length_list_below (arcs I.map) (arc_at I.map.nodes I.map.starts I.map.heads I.map.costs)

  abbrev text : (first told : List ℕ) → List ℕ
  text first told = text_of first I.map.nodes I.map.starts I.map.heads I.map.costs told

  pub plain_text : true ≡ all_zero I.map.holds → text (take 5 six_numbers) (take 0 I.map.holds) ≡ plan_file I K
  unfolding plan_file render_plan text_of render_holds
  plain_text e = rw (sym e, count) refl

  pub held_text : false ≡ all_zero I.map.holds → text six_numbers I.map.holds ≡ plan_file I K
  unfolding plan_file render_plan text_of
  held_text e = rw (sym e, count) refl

  module _ (w : Writable I K) where
    in_order : InOrder I.map.nodes I.map.starts I.map.heads I.map.costs
    in_order = record { holds = I.map.holds; source = I.source; sound = w.valid.sound }

    pub plain_lines : TextLines (take 5 six_numbers) I.map.nodes I.map.starts I.map.heads I.map.costs (take 0 I.map.holds)
    plain_lines = record { few_numbers = omega arith; in_order = in_order; few_holds = omega arith }

    pub held_lines_lem : TextLines six_numbers I.map.nodes I.map.starts I.map.heads I.map.costs I.map.holds
    held_lines_lem = record {
      few_numbers = omega arith;
      in_order = in_order;
      few_holds = omega (arith, w.valid.sound.holds_length, w.valid.sound.few_nodes);
    }
