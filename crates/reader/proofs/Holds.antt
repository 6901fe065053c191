-- The holds: zeros where none are told, else how far they have been filled from their lines. Assumes nothing.
use mathlib.Core.Bool.{Bool, true, false}
use mathlib.Core.Path.{◌≡◌, refl, sym, ◌∙◌, ap}
use mathlib.Core.List.{List, [], ◌∷◌, ◌++◌, append_assoc, append-nil}
use Prim.Native.Nat.{ℕ, suc, ◌+◌, ◌-◌, ◌≤◌, ◌<◌}
use native.Mathlib.Nat.{sub-zero}
use native.Mathlib.Numerals.{add-one}
use native.Mathlib.Omega.{arith}
use lib.ListN.{length, drop, set, length-append, length-replicate}
use lib.Seq.{drop-drop}
use Rattle.std.specs.Prelude.{Ok, None, Some}
use Rattle.model.specs.Answers.{words_after}
use Rattle.plan_lines.specs.Lines.{hold_line}
use Rattle.plan_lines.specs.Told.{lines_holds, node_holds}
use Rattle.plan_lines.proofs.Reach.{Reached, reached_start, reached_next}
use Rattle.plan_lines.proofs.Fields.{hold_line_lem}
use Rattle.plan_lines.proofs.Counted.{hold_there, holds_next}
use Rattle.reader.specs.Filling.{HoldsFillable, between}
use Rattle.reader.proofs.Lists.{filled_next, filled_length, filled_end}

-- ---- told or not

-- Holds of 0 stand at the front of the list.
pub zeros_filled : (held : Bool) (n : ℕ) (bytes words : List ℕ) → held ≡ false → between words 0 n 0 ≡ words_after (Ok tt) (node_holds held n bytes) words
zeros_filled held n bytes words none = rw (none, sub-zero, length-replicate {A = ℕ} n 0) refl

pub told_fillable : {n : ℕ} {held : Bool} {bytes : List ℕ} {at : ℕ} {holds : List ℕ} → held ≡ true → HoldsFillable n held bytes at holds
    → HoldsFillable n true bytes at holds
told_fillable told f = rw told at f

-- ---- the lines

pub record HoldsProgress (n : ℕ) (bytes : List ℕ) (from : ℕ) (holds₀ holds : List ℕ) (at v : ℕ) : Type 0 where
  pub given : HoldsFillable n true bytes from holds₀
  pub done : List ℕ
  pub reached : Reached 1 n bytes from at v
  pub all : lines_holds n (drop from bytes) ≡ done ++ lines_holds (n - v) (drop at bytes)
  pub count : length done ≡ v
  pub holds_so : holds ≡ done ++ drop v holds₀

pub holds_start : {n : ℕ} {bytes : List ℕ} {from : ℕ} {holds : List ℕ} → HoldsFillable n true bytes from holds
    → HoldsProgress n bytes from holds holds from 0
holds_start {n} {bytes} {from} f = record {
  given = f;
  done = [];
  reached = reached_start 1 n bytes from f.within;
  all = rw sub-zero;
  count = refl;
  holds_so = refl;
}

module _ {n : ℕ} {bytes : List ℕ} {from : ℕ} {holds₀ holds : List ℕ} {at v : ℕ} (p : HoldsProgress n bytes from holds₀ holds at v) where
  pub holds_same_length : length holds ≡ length holds₀
  holds_same_length = filled_length p.done holds₀ holds v p.count p.holds_so (omega (arith, p.reached.few, p.given.holds_fit))

  -- the line of node v's hold
  module _ (l : v < n) where
    left : n - v ≡ suc (n - suc v)
    left = omega arith

    all_left : lines_holds n (drop from bytes) ≡ p.done ++ lines_holds (suc (n - suc v)) (drop at bytes)
    all_left = rw left at p.all

    pub hold_read : hold_line (drop at bytes) ≡ None → ⊥
    hold_read e =
        let behind = lines_holds (suc (n - suc v)) (drop at bytes) in
        hold_there (n - suc v) (drop at bytes) (omega (arith, ap length all_left, length-append p.done behind, p.count, p.given.count)) e

    pub hold_next : {hold taken : ℕ} → hold_line (drop at bytes) ≡ Some (record { hold = hold; taken = taken })
        → HoldsProgress n bytes from holds₀ (set holds v hold) (at + taken) (v + 1)
    hold_next {hold} {taken} e =
        let behind = lines_holds (n - suc v) (drop taken (drop at bytes)) in
        let place : drop taken (drop at bytes) ≡ drop (at + taken) bytes = drop-drop taken at bytes in
        let more : lines_holds n (drop from bytes) ≡ (p.done ++ (hold ∷ [])) ++ behind =
        all_left
        ∙ ap (λ (rest : List ℕ). p.done ++ rest) (holds_next (n - suc v) (drop at bytes) e)
        ∙ sym (append_assoc p.done (hold ∷ []) behind) in
        rw (add-one v)
        (record {
          given = p.given;
          done = p.done ++ (hold ∷ []);
          reached = rw (add-one v) at (reached_next p.reached l (hold_line_lem (drop at bytes) e));
          all = rw place at more;
          count = length-append p.done (hold ∷ []) ∙ omega (arith, p.count);
          holds_so = filled_next p.done holds₀ holds v p.count p.holds_so hold (omega (arith, p.given.holds_fit));
        })

  pub holds_end : n ≤ v → holds ≡ words_after (Ok tt) (lines_holds n (drop from bytes)) holds₀
  unfolding lines_holds
  holds_end l =
      let none_left : n - v ≡ 0 = omega arith in
      filled_end p.done holds₀ holds v p.count p.holds_so (lines_holds n (drop from bytes)) (rw none_left at p.all ∙ append-nil p.done)
