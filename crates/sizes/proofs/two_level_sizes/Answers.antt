-- `sizes::two_level_sizes` meets its contract: after i turns the first i powers are copied, and zeros stand past them.
use Prim.Native.Nat.{ℕ}
use native.Mathlib.Nat.{zero-add}
use native.Mathlib.Numerals.{add-one}
use native.Mathlib.Omega.{arith}
use mathlib.Core.Path.{◌≡◌, refl, sym, ap, ap₂, ◌∙◌}
use mathlib.Core.List.{List, [], ◌∷◌, ◌++◌}
use lib.ListN.{length, get_or, set, replicate, take}
use lib.Seq.{paste, paste-suc, take_all}
use Rattle.powers.specs.Powers.{power_row}
use Rattle.powers.proofs.Rule.{row_length}
use Rattle.sizes.specs.Sizes.{two_level_sizes}
use Rattle.sizes.proofs.two_level_sizes.Goals as goal

pub loop-i-preserved : goal.loop-i-preserved
loop-i-preserved c =
    let powers = c.row-powers.result in
    let long : length powers ≡ 21 = ap length c.row-powers.ensures ∙ row_length _ in
    let i = c.loop-i.i in (
      omega arith,
      ap₂ (λ (l : List ℕ) (k : ℕ). set l k (get_or powers i 0)) c.loop-i.invariant.1 (sym (zero-add i))
          ∙ paste-suc (replicate 22 0) 0 powers i 0 (omega arith) (omega arith)
          ∙ ap (paste (replicate 22 0) 0 powers) (sym (add-one i)),
    )

pub returns : goal.returns
unfolding two_level_sizes
returns c =
    let row = power_row c.args.segments in
    let i : c.loop-i.i ≡ 21 = omega arith in
    let all : take 21 row ≡ row = take_all 21 row (omega (arith, row_length c.args.segments)) in
    c.loop-i.invariant.1 ∙ rw i (ap (λ (l : List ℕ). take 21 l ++ (0 ∷ [])) c.row-powers.ensures ∙ ap (λ (l : List ℕ). l ++ (0 ∷ [])) all)

pub loop-i-init : goal.loop-i-init
loop-i-init c = (omega arith, refl)
