-- Lists whose first words were lent and came back.
use Prim.Native.Nat.{ℕ, ◌≤◌}
use mathlib.Core.Path.{◌≡◌, sym, ◌∙◌, ap}
use mathlib.Core.List.{List, ◌++◌}
use lib.ListN.{length, take, drop, replicate, length-replicate}
use lib.Seq.{length-take-le, take_at, drop_at}
use Rattle.std.specs.Prelude.{Ok}
use Rattle.model.specs.Answers.{words_after}

pub front_filled : (filled words h : List ℕ) (n : ℕ) → filled ≡ h → length filled ≡ n → filled ++ drop n words ≡ words_after (Ok tt) h words
front_filled filled words h n e q = ap (λ (k : ℕ). filled ++ drop k words) (sym q) ∙ ap (λ (l : List ℕ). words_after (Ok tt) l words) e

-- The first words, which hold `part`, are lent again and cleared.
module _ (part words : List ℕ) (needed : ℕ) (long : needed ≤ length words) (same : length part ≡ length (take needed words)) where
  part_length : length part ≡ needed
  part_length = same ∙ length-take-le needed words long

  pub lent_length : needed ≡ length (take needed (part ++ drop needed words))
  lent_length = sym part_length ∙ ap length (sym (take_at part (drop needed words) needed part_length))

  pub front_cleared : (zeros : List ℕ) → zeros ≡ replicate (length (take needed (part ++ drop needed words))) 0
      → zeros ++ drop needed (part ++ drop needed words) ≡ words_after (Ok tt) (replicate needed 0) words
  front_cleared zeros e =
      let cleared = e ∙ ap (λ (k : ℕ). replicate k 0) (sym lent_length) in
      ap (λ (l : List ℕ). zeros ++ l) (drop_at part (drop needed words) needed part_length)
      ∙ front_filled zeros words (replicate needed 0) needed cleared (ap length cleared ∙ length-replicate needed 0)
