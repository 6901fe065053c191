-- `answer_words::refused_words` meets its contract: two of the zeros are written over.
use mathlib.Core.Path.{◌≡◌, refl}
use mathlib.Core.List.{◌∷◌}
use Prim.Native.Nat.{ℕ, zero, suc, ◌-◌, ◌≤◌}
use native.Mathlib.Omega.{arith}
use lib.ListN.{replicate, set}
use Rattle.answer_words.proofs.refused_words.Goals as goal

two_written : (count number place : ℕ) → 2 ≤ count → set (set (replicate count 0) 0 number) 1 place ≡ number ∷ place ∷ replicate (count - 2) 0
two_written zero number place h = absurd (omega arith)
two_written (suc zero) number place h = absurd (omega arith)
two_written (suc (suc count)) number place h = let e : suc (suc count) - 2 ≡ count = omega arith in rw e refl

pub returns : goal.returns
returns g c = two_written _ _ _ c.requires
