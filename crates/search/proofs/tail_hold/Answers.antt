-- `search::tail_hold` meets its contract.
use Prim.Native.Nat.{ℕ}
use native.Mathlib.Omega.{arith}
use mathlib.Core.Path.{◌≡◌, refl}
use mathlib.Core.Logic.{◌≢◌}
use mathlib.Core.List.{List}
use lib.ListN.{get_or}
use borrow.Author.Tests.{eq-eqb, ne_eqb}
use Rattle.theory.specs.Network.{tail_hold}
use Rattle.search.proofs.tail_hold.Goals as goal

of_source : (holds : List ℕ) (source v : ℕ) → v ≡ source → 0 ≡ tail_hold holds source v
unfolding tail_hold
of_source holds source v e = rw (eq-eqb v source e) refl

of_other : (holds : List ℕ) (source v : ℕ) → v ≢ source → get_or holds v 0 ≡ tail_hold holds source v
unfolding tail_hold
of_other holds source v e = rw (ne_eqb v source e) refl

pub returns-then-v-source : goal.returns-then-v-source
returns-then-v-source c = of_source _ _ _ (omega arith)

pub returns-else-v-source : goal.returns-else-v-source
returns-else-v-source c = of_other _ _ _ (λ e. omega arith)
