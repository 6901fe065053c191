-- Checks made in order: what the first fault of several is, whichever way they are put together. Assumes nothing.
use Prim.Native.Nat.{ℕ}
use native.Mathlib.Omega.{arith}
use mathlib.Core.Path.{◌≡◌, refl, sym, ap, ◌∙◌}
use mathlib.Core.List.{List, [], ◌∷◌, ◌++◌}
use Rattle.model.specs.Answers.{Check}
use Rattle.std.specs.Prelude.{Ok, Err}
use Rattle.model.specs.declared.Fault.{Fault}
use Rattle.checks.specs.Checks.{first_fault}

-- ---- a check that the code makes of several

-- the code's check is the first fault of those it is made of
pub record Made (checks : List Check) (made : Check) : Type 0 where
  pub is : made ≡ first_fault checks

only_one : (check : Check) → check ≡ first_fault (check ∷ [])
unfolding first_fault
only_one (Ok tt) = refl
only_one (Err fault) = refl

pub one : {made check : Check} → made ≡ check → Made (check ∷ []) made
one {made} {check} e = record { is = e ∙ only_one check }

-- the first check fails, or passes
pub fails : {made check : Check} {fault : Fault} {rest : List Check} → made ≡ check → made ≡ Err fault → Made (check ∷ rest) made
unfolding first_fault
fails e f = record { is = rw (sym e, f) }

pub passes : {first check made : Check} {rest : List Check} → first ≡ check → first ≡ Ok tt → Made rest made → Made (check ∷ rest) made
unfolding first_fault
passes e f m = record { is = rw (sym e, f) m.is }

pub first_part : (first rest : List Check) → first_fault (first_fault first ∷ rest) ≡ first_fault (first ++ rest)
unfolding first_fault
first_part [] rest = refl
first_part (Ok tt ∷ first) rest = first_part first rest
first_part (Err fault ∷ first) rest = refl

-- a fault of the first checks leaves the rest unmade
pub stopped : {made : Check} {fault : Fault} (checks rest : List Check) → made ≡ first_fault checks → made ≡ Err fault
    → made ≡ first_fault (checks ++ rest)
unfolding first_fault
stopped checks rest e f =
    f ∙ ap (λ (check : Check). first_fault (check ∷ rest)) (sym f ∙ e) ∙ first_part checks rest

-- the rest decide where the first checks pass
pub gone_on : {made : Check} {rest : List Check} (checks : List Check) → first_fault checks ≡ Ok tt → Made rest made
    → made ≡ first_fault (checks ++ rest)
unfolding first_fault
gone_on {made} {rest} checks e f =
    f.is ∙ ap (λ (check : Check). first_fault (check ∷ rest)) (sym e) ∙ first_part checks rest

-- ---- what holds of each check

pub data Every (P : Check → Type 0) : List Check → Type 0 where
  none : Every P []
  more : {check : Check} {checks : List Check} → P check → Every P checks → Every P (check ∷ checks)

-- ---- all pass

abbrev pub AllPass : List Check → Type 0
AllPass = Every (λ check. check ≡ Ok tt)

pub passed_all : (checks : List Check) → first_fault checks ≡ Ok tt → AllPass checks
unfolding first_fault
passed_all [] e = none
passed_all (Ok tt ∷ checks) e = more refl (passed_all checks e)
passed_all (Err fault ∷ checks) e = absurd (let z : ◌≡◌ {A = ℕ} 0 1 = cc in omega arith)

pub all_passed_lem : {checks : List Check} → AllPass checks → first_fault checks ≡ Ok tt
unfolding first_fault
all_passed_lem none = refl
all_passed_lem (more e rest) = rw e (all_passed_lem rest)

pub first_passed : {check : Check} {checks : List Check} → AllPass (check ∷ checks) → check ≡ Ok tt
first_passed (more e rest) = e

pub pass_parts : (first rest : List Check) → first_fault (first ++ rest) ≡ Ok tt
    → (first_fault first ≡ Ok tt) × (first_fault rest ≡ Ok tt)
unfolding first_fault
pass_parts [] rest e = (refl, e)
pass_parts (Ok tt ∷ first) rest e = pass_parts first rest e
pass_parts (Err fault ∷ first) rest e = absurd (let z : ◌≡◌ {A = ℕ} 0 1 = cc in omega arith)

pub parts_pass : (first rest : List Check) → first_fault first ≡ Ok tt → first_fault rest ≡ Ok tt → first_fault (first ++ rest) ≡ Ok tt
parts_pass first rest e f = sym (gone_on first e (record { is = sym f }))
