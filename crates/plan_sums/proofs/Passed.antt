-- The arcs pass number 8 exactly if each arc's cost and its tail's hold are together at most the ceiling. Assumes nothing.
use Prim.Native.Nat.{ℕ, suc, ◌+◌, ◌≤◌, ◌<◌}
use native.Mathlib.Omega.{arith}
use mathlib.Core.Path.{◌≡◌, ap₂}
use mathlib.Core.List.{List, [], ◌∷◌, map}
use lib.ListN.{length, get_or, replicate, length-map, get_or-map}
use Rattle.std.specs.Prelude.{Ok}
use Rattle.theory.proofs.Lists.{get_d_replicate_same}
use Rattle.check_sums.proofs.Sums.{passed_sums, sums_pass}
use Rattle.grouping.specs.Arcs.{PlanArc, tail_key}
use Rattle.grouping.proofs.All.{All, none, more, all_at, all_so}
use Rattle.grouping.proofs.Valid.{SumIn, ArcsIn}
use Rattle.plan_sums.specs.Sums.{arc_tails, arc_sums_check}

abbrev pub cost_key : PlanArc → ℕ
cost_key arc = arc.cost

-- stands in for an arc past the end
abbrev pub no_arc : PlanArc
no_arc = record { tail = 0; head = 0; cost = 0 }

all_each : {P : PlanArc → Type 0} (arcs : List PlanArc) → ((a : ℕ) → a < length arcs → P (get_or arcs a no_arc)) → All P arcs
all_each [] each = none
all_each (arc ∷ arcs) each = more (each 0 (omega arith)) (all_each arcs (λ a l. each (suc a) (omega arith)))

module _ (C : ℕ) (arcs : List PlanArc) (holds : List ℕ) where
  -- the sum that number 8 looks at is the arc's own
  own_sum : (a : ℕ) → get_or (map cost_key arcs) a 0 + get_or holds (get_or (arc_tails arcs) a 0) 0
      ≡ (get_or arcs a no_arc).cost + get_or holds (get_or arcs a no_arc).tail 0
  own_sum a = ap₂ (λ (cost tail : ℕ). cost + get_or holds tail 0) (get_or-map cost_key arcs a no_arc) (get_or-map tail_key arcs a no_arc)

  pub sums_in : arc_sums_check C arcs holds ≡ Ok tt → All (SumIn C holds) arcs
  sums_in e = all_each arcs each
    where
      each : (a : ℕ) → a < length arcs → SumIn C holds (get_or arcs a no_arc)
      each a l =
          omega (arith, passed_sums C (λ b. get_or (arc_tails arcs) b 0) (map cost_key arcs) holds e a (omega (arith, length-map arcs cost_key)), own_sum a)

  pub sums_passed : All (SumIn C holds) arcs → arc_sums_check C arcs holds ≡ Ok tt
  sums_passed all = sums_pass C (λ b. get_or (arc_tails arcs) b 0) (map cost_key arcs) holds each
    where
      each : (a : ℕ) → a < length (map cost_key arcs) → get_or (map cost_key arcs) a 0 + get_or holds (get_or (arc_tails arcs) a 0) 0 ≤ C
      each a l = omega (arith, all_at arcs all a no_arc (omega (arith, length-map arcs cost_key)), own_sum a)

-- Where every hold is 0, costs in range are enough.
pub zeros_passed : (n C : ℕ) (arcs : List PlanArc) → ArcsIn n C arcs → arc_sums_check C arcs (replicate n 0) ≡ Ok tt
zeros_passed n C arcs all =
    sums_passed C arcs (replicate n 0) (all_so (λ (arc : PlanArc) r. omega (arith, get_d_replicate_same {A = ℕ} n arc.tail 0, r.cost_most)) all)
