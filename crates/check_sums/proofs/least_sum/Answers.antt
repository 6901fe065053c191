-- `check_sums::least_sum` meets its contract: the arcs of the nodes that are left decide.
use Prim.Native.Nat.{◌+◌}
use native.Mathlib.Omega.{arith}
use mathlib.Core.Path.{◌≡◌, ◌∙◌}
use borrow.Author.Rules.{rules}
use Rattle.check_sums.proofs.Sums.{start_most, hold_most, from_first, from_none, from_next, from_found}
use Rattle.check_sums.proofs.least_sum.Goals as goal

pub loop-v-init : goal.loop-v-init
loop-v-init c = from_first c.requires

pub overflow_cast-first : goal.overflow_cast-first
overflow_cast-first c = omega (arith, start_most c.requires c.loop-v.v (search rules))

pub overflow_cast-last : goal.overflow_cast-last
overflow_cast-last c = omega (arith, start_most c.requires (c.loop-v.v + 1) (search rules))

pub overflow_sub-rest : goal.overflow_sub-rest
overflow_sub-rest c = omega (arith, hold_most c.requires c.loop-v.v (search rules))

pub least_above-requires : goal.least_above-requires
least_above-requires c = start_most c.requires (c.loop-v.v + 1) (search rules)

pub returns-in_err-least_above : goal.returns-in_err-least_above
returns-in_err-least_above c =
    let same : c.from_residual.result ≡ c.least_above.result = search rules in
    same ∙ from_found c.requires c.loop-v.v (search rules) c.least_above.ensures c.in_err-least_above.was c.loop-v.invariant

pub loop-v-preserved : goal.loop-v-preserved
loop-v-preserved c = from_next c.requires c.loop-v.v (search rules) c.least_above.ensures c.in_ok-least_above.was c.loop-v.invariant

pub returns : goal.returns
returns c =
    let end : c.loop-v.v ≡ c.args.n = omega arith in
    from_none c.requires (rw end at c.loop-v.invariant)
