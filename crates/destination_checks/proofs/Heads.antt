-- The check of sums where the hold of an arc's head is paid with it, arc by arc. Assumes nothing.
use Prim.Native.Nat.{ℕ, ◌+◌, ◌-◌, ◌≤◌, ◌<◌}
use native.Mathlib.Omega.{arith}
use mathlib.Core.Bool.{Bool}
use mathlib.Core.Path.{◌≡◌, sym, ◌∙◌}
use mathlib.Core.List.{List}
use lib.ListN.{length, get_or}
use borrow.Author.Tests.{lt-ltb, le-ltb}
use Rattle.model.specs.Answers.{Check, fault_of}
use Rattle.std.specs.Prelude.{Ok, Err}
use Rattle.model.specs.declared.Kind.TheVariants.{Cost}
use Rattle.check_lists.specs.Lists.{least_fault, NoneAbove}
use Rattle.check_lists.proofs.Least.{none_left, fails_here, passes_here}
use Rattle.check_sums.specs.Sums.{sum_fails, sums_check, Greatest}
use Rattle.check_sums.proofs.Sums.{low_sums_pass}
use Rattle.destination_checks.specs.Destination.{SummableTo}

module _ (C : ℕ) (heads costs holds : List ℕ) where
  abbrev head_at : ℕ → ℕ
  head_at a = get_or heads a 0

  abbrev sums : Check
  sums = sums_check C head_at costs holds

  abbrev fails : ℕ → Bool
  fails a = sum_fails C head_at costs holds a

  -- The arcs from a on decide.
  abbrev pub FromArc : (a : ℕ) → Type 0
  FromArc a = sums ≡ least_fault Cost fails a (length costs - a)

module _ {C : ℕ} {heads costs holds : List ℕ} (s : SummableTo C heads costs holds) where
  pub low_costs_pass_heads : {most : ℕ} → Greatest holds most → NoneAbove (C - most) costs → (Ok tt) ≡ sums C heads costs holds
  low_costs_pass_heads =
      low_sums_pass C (head_at C heads costs holds) costs holds s.holds_most (λ a l. s.held a (omega (arith, s.paired)))

  pub from_first_arc : FromArc C heads costs holds 0
  unfolding sums_check
  from_first_arc = let all : length costs - 0 ≡ length costs = omega arith in rw all

  pub no_arc_left : (a : ℕ) → length costs ≤ a → FromArc C heads costs holds a → (Ok tt) ≡ sums C heads costs holds
  no_arc_left a past h = sym (h ∙ none_left Cost (fails C heads costs holds) a (length costs) past)

  module _ (a : ℕ) (arc : a < length costs) where
    pub head_held : get_or heads a 0 < length holds
    head_held = s.held a (omega (arith, s.paired))

    pub head_hold_most : get_or holds (get_or heads a 0) 0 ≤ C
    head_hold_most = s.holds_most (get_or heads a 0) head_held

    pub arc_above : C - get_or holds (get_or heads a 0) 0 < get_or costs a 0 → FromArc C heads costs holds a → Err (fault_of Cost a) ≡ sums C heads costs holds
    arc_above above h =
        sym (h ∙ fails_here Cost (fails C heads costs holds) a (length costs) arc (lt-ltb C _ (omega (arith, above))))

    pub arc_within : get_or costs a 0 ≤ C - get_or holds (get_or heads a 0) 0 → FromArc C heads costs holds a → FromArc C heads costs holds (a + 1)
    arc_within within h =
        h ∙ passes_here Cost (fails C heads costs holds) a (length costs) arc (le-ltb C _ (omega (arith, within, head_hold_most)))
