-- The least index that fails a test. Assumes nothing.
use mathlib.Core.Path.{◌≡◌, refl}
use mathlib.Core.Bool.{Bool, true, false, cond}
use Prim.Native.Nat.{ℕ, zero, suc, ◌+◌, ◌-◌, ◌≤◌, ◌<◌}
use native.Mathlib.Nat.{add-zero, zero-add}
use native.Mathlib.Omega.{arith}
use Rattle.model.specs.declared.Kind.{Kind}
use Rattle.std.specs.Prelude.{None, Some, Ok, Err}
use Rattle.model.specs.Answers.{fault_of}
use Rattle.model.specs.declared.Fault.{Fault}
use Rattle.check_lists.specs.Lists.{least_failing, least_fault}

-- A pass over the indices from i up to but not including `last`, by the place alone.
module _ (fails : ℕ → Bool) where
  pub none_found : (i last : ℕ) → last ≤ i → least_failing fails i (last - i) ≡ None
  unfolding least_failing
  none_found i last past = let e : last - i ≡ 0 = omega arith in rw e

  module _ (i last : ℕ) (low : i < last) where
    pub found_here : fails i ≡ true → least_failing fails i (last - i) ≡ Some i
    unfolding least_failing
    found_here f = let e : last - i ≡ suc (last - (i + 1)) = omega arith in rw (e, f)

    pub found_behind : fails i ≡ false → least_failing fails i (last - i) ≡ least_failing fails (i + 1) (last - (i + 1))
    unfolding least_failing
    found_behind f =
        let e : last - i ≡ suc (last - (i + 1)) = omega arith in
        let next : i + 1 ≡ suc i = omega arith in
        rw (e, f, next)

module _ (kind : Kind) (fails : ℕ → Bool) where
  -- ---- all pass, or what it says that all passed

  from_passes : (i left : ℕ) → ((k : ℕ) → k < i + left → fails k ≡ false) → least_fault kind fails i left ≡ Ok tt
  unfolding least_fault
  from_passes i zero h = refl
  from_passes i (suc left) h =
      rw (h i (omega arith)) (from_passes (suc i) left (λ k l. h k (omega arith)))

  pub each_passes : (count : ℕ) → ((k : ℕ) → k < count → fails k ≡ false) → least_fault kind fails 0 count ≡ Ok tt
  each_passes count h = from_passes 0 count (λ k l. h k (omega arith))

  from_passed : (i left k : ℕ) → least_fault kind fails i left ≡ Ok tt → k < left → fails (i + k) ≡ false
  unfolding least_fault
  from_passed i zero k e l = absurd (omega arith)
  from_passed i (suc left) k e l = go (fails i) refl e k l (from_passed (suc i) left)
    where
      go : (t : Bool) → fails i ≡ t → cond t (Err (fault_of kind i)) (least_fault kind fails (suc i) left) ≡ Ok tt → (k : ℕ) → k < suc left
          → ((k : ℕ) → least_fault kind fails (suc i) left ≡ Ok tt → k < left → fails (suc i + k) ≡ false)
          → fails (i + k) ≡ false
      go true f e k l rest = absurd (let z : ◌≡◌ {A = ℕ} 0 1 = cc in omega arith)
      go false f e zero l rest = rw add-zero f
      go false f e (suc k) l rest =
          let same : i + suc k ≡ suc i + k = omega arith in
          rw same (rest k e (omega arith))

  pub passed_each : (count k : ℕ) → least_fault kind fails 0 count ≡ Ok tt → k < count → fails k ≡ false
  passed_each count k e l = rw zero-add at (from_passed 0 count k e l)

  -- ---- the place alone, and the fault there

  pub fault_found : {place : ℕ} (i left : ℕ) → least_failing fails i left ≡ Some place → least_fault kind fails i left ≡ Err (fault_of kind place)
  unfolding least_failing least_fault
  fault_found i zero e = cc
  fault_found {place} i (suc left) e = go (fails i) e (fault_found (suc i) left)
    where
      go : (t : Bool) → cond t (Some i) (least_failing fails (suc i) left) ≡ Some place
          → (least_failing fails (suc i) left ≡ Some place → least_fault kind fails (suc i) left ≡ Err (fault_of kind place))
          → cond t (Err (fault_of kind i)) (least_fault kind fails (suc i) left) ≡ Err (fault_of kind place)
      go true e next = cc
      go false e next = next e

  pub no_fault_found : (i left : ℕ) → least_failing fails i left ≡ None → least_fault kind fails i left ≡ Ok tt
  unfolding least_failing least_fault
  no_fault_found i zero e = refl
  no_fault_found i (suc left) e = go (fails i) e (no_fault_found (suc i) left)
    where
      go : (t : Bool) → cond t (Some i) (least_failing fails (suc i) left) ≡ None
          → (least_failing fails (suc i) left ≡ None → least_fault kind fails (suc i) left ≡ Ok tt)
          → cond t (Err (fault_of kind i)) (least_fault kind fails (suc i) left) ≡ Ok tt
      go true e next = cc
      go false e next = next e

  -- ---- a pass over the indices from i up to but not including `last`

  pub none_left : (i last : ℕ) → last ≤ i → least_fault kind fails i (last - i) ≡ Ok tt
  unfolding least_fault
  none_left i last past = let e : last - i ≡ 0 = omega arith in rw e

  module _ (i last : ℕ) (low : i < last) where
    pub fails_here : fails i ≡ true → least_fault kind fails i (last - i) ≡ Err (fault_of kind i)
    unfolding least_fault
    fails_here f = let e : last - i ≡ suc (last - (i + 1)) = omega arith in rw (e, f)

    pub passes_here : fails i ≡ false → least_fault kind fails i (last - i) ≡ least_fault kind fails (i + 1) (last - (i + 1))
    unfolding least_fault
    passes_here f =
        let e : last - i ≡ suc (last - (i + 1)) = omega arith in
        let next : i + 1 ≡ suc i = omega arith in
        rw (e, f, next)

  -- ---- the indices cut in two

  after_passed : (i left rest : ℕ) → least_fault kind fails i left ≡ Ok tt
      → least_fault kind fails i (left + rest) ≡ least_fault kind fails (i + left) rest
  unfolding least_fault
  after_passed i zero rest e = rw (zero-add rest, add-zero i)
  after_passed i (suc left) rest e =
      let a : suc left + rest ≡ suc (left + rest) = omega arith in
      let b : i + suc left ≡ suc i + left = omega arith in
      rw (a, b) (go (fails i) e (after_passed (suc i) left rest))
    where
      go : (t : Bool) → cond t (Err (fault_of kind i)) (least_fault kind fails (suc i) left) ≡ Ok tt
          → (least_fault kind fails (suc i) left ≡ Ok tt
          → least_fault kind fails (suc i) (left + rest) ≡ least_fault kind fails (suc i + left) rest)
          → cond t (Err (fault_of kind i)) (least_fault kind fails (suc i) (left + rest)) ≡ least_fault kind fails (suc i + left) rest
      go true e next = absurd (let z : ◌≡◌ {A = ℕ} 0 1 = cc in omega arith)
      go false e next = next e

  after_fault : {fault : Fault} (i left rest : ℕ) → least_fault kind fails i left ≡ Err fault
      → least_fault kind fails i (left + rest) ≡ Err fault
  unfolding least_fault
  after_fault i zero rest e = absurd (let z : ◌≡◌ {A = ℕ} 0 1 = cc in omega arith)
  after_fault {fault} i (suc left) rest e =
      let a : suc left + rest ≡ suc (left + rest) = omega arith in
      rw a (go (fails i) e (after_fault (suc i) left rest))
    where
      go : (t : Bool) → cond t (Err (fault_of kind i)) (least_fault kind fails (suc i) left) ≡ Err fault
          → (least_fault kind fails (suc i) left ≡ Err fault → least_fault kind fails (suc i) (left + rest) ≡ Err fault)
          → cond t (Err (fault_of kind i)) (least_fault kind fails (suc i) (left + rest)) ≡ Err fault
      go true e next = e
      go false e next = next e

  module _ (first middle last : ℕ) (low : first ≤ middle) (high : middle ≤ last) where
    pub part_passes : least_fault kind fails first (middle - first) ≡ Ok tt
        → least_fault kind fails first (last - first) ≡ least_fault kind fails middle (last - middle)
    part_passes e =
        let whole : last - first ≡ (middle - first) + (last - middle) = omega arith in
        let cut : first + (middle - first) ≡ middle = omega arith in
        rw whole (rw cut at (after_passed first (middle - first) (last - middle) e))

    pub part_fails : {fault : Fault} → least_fault kind fails first (middle - first) ≡ Err fault
        → least_fault kind fails first (last - first) ≡ Err fault
    part_fails e =
        let whole : last - first ≡ (middle - first) + (last - middle) = omega arith in
        rw whole (after_fault first (middle - first) (last - middle) e)

-- Tests that agree on the indices find the same.
pub same_tests : (kind : Kind) (fails fails' : ℕ → Bool) (i left : ℕ) → ((k : ℕ) → i ≤ k → k < i + left → fails k ≡ fails' k)
    → least_fault kind fails i left ≡ least_fault kind fails' i left
unfolding least_fault
same_tests kind fails fails' i zero h = refl
same_tests kind fails fails' i (suc left) h =
    rw (h i (omega arith) (omega arith), same_tests kind fails fails' (suc i) left (λ k low high. h k (omega arith) (omega arith)))
