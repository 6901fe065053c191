-- The first bounds, in a list of their own and in the words (document 01, "One-level heap" and "Two-level heap").
use Prim.Native.Nat.{ℕ, zero, suc, ◌+◌, ◌-◌, ◌*◌, ◌≤◌, ◌<◌, min}
use native.Mathlib.Nat.{zero-add, suc-add}
use native.Mathlib.Omega.{arith}
use mathlib.Core.Path.{◌≡◌, refl, sym, ap, ◌∙◌}
use mathlib.Core.List.{List, [], ◌∷◌, ◌++◌, append_assoc}
use lib.ListN.{length, get_or, take, drop, set, length-append, length-drop, get_or-append}
use lib.Seq.{length-take-le, append_snoc, set_at, take-set-le, drop-set-add, take-add, drop-drop, get_or-take, get_or-drop, get_or-append-add}
use Rattle.theory.specs.Heap.{bound, rebound, bounds_from}
use Rattle.theory.proofs.Heap.Rebound.{bounds_from_length}
use Rattle.bounds.specs.Words.{bounds_of, size_of, rebound_words, first_words}

-- Sizes that agree for the buckets set give the same bounds.
pub bounds_from_same : (size size' : ℕ → ℕ) (top i sum left : ℕ) → ((k : ℕ) → i ≤ k → k < i + left → size k ≡ size' k)
    → bounds_from size top i sum left ≡ bounds_from size' top i sum left
unfolding bounds_from
bounds_from_same size size' top i sum zero same = refl
bounds_from_same size size' top i sum (suc left) same =
    let e : size i ≡ size' i = same i (omega arith) (omega arith) in
    rw e (ap (λ (l : List ℕ). min (sum + size' i - 1) top ∷ l)
    (bounds_from_same size size' top (suc i) (sum + size' i) left (λ k l h. same k (omega arith) (omega arith))))

-- ---- set one after the other, as in a removal

-- Past the first bound, each first bound is min(the one before + size, top); p is what stands before them.
rebound_is : (size : ℕ → ℕ) (top sum i left : ℕ) (p rest : List ℕ) → 1 ≤ sum → length p ≡ i → left < length rest
    → set (rebound size top (min (sum - 1) top) i left (p ++ rest)) (i + left) top ≡ p ++ (bounds_from size top i sum left ++ drop (suc left) rest)
unfolding rebound bounds_from
rebound_is size top sum i left p [] pos e h = absurd (omega arith)
rebound_is size top sum i zero p (y ∷ ys) pos e h = set_at p y ys top (i + 0) (omega arith)
rebound_is size top sum i (suc left) p (y ∷ ys) pos e h =
    let z : ℕ = min (sum + size i - 1) top in
    let next : min (min (sum - 1) top + size i) top ≡ z = omega arith in
    let one : set (p ++ y ∷ ys) i z ≡ (p ++ (z ∷ [])) ++ ys = set_at p y ys z i e ∙ sym (append_snoc p z ys) in
    let k : i + suc left ≡ suc i + left = omega arith in
    rw (next, one, k)
    (rebound_is size top (sum + size i) (suc i) left (p ++ (z ∷ [])) ys (omega arith) (rw length-append (omega arith)) (omega arith)
    ∙ append_snoc p z (bounds_from size top (suc i) (sum + size i) left ++ drop (suc left) ys))

set_past : (xs ys : List ℕ) (i a : ℕ) → set (xs ++ ys) (length xs + i) a ≡ xs ++ set ys i a
set_past [] ys i a = rw zero-add
set_past (x ∷ xs) ys i a = rw suc-add (ap (λ (l : List ℕ). x ∷ l) (set_past xs ys i a))

module _ (size : ℕ → ℕ) (top first b : ℕ) (is : first ≡ min (size 1 - 1) top) (pos : 0 < size 1) where
  -- u(1), then u(2) to u(B - 1) anew, then u(B), where B is b + 2 and place 0 is left.
  made_bounds : (u : List ℕ) → suc (suc b) < length u
      → set (rebound size top first 2 b (set u 1 first)) (suc (suc b)) top ≡ take 1 u ++ (bounds_from size top 1 0 (suc b) ++ drop (suc (suc (suc b))) u)
  unfolding bounds_from
  made_bounds [] h = absurd (omega arith)
  made_bounds (a ∷ []) h = absurd (omega arith)
  made_bounds (a ∷ y ∷ ys) h =
      let e : suc (suc b) ≡ 2 + b = omega arith in
      rw (zero-add, is, e) (rebound_is size top (size 1) 2 b (a ∷ min (size 1 - 1) top ∷ []) ys pos refl (omega arith))

  -- The same in words of which m stand before the bounds.
  made_words : (m : ℕ) (w : List ℕ) → m + suc (suc b) < length w
      → set (take m (set w (m + 1) first) ++ rebound size top first 2 b (drop m (set w (m + 1) first))) (m + suc (suc b)) top
      ≡ take (m + 1) w ++ (bounds_from size top 1 0 (suc b) ++ drop (m + 1 + suc (suc b)) w)
  made_words m w h =
      let long : length (take m w) ≡ m = length-take-le m w (omega arith) in
      let past : m + 1 + suc (suc b) ≡ m + suc (suc (suc b)) = omega arith in
      let bounds : List ℕ = rebound size top first 2 b (set (drop m w) 1 first) in
      rw (take-set-le m w (m + 1) first (omega arith), drop-set-add, take-add, past, ← drop-drop, append_assoc)
      (rw long at (set_past (take m w) bounds (suc (suc b)) top)
      ∙ ap (λ (l : List ℕ). take m w ++ l) (made_bounds (drop m w) (rw length-drop (omega arith))))

-- The code's stores make the first bounds.
pub first_made : (n : ℕ) (sizes : List ℕ) (B top first : ℕ) (w : List ℕ) → first ≡ min (0 + (size_of sizes 1 - 1)) top → 0 < size_of sizes 1
    → 2 ≤ B → 4 * n + B < length w
    → set (rebound_words n sizes top first 2 B (set w (4 * n + 1) first)) (4 * n + B) top ≡ first_words n sizes B top w
unfolding rebound_words first_words
first_made n sizes zero top first w is pos two room = absurd (omega arith)
first_made n sizes (suc zero) top first w is pos two room = absurd (omega arith)
first_made n sizes (suc (suc b)) top first w is pos two room =
    let e : suc (suc b) - 2 ≡ b = omega arith in
    let f : suc (suc b) - 1 ≡ suc b = omega arith in
    rw (e, f) (made_words (size_of sizes) top first b (rw zero-add at is) pos (4 * n) w room)

-- ---- what stands where in the words

module _ (n : ℕ) (sizes : List ℕ) (B top : ℕ) (w : List ℕ) (some : 1 ≤ B) (room : 4 * n + B < length w) where
  abbrev first : List ℕ
  first = bounds_from (size_of sizes) top 1 0 (B - 1)

  before_long : length (take (4 * n + 1) w) ≡ 4 * n + 1
  before_long = length-take-le (4 * n + 1) w (omega arith)

  first_long : length first ≡ B
  first_long = omega (arith, bounds_from_length (size_of sizes) top 1 0 (B - 1))

  pub first_words_length : length (first_words n sizes B top w) ≡ length w
  unfolding first_words
  first_words_length = simp (length-append, length-drop) (omega (arith, before_long, first_long))

  pub first_words_at : (i : ℕ) → 1 ≤ i → i ≤ B → bound (bounds_of n (first_words n sizes B top w)) i ≡ bound (0 ∷ first) i
  unfolding first_words
  first_words_at zero l h = absurd (omega arith)
  first_words_at (suc i) l h =
      let e : 4 * n + suc i ≡ length (take (4 * n + 1) w) + i = omega (arith, before_long) in
      get_or-drop (4 * n) _ (suc i) 0
      ∙ rw e (get_or-append-add (take (4 * n + 1) w) _ i 0 ∙ get_or-append first _ 0 i (omega (arith, first_long)))

  pub first_words_before : (q : ℕ) → q ≤ 4 * n → get_or (first_words n sizes B top w) q 0 ≡ get_or w q 0
  unfolding first_words
  first_words_before q h =
      get_or-append (take (4 * n + 1) w) _ 0 q (omega (arith, before_long)) ∙ get_or-take (4 * n + 1) w q 0 (omega arith)

  pub first_words_after : (q : ℕ) → 4 * n + B < q → get_or (first_words n sizes B top w) q 0 ≡ get_or w q 0
  unfolding first_words
  first_words_after q h =
      let r : ℕ = q - (4 * n + 1 + B) in
      let past : List ℕ = drop (4 * n + 1 + B) w in
      let e : q ≡ length (take (4 * n + 1) w) + (length first + r) = omega (arith, before_long, first_long) in
      let f : 4 * n + 1 + B + r ≡ q = omega arith in
      ap (λ (k : ℕ). get_or (take (4 * n + 1) w ++ (first ++ past)) k 0) e
      ∙ get_or-append-add (take (4 * n + 1) w) (first ++ past) (length first + r) 0
      ∙ get_or-append-add first past r 0 ∙ get_or-drop (4 * n + 1 + B) w r 0 ∙ ap (λ (k : ℕ). get_or w k 0) f
