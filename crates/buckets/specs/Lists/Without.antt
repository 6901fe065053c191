-- A list with one node taken out, and at most n of the nodes below n. Assumes nothing.
use Rattle.std.specs.Prelude.{◌≡◌, refl, ◌⊎◌, ◌≢◌, List, [], ◌∷◌, ℕ, zero, suc, ◌≤◌, ◌<◌, length}
use Rattle.std.proofs.Common.{sym, ap, ◌∙◌, subst, inl, inr, ⊎_elim, arith}
use Rattle.std.proofs.Math.Decide.{ℕ_discrete}
use Rattle.buckets.specs.Lists.{ListedIn, Once}

-- l without its v
abbrev pub without : (v : ℕ) (l : List ℕ) → ListedIn v l → List ℕ
without v [] m = absurd m
without v (y ∷ l) (inl e) = l
without v (y ∷ l) (inr m) = y ∷ without v l m

pub in_subst : (x y : ℕ) (l : List ℕ) → x ≡ y → ListedIn x l → ListedIn y l
in_subst x y l e m = subst (λ (k : ℕ). ListedIn k l) e m

pub in_without : (v : ℕ) (l : List ℕ) (m : ListedIn v l) (x : ℕ) → ListedIn x (without v l m) → ListedIn x l
in_without v [] m x i = absurd m
in_without v (y ∷ l) (inl e) x i = inr i
in_without v (y ∷ l) (inr m) x (inl e) = inl e
in_without v (y ∷ l) (inr m) x (inr i) = inr (in_without v l m x i)

pub not_in_without : (v : ℕ) (l : List ℕ) (m : ListedIn v l) → Once l → ListedIn v (without v l m) → ⊥
not_in_without v [] m o i = m
not_in_without v (y ∷ l) (inl e) o i = o.0 (in_subst v y l e i)
not_in_without v (y ∷ l) (inr m) o (inl e) = o.0 (in_subst v y l e m)
not_in_without v (y ∷ l) (inr m) o (inr i) = not_in_without v l m o.1 i

pub in_other : (v : ℕ) (l : List ℕ) (m : ListedIn v l) (x : ℕ) → x ≢ v → ListedIn x l → ListedIn x (without v l m)
in_other v [] m x h i = absurd i
in_other v (y ∷ l) (inl e) x h (inl d) = absurd (h (d ∙ sym e))
in_other v (y ∷ l) (inl e) x h (inr i) = i
in_other v (y ∷ l) (inr m) x h (inl d) = inl d
in_other v (y ∷ l) (inr m) x h (inr i) = inr (in_other v l m x h i)

pub once_without : (v : ℕ) (l : List ℕ) (m : ListedIn v l) → Once l → Once (without v l m)
once_without v [] m o = absurd m
once_without v (y ∷ l) (inl e) o = o.1
once_without v (y ∷ l) (inr m) o = (λ i. o.0 (in_without v l m y i), once_without v l m o.1)

pub length_without : (v : ℕ) (l : List ℕ) (m : ListedIn v l) → length l ≡ suc (length (without v l m))
length_without v [] m = absurd m
length_without v (y ∷ l) (inl e) = refl
length_without v (y ∷ l) (inr m) = ap suc (length_without v l m)

pub in_or_not : (v : ℕ) (l : List ℕ) → ListedIn v l ⊎ (ListedIn v l → ⊥)
in_or_not v [] = inr (λ m. m)
in_or_not v (y ∷ l) = pick (ℕ_discrete v y) (in_or_not v l)
  where
    pick : Dec (v ≡ y) → ListedIn v l ⊎ (ListedIn v l → ⊥) → ListedIn v (y ∷ l) ⊎ (ListedIn v (y ∷ l) → ⊥)
    pick (yes e) r = inl (inl e)
    pick (no h) (inl m) = inl (inr m)
    pick (no h) (inr k) = inr (⊎_elim h k)

-- nodes below n, none twice: at most n of them
pub few : (n : ℕ) (l : List ℕ) → Once l → ((x : ℕ) → ListedIn x l → x < n) → length l ≤ n
few zero [] o b = omega arith
few zero (x ∷ l) o b = let h : x < zero = b x (inl refl) in omega arith
few (suc n) l o b = go (λ k ok bk. few n k ok bk) (in_or_not n l)
  where
    go : ((k : List ℕ) → Once k → ((x : ℕ) → ListedIn x k → x < n) → length k ≤ n) → ListedIn n l ⊎ (ListedIn n l → ⊥) → length l ≤ suc n
    go rec (inl m) =
        let r : length (without n l m) ≤ n =
        rec (without n l m) (once_without n l m o)
        (λ x i.
        let h : x < suc n = b x (in_without n l m x i) in
        let d : x ≢ n = λ e. not_in_without n l m o (in_subst x n (without n l m) e i) in
        omega arith) in
        omega (arith, length_without n l m)
    go rec (inr k) =
        let r : length l ≤ n =
        rec l o
        (λ x i.
        let h : x < suc n = b x i in
        let d : x ≢ n = λ e. k (in_subst x n l e i) in
        omega arith) in
        omega arith
