-- Lists: what stands in range, one place set, one more at the end, distinct and rising nodes.
use Prim.Native.Nat.{ℕ, zero, suc, ◌≤◌, ◌<◌, suc-le-suc}
use mathlib.Core.Path.{◌≡◌, refl, sym}
use mathlib.Core.Logic.{◌≢◌, ◌⊎◌, inl, inr}
use mathlib.Core.List.Memᴰ
use mathlib.Core.List.{List, [], ◌∷◌, ◌++◌, Memᴰ}
use native.Mathlib.Omega.{arith}
use lib.ListN.{length, get_or, set, replicate}
use lib.Seq.{get_or-set_same, get_or-set_other}
use Rattle.theory.specs.Maps.{distance_of}
use Rattle.theory.specs.Demands.{Distinct, Rising}
use Rattle.theory.proofs.Cases.{same?}

-- What is read is not the default: it stands in the list.
pub inside : {A : Type 0} (l : List A) (i : ℕ) (d : A) → get_or l i d ≢ d → i < length l
inside [] i d h = absurd (h refl)
inside (x ∷ l) zero d h = omega arith
inside (x ∷ l) (suc i) d h = suc-le-suc (inside l i d h)

-- What stands in a list does not depend on the default.
pub get_d_inside : {A : Type 0} (l : List A) (i : ℕ) (a b : A) → i < length l → get_or l i a ≡ get_or l i b
get_d_inside [] i a b h = absurd (omega arith)
get_d_inside (x ∷ l) zero a b h = refl
get_d_inside (x ∷ l) (suc i) a b h = get_d_inside l i a b (omega arith)

pub get_d_replicate_same : {A : Type 0} (n i : ℕ) (a : A) → get_or (replicate n a) i a ≡ a
get_d_replicate_same zero i a = refl
get_d_replicate_same (suc n) zero a = refl
get_d_replicate_same (suc n) (suc i) a = get_d_replicate_same n i a

-- What holds at a place that is set, and at every other place, holds at every place.
pub set_everywhere : {A : Type 0} (P : ℕ → A → Type 0) (l : List A) (v : ℕ) (y d : A) → v < length l → P v y
    → ((w : ℕ) → w ≢ v → P w (get_or l w d)) → (w : ℕ) → P w (get_or (set l v y) w d)
set_everywhere P l v y d h new old w = go (same? w v)
  where
    go : (w ≡ v) ⊎ (w ≢ v) → P w (get_or (set l v y) w d)
    go (inl e) = rw e (rw (get_or-set_same l v y d h) new)
    go (inr n) = rw (get_or-set_other l v w y d n) (old w n)

pub mem_snoc : {A : Type 0} {v w : A} (l : List A) → Memᴰ w (l ++ (v ∷ [])) → Memᴰ w l ⊎ (w ≡ v)
mem_snoc {A} {v} {w} l m = go (Memᴰ.append_cases l m)
  where
    go : Memᴰ w l ⊎ Memᴰ w (v ∷ []) → Memᴰ w l ⊎ (w ≡ v)
    go (inl m) = inl m
    go (inr m) = inr (Memᴰ.eq_of_singleton m)

pub snoc_last : {A : Type 0} (l : List A) (v : A) → Memᴰ v (l ++ (v ∷ []))
snoc_last l v = Memᴰ.append_right l (Memᴰ.head refl)

pub distinct_snoc : (l : List ℕ) (v : ℕ) → Distinct l → (Memᴰ v l → ⊥) → Distinct (l ++ (v ∷ []))
distinct_snoc [] v h new = (λ m. elim m [ ], tt)
distinct_snoc (w ∷ l) v h new = (λ m. go (mem_snoc l m), distinct_snoc l v h.1 (λ m. new (Memᴰ.tail m)))
  where
    go : Memᴰ w l ⊎ (w ≡ v) → ⊥
    go (inl m) = h.0 m
    go (inr e) = new (Memᴰ.head (sym e))

pub rising_snoc : (ds l : List ℕ) (low high v : ℕ) → Rising ds low l high → high ≤ distance_of ds v
    → Rising ds low (l ++ (v ∷ [])) (distance_of ds v)
rising_snoc ds [] low high v h le = (omega arith, refl)
rising_snoc ds (w ∷ l) low high v h le = (h.0, rising_snoc ds l (distance_of ds w) high v h.1 le)

pub rising_same : (ds es l : List ℕ) (low high : ℕ) → ((w : ℕ) → Memᴰ w l → distance_of es w ≡ distance_of ds w)
    → Rising ds low l high → Rising es low l high
rising_same ds es [] low high same h = h
rising_same ds es (w ∷ l) low high same h =
    rw (same w (Memᴰ.head refl)) (h.0, rising_same ds es l (distance_of ds w) high (λ x m. same x (Memᴰ.tail m)) h.1)
