-- The laws of one word, for every width d: a clear bit is set by adding 2 ^ k, a set one cleared by taking 2 ^ k away, a word is 0 exactly if
-- all its bits are clear, and its lowest set bit is where its trailing zeros end. Assumes nothing.
use Rattle.std.specs.Prelude.{◌≡◌, refl, ◌⊎◌, ◌≢◌, ℕ, zero, suc, ◌+◌, ◌-◌, ◌/◌, ◌%◌, ◌^◌, ◌≤◌, ◌<◌}
use Rattle.std.proofs.Common.{sym, ap, ◌∙◌, subst, inl, inr, div-one, mod-eq_of_lt, one-mul, arith, pow_pos}
use Rattle.std.proofs.Math.Nat.{div-div-eq-div-mul, pow-succ', two-pow-succ, zero-div}
use Rattle.std.proofs.Math.Pow.{pow-lt}
use Rattle.std.specs.Int.Count.{count_trailing_zeros, under}
use Rattle.bits.specs.Word.{bit, one_bit, Turned}

-- ---- bit 0 is the number's last digit, and the others are those of its half

bit_zero : (x : ℕ) → bit x 0 ≡ x % 2
unfolding bit
bit_zero x = ap (λ (y : ℕ). y % 2) (div-one x)

bit_suc : (x k : ℕ) → bit x (suc k) ≡ bit (x / 2) k
unfolding bit
bit_suc x k = ap (λ (y : ℕ). y % 2) (ap (λ (y : ℕ). x / y) (pow-succ' 2 k) ∙ sym (div-div-eq-div-mul x 2 (2 ^ k)))

pub bit_lt : (x k : ℕ) → bit x k < 2
unfolding bit
bit_lt x k = omega arith

pub bit_cases : (x k : ℕ) → (bit x k ≡ 0) ⊎ (bit x k ≡ 1)
bit_cases x k = go (bit x k) (bit_lt x k)
  where
    go : (y : ℕ) → y < 2 → (y ≡ 0) ⊎ (y ≡ 1)
    go zero h = inl refl
    go (suc y) h = inr (omega arith)

one_is : (d k : ℕ) → k < d → one_bit d k ≡ 2 ^ k
one_is d k h = ap (λ (y : ℕ). y % 2 ^ d) (one-mul (2 ^ k)) ∙ mod-eq_of_lt (pow-lt h)

-- ---- a clear bit is set

add_half : (x k : ℕ) → (x + 2 ^ suc k) / 2 ≡ x / 2 + 2 ^ k
add_half x k = omega (arith, two-pow-succ k)

add_odd : (x k : ℕ) → (x + 2 ^ suc k) % 2 ≡ x % 2
add_odd x k = omega (arith, two-pow-succ k)

set_here : (k x : ℕ) → bit x k ≡ 0 → bit (x + 2 ^ k) k ≡ 1
set_here zero x h = bit_zero (x + 1) ∙ omega (arith, bit_zero x)
set_here (suc k) x h =
    bit_suc (x + 2 ^ suc k) k ∙ ap (λ (y : ℕ). bit y k) (add_half x k) ∙ set_here k (x / 2) (sym (bit_suc x k) ∙ h)

set_other : (k x j : ℕ) → bit x k ≡ 0 → j ≢ k → bit (x + 2 ^ k) j ≡ bit x j
set_other zero x zero h g = absurd (g refl)
set_other zero x (suc j) h g =
    let e : (x + 1) / 2 ≡ x / 2 = omega (arith, bit_zero x) in
    bit_suc (x + 1) j ∙ ap (λ (y : ℕ). bit y j) e ∙ sym (bit_suc x j)
set_other (suc k) x zero h g = bit_zero (x + 2 ^ suc k) ∙ add_odd x k ∙ sym (bit_zero x)
set_other (suc k) x (suc j) h g =
    bit_suc (x + 2 ^ suc k) j ∙ ap (λ (y : ℕ). bit y j) (add_half x k)
    ∙ set_other k (x / 2) j (sym (bit_suc x k) ∙ h) (λ e. g (ap suc e)) ∙ sym (bit_suc x j)

set_fits : (d k x : ℕ) → x < 2 ^ d → k < d → bit x k ≡ 0 → x + 2 ^ k < 2 ^ d
set_fits zero k x f l h = absurd (omega arith)
set_fits (suc d) zero x f l h = let z : 1 ≤ 2 ^ d = pow_pos d in omega (arith, bit_zero x, two-pow-succ d)
set_fits (suc d) (suc k) x f l h =
    let g : x / 2 < 2 ^ d = omega (arith, two-pow-succ d) in
    let r : x / 2 + 2 ^ k < 2 ^ d = set_fits d k (x / 2) g (omega arith) (sym (bit_suc x k) ∙ h) in
    omega (arith, two-pow-succ d, two-pow-succ k)

pub set_bit : (d k x : ℕ) → x < 2 ^ d → k < d → bit x k ≡ 0 → Turned d k x 1 (x + one_bit d k)
set_bit d k x f l h =
    subst (λ (y : ℕ). Turned d k x 1 (x + y)) (sym (one_is d k l))
    (record { here = set_here k x h; others = λ j g. set_other k x j h g; fits = set_fits d k x f l h })

-- ---- a set bit is cleared

power_le : (k x : ℕ) → bit x k ≡ 1 → 2 ^ k ≤ x
power_le zero x h = omega (arith, bit_zero x)
power_le (suc k) x h =
    let r : 2 ^ k ≤ x / 2 = power_le k (x / 2) (sym (bit_suc x k) ∙ h) in omega (arith, two-pow-succ k)

clear_here : (k x : ℕ) → bit x k ≡ 1 → bit (x - 2 ^ k) k ≡ 0
clear_here zero x h = bit_zero (x - 1) ∙ omega (arith, bit_zero x)
clear_here (suc k) x h =
    let l : 2 ^ suc k ≤ x = power_le (suc k) x h in
    let e : (x - 2 ^ suc k) / 2 ≡ x / 2 - 2 ^ k = omega (arith, two-pow-succ k) in
    bit_suc (x - 2 ^ suc k) k ∙ ap (λ (y : ℕ). bit y k) e ∙ clear_here k (x / 2) (sym (bit_suc x k) ∙ h)

clear_other : (k x j : ℕ) → bit x k ≡ 1 → j ≢ k → bit (x - 2 ^ k) j ≡ bit x j
clear_other k x j h g =
    let e : x - 2 ^ k + 2 ^ k ≡ x = omega (arith, power_le k x h) in
    sym (set_other k (x - 2 ^ k) j (clear_here k x h) g) ∙ ap (λ (y : ℕ). bit y j) e

pub clear_le : (d k x : ℕ) → k < d → bit x k ≡ 1 → one_bit d k ≤ x
clear_le d k x l h = omega (arith, one_is d k l, power_le k x h)

pub clear_bit : (d k x : ℕ) → x < 2 ^ d → k < d → bit x k ≡ 1 → Turned d k x 0 (x - one_bit d k)
clear_bit d k x f l h =
    subst (λ (y : ℕ). Turned d k x 0 (x - y)) (sym (one_is d k l))
    (record { here = clear_here k x h; others = λ j g. clear_other k x j h g; fits = omega arith })

-- ---- a bit stays

pub keep_bit : (d k x c : ℕ) → x < 2 ^ d → bit x k ≡ c → Turned d k x c x
keep_bit d k x c f h = record { here = h; others = λ j g. refl; fits = f }

-- ---- a word is 0 exactly if all its bits are clear

pub bit_of_zero : (k : ℕ) → bit 0 k ≡ 0
unfolding bit
bit_of_zero k = ap (λ (y : ℕ). y % 2) (zero-div (2 ^ k))

pub nonzero : (x k : ℕ) → bit x k ≡ 1 → x ≢ 0
nonzero x k h e = let z : bit x k ≡ 0 = ap (λ (y : ℕ). bit y k) e ∙ bit_of_zero k in omega arith

-- ---- the lowest set bit of a word that is not 0 is where its trailing zeros end

pub lowest_lt : (d x : ℕ) → x ≢ 0 → x < 2 ^ d → count_trailing_zeros d x < d
unfolding count_trailing_zeros
lowest_lt zero x h f = absurd (omega arith)
lowest_lt (suc d) x h f =
    go (x % 2) refl (λ (e : x % 2 ≡ 0). lowest_lt d (x / 2) (omega arith) (omega (arith, two-pow-succ d)))
  where
    go : (r : ℕ) → x % 2 ≡ r → (x % 2 ≡ 0 → count_trailing_zeros d (x / 2) < d) → under r (count_trailing_zeros d (x / 2)) < suc d
    go zero e rest = let g : count_trailing_zeros d (x / 2) < d = rest e in omega arith
    go (suc r) e rest = omega arith

pub lowest_set : (d x : ℕ) → x ≢ 0 → x < 2 ^ d → bit x (count_trailing_zeros d x) ≡ 1
unfolding count_trailing_zeros
lowest_set zero x h f = absurd (omega arith)
lowest_set (suc d) x h f =
    go (x % 2) refl (λ (e : x % 2 ≡ 0). lowest_set d (x / 2) (omega arith) (omega (arith, two-pow-succ d)))
  where
    go : (r : ℕ) → x % 2 ≡ r → (x % 2 ≡ 0 → bit (x / 2) (count_trailing_zeros d (x / 2)) ≡ 1) → bit x (under r (count_trailing_zeros d (x / 2))) ≡ 1
    go zero e rest = bit_suc x (count_trailing_zeros d (x / 2)) ∙ rest e
    go (suc r) e rest = bit_zero x ∙ omega arith

pub lowest_least : (d x j : ℕ) → j < count_trailing_zeros d x → bit x j ≡ 0
unfolding count_trailing_zeros
lowest_least zero x j h = absurd (omega arith)
lowest_least (suc d) x j h = go (x % 2) refl j h (λ i l. lowest_least d (x / 2) i l)
  where
    go : (r : ℕ) → x % 2 ≡ r → (j : ℕ) → j < under r (count_trailing_zeros d (x / 2))
        → ((i : ℕ) → i < count_trailing_zeros d (x / 2) → bit (x / 2) i ≡ 0) → bit x j ≡ 0
    go zero e zero l rest = bit_zero x ∙ e
    go zero e (suc j) l rest = bit_suc x j ∙ rest j (omega arith)
    go (suc r) e j l rest = absurd (omega arith)
