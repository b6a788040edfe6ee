-- Laws of one bit of a number, and of the number with one bit put to 0 or 1. Assumes nothing.
use mathlib.Core.Path.{◌≡◌, refl, sym, ap, ap₂, ◌∙◌, subst}
use mathlib.Core.Logic.{⊎_elim}
use Prim.Native.Nat.{ℕ, zero, suc, ◌+◌, ◌-◌, ◌*◌, ◌/◌, ◌%◌, ◌^◌, ◌≤◌, ◌<◌, min, max}
use native.Mathlib.Nat.{mod-lt, add-mul, add_comm, pow-suc, mul_comm, mul_assoc, div-one, not-suc-le-zero, div-eq_of_lt, lt_of_lt_of_le}
use native.Mathlib.Nat.{zero-div}
use native.Mathlib.Numerals.{add-one}
use native.Mathlib.Omega.{arith}
use lib.Arith.{digits_lt}
use lib.Pow.{pow_pos, pow_mono, split, shr-shr, mod-mod-pow, field, low, high, shr_lt, pow-add}
use lib.Count.{count_trailing_zeros, under}
use lib.Bits.{bit_and, bit_or, and_shr, or_shr, and_step, or_step}
use Rattle.model.proofs.Choice.{sides}
use Rattle.model.specs.Arena.{bit, with_bit}

pub bit_lt : (w k : ℕ) → bit w k < 2
unfolding bit
bit_lt w k = omega arith

pub no_bit : (k : ℕ) → bit 0 k ≡ 0
unfolding bit
no_bit k = ap (λ (n : ℕ). n % 2) (zero-div (2 ^ k))

pub bit_zero : (w : ℕ) → bit w 0 ≡ w % 2
unfolding bit
bit_zero w = ap (λ (n : ℕ). n % 2) (div-one w)

-- a shifted word has its bits moved down
pub bit_shr : (w k i : ℕ) → bit (w / 2 ^ k) i ≡ bit w (k + i)
unfolding bit
bit_shr w k i = ap (λ (n : ℕ). n % 2) (shr-shr w k i)

pub bit_suc : (w i : ℕ) → bit w (suc i) ≡ bit (w / 2) i
bit_suc w i = ap (bit w) (omega arith) ∙ sym (bit_shr w 1 i)

-- a bit below k is one of the k low bits
pub bit_low : (w k i : ℕ) → i < k → bit (w % 2 ^ k) i ≡ bit w i
unfolding bit
bit_low w k i h =
    let d : ℕ = k - (1 + i) in
    let e : d + (1 + i) ≡ k = omega arith in
    sym (field (w % 2 ^ k) 1 i)
    ∙ ap (λ (n : ℕ). n / 2 ^ i) (ap (λ (n : ℕ). w % 2 ^ n % 2 ^ (1 + i)) (sym e) ∙ mod-mod-pow w d (1 + i))
    ∙ field w 1 i

-- a word is its high part, one bit, and its low part
pub bit_split : (w k : ℕ) → w ≡ (w / 2 ^ suc k * 2 + bit w k) * 2 ^ k + w % 2 ^ k
unfolding bit
bit_split w k =
    sym (split w k) ∙ ap (λ (n : ℕ). n * 2 ^ k + w % 2 ^ k)
    (sym (split (w / 2 ^ k) 1) ∙ ap (λ (n : ℕ). n * 2 + w / 2 ^ k % 2) (shr-shr w k 1 ∙ ap (λ (n : ℕ). w / 2 ^ n) (add-one k)))

pub with_split : (w k b : ℕ) → with_bit w k b ≡ (w / 2 ^ suc k * 2 + b) * 2 ^ k + w % 2 ^ k
unfolding with_bit
with_split w k b =
    let e = bit_split w k in
    let p = add-mul (w / 2 ^ suc k * 2) (bit w k) (2 ^ k) in
    let q = add-mul (w / 2 ^ suc k * 2) b (2 ^ k) in
    omega arith

-- the top bit of a number of k + 1 bits
bit_top : (n k : ℕ) → n < 2 ^ suc k → n ≡ bit n k * 2 ^ k + n % 2 ^ k
unfolding bit
bit_top n k p =
    let q : n / 2 ^ k < 2 = shr_lt 1 k (subst (λ (x : ℕ). n < 2 ^ x) (sym (add-one k) ∙ add_comm k 1) p) in
    let e : n / 2 ^ k % 2 ≡ n / 2 ^ k = omega arith in
    sym (split n k) ∙ ap (λ (x : ℕ). x * 2 ^ k + n % 2 ^ k) (sym e)

-- no bit at or above the width
pub bit_high : (n w j : ℕ) → w < 2 ^ n → n ≤ j → bit w j ≡ 0
unfolding bit
bit_high n w j h p = ap (λ (x : ℕ). x % 2) (div-eq_of_lt (lt_of_lt_of_le h (pow_mono p)))

-- two numbers that agree on each bit below k, and have no other, are equal
pub bits_ext : (k a b : ℕ) → a < 2 ^ k → b < 2 ^ k → ((j : ℕ) → j < k → bit a j ≡ bit b j) → a ≡ b
bits_ext zero a b ha hb h = omega arith
bits_ext (suc k) a b ha hb h =
    let lo : a % 2 ^ k ≡ b % 2 ^ k =
    bits_ext k (a % 2 ^ k) (b % 2 ^ k) (mod-lt a (pow_pos k)) (mod-lt b (pow_pos k))
    (λ j p. bit_low a k j p ∙ h j (omega arith) ∙ sym (bit_low b k j p)) in
    let up : (n : ℕ) → n < 2 ^ suc k → n ≡ bit n k * 2 ^ k + n % 2 ^ k = λ n p. bit_top n k p in
    up a ha ∙ ap₂ (λ (x y : ℕ). x * 2 ^ k + y) (h k (omega arith)) lo ∙ sym (up b hb)

-- the bit that was put
pub with_same : (w k b : ℕ) → b < 2 → bit (with_bit w k b) k ≡ b
unfolding bit
with_same w k b h =
    ap (λ (n : ℕ). n / 2 ^ k % 2) (with_split w k b)
    ∙ ap (λ (n : ℕ). n % 2) (high (w / 2 ^ suc k * 2 + b) k (mod-lt w (pow_pos k)))
    ∙ omega arith

-- every other bit stays
pub with_other : (w k b j : ℕ) → b < 2 → (j ≡ k → ⊥) → bit (with_bit w k b) j ≡ bit w j
unfolding bit
with_other w k b j h ne = ⊎_elim below above (sides j k ne)
  where
    below : j < k → bit (with_bit w k b) j ≡ bit w j
    below p =
        sym (bit_low (with_bit w k b) k j p)
        ∙ ap (λ (n : ℕ). bit n j) (ap (λ (n : ℕ). n % 2 ^ k) (with_split w k b) ∙ low (w / 2 ^ suc k * 2 + b) k (mod-lt w (pow_pos k)))
        ∙ bit_low w k j p

    above : k < j → bit (with_bit w k b) j ≡ bit w j
    above p =
        let i : ℕ = j - suc k in
        let e : suc k + i ≡ j = omega arith in
        let hi : with_bit w k b / 2 ^ suc k ≡ w / 2 ^ suc k =
        ap (λ (n : ℕ). with_bit w k b / 2 ^ n) (sym (add-one k)) ∙ sym (shr-shr (with_bit w k b) k 1)
        ∙ ap (λ (n : ℕ). n / 2) (ap (λ (n : ℕ). n / 2 ^ k) (with_split w k b) ∙ high (w / 2 ^ suc k * 2 + b) k (mod-lt w (pow_pos k)))
        ∙ omega arith in
        ap (bit (with_bit w k b)) (sym e) ∙ sym (bit_shr (with_bit w k b) (suc k) i)
        ∙ ap (λ (n : ℕ). bit n i) hi ∙ bit_shr w (suc k) i ∙ ap (bit w) e

-- the word still fits
pub with_lt : (n w k b : ℕ) → w < 2 ^ n → k < n → b < 2 → with_bit w k b < 2 ^ n
with_lt n w k b h kn hb =
    let d : ℕ = n - suc k in
    let e : d + suc k ≡ n = omega arith in
    let hi : w / 2 ^ suc k < 2 ^ d = shr_lt d (suc k) (subst (λ (x : ℕ). w < 2 ^ x) (sym e) h) in
    let q : w / 2 ^ suc k * 2 + b < 2 ^ d * 2 = omega arith in
    let all : 2 ^ d * 2 * 2 ^ k ≡ 2 ^ n =
    mul_assoc (2 ^ d) 2 (2 ^ k) ∙ ap (λ (x : ℕ). 2 ^ d * x) (mul_comm 2 (2 ^ k) ∙ sym (pow-suc 2 k)) ∙ sym (pow-add 2 d (suc k))
    ∙ ap (λ (x : ℕ). 2 ^ x) e in
    let r : (w / 2 ^ suc k * 2 + b) * 2 ^ k + w % 2 ^ k < 2 ^ d * 2 * 2 ^ k = digits_lt q (mod-lt w (pow_pos k)) in
    omega (arith, with_split w k b)

-- and, or: bit by bit
pub bit_or_lem : (a b j : ℕ) → bit (bit_or a b) j ≡ max (bit a j) (bit b j)
unfolding bit
bit_or_lem a b j = ap (λ (n : ℕ). n % 2) (or_shr a b j) ∙ omega (arith, or_step (a / 2 ^ j) (b / 2 ^ j))

pub bit_and_lem : (a b j : ℕ) → bit (bit_and a b) j ≡ min (bit a j) (bit b j)
unfolding bit
bit_and_lem a b j = ap (λ (n : ℕ). n % 2) (and_shr a b j) ∙ omega (arith, and_step (a / 2 ^ j) (b / 2 ^ j))

-- the complement: `!w`
pub bit_not : (n w j : ℕ) → w < 2 ^ n → j < n → bit ((2 ^ n - 1) - w) j ≡ 1 - bit w j
bit_not zero w j h hj = absurd (not-suc-le-zero hj)
bit_not (suc n) w zero h hj = omega (arith, pow-suc 2 n, pow_pos n, bit_zero w, bit_zero ((2 ^ suc n - 1) - w))
bit_not (suc n) w (suc j) h hj =
    let p = pow-suc 2 n in
    let e : ((2 ^ suc n - 1) - w) / 2 ≡ (2 ^ n - 1) - w / 2 = omega (arith, pow_pos n) in
    bit_suc ((2 ^ suc n - 1) - w) j ∙ ap (λ (x : ℕ). bit x j) e ∙ bit_not n (w / 2) j (omega arith) (omega arith)
    ∙ ap (λ (x : ℕ). 1 - x) (sym (bit_suc w j))

-- trailing zeros: every bit below the count is 0, and the bit at the count is 1 unless all k are 0
low_zeros : (n t : ℕ) → ((i : ℕ) → i < t → bit (n / 2) i ≡ 0) → (d : ℕ) → n % 2 ≡ d → (i : ℕ) → i < under d t → bit n i ≡ 0
low_zeros n t ih zero e zero h = bit_zero n ∙ e
low_zeros n t ih zero e (suc i) h = bit_suc n i ∙ ih i (omega arith)
low_zeros n t ih (suc d) e i h = absurd (not-suc-le-zero h)

pub zeros_below : (k n i : ℕ) → i < count_trailing_zeros k n → bit n i ≡ 0
unfolding count_trailing_zeros
zeros_below zero n i h = absurd (not-suc-le-zero h)
zeros_below (suc k) n i h = low_zeros n (count_trailing_zeros k (n / 2)) (zeros_below k (n / 2)) (n % 2) refl i h

low_one : (n k t : ℕ) → (t < k → bit (n / 2) t ≡ 1) → (d : ℕ) → n % 2 ≡ d → under d t < suc k → bit n (under d t) ≡ 1
low_one n k t ih zero e h = bit_suc n t ∙ ih (omega arith)
low_one n k t ih (suc d) e h = omega (arith, bit_zero n)

pub zeros_at : (k n : ℕ) → count_trailing_zeros k n < k → bit n (count_trailing_zeros k n) ≡ 1
unfolding count_trailing_zeros
zeros_at zero n h = absurd (not-suc-le-zero h)
zeros_at (suc k) n h = low_one n k (count_trailing_zeros k (n / 2)) (zeros_at k (n / 2)) (n % 2) refl h
