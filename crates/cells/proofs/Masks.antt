-- The bits of the two masks of a run, and of a word in which a mask was put. Assumes nothing.
use mathlib.Core.Path.{◌≡◌, sym, ap, ◌∙◌}
use mathlib.Core.Logic.{◌⊎◌, ⊎_elim}
use Prim.Native.Nat.{ℕ, ◌+◌, ◌-◌, ◌*◌, ◌/◌, ◌%◌, ◌^◌, ◌≤◌, ◌<◌}
use native.Mathlib.Nat.{mod-lt, mul-mod_left, sub-zero, one-mul, mod-eq_of_lt}
use native.Mathlib.Omega.{arith}
use lib.Bits.{or_lt, and_lt}
use lib.Pow.{pow_pos, pow-lt, shl-shr, shr_le, ones_lt}
use Rattle.model.specs.Arena.{bit}
use Rattle.model.proofs.Bits.{bit_lt, no_bit, bit_shr, bit_low, bit_high, bit_not, bit_or_lem, bit_and_lem}
use Rattle.cells.specs.declared.Cell.{Cell}
use Rattle.cells.specs.declared.Cell.TheVariants.{Free, Used}
use Rattle.cells.specs.Words.{low_mask, high_mask, bit_of, masked, sought, other}

-- `1 << n`
pub one_shl : (n : ℕ) → n < 64 → 1 * 2 ^ n % 2 ^ 64 ≡ 2 ^ n
one_shl n h = ap (λ (x : ℕ). x % 2 ^ 64) (one-mul (2 ^ n)) ∙ mod-eq_of_lt (pow-lt h)

-- n ones, and zeros above them
ones_in : (n j : ℕ) → j < n → bit (2 ^ n - 1) j ≡ 1
ones_in n j h =
    ap (λ (x : ℕ). bit x j) (sym (sub-zero (2 ^ n - 1))) ∙ omega (arith, bit_not n 0 j (pow_pos n) h, no_bit j)

ones_out : (n j : ℕ) → n ≤ j → bit (2 ^ n - 1) j ≡ 0
ones_out n j h = bit_high n (2 ^ n - 1) j (ones_lt n) h

-- bit j of the low mask, at or above k, is bit j - k of the ones
low_shifted : (k n j : ℕ) → j < 64 → k ≤ j → bit (low_mask k n) j ≡ bit (2 ^ n - 1) (j - k)
unfolding low_mask
low_shifted k n j h p =
    let e : j ≡ k + (j - k) = omega arith in
    bit_low ((2 ^ n - 1) * 2 ^ k) 64 j h ∙ ap (bit ((2 ^ n - 1) * 2 ^ k)) e ∙ sym (bit_shr ((2 ^ n - 1) * 2 ^ k) k (j - k))
    ∙ ap (λ (x : ℕ). bit x (j - k)) (shl-shr (2 ^ n - 1) k)

pub low_in : (k n j : ℕ) → j < 64 → k ≤ j → j < k + n → bit (low_mask k n) j ≡ 1
low_in k n j h p q = low_shifted k n j h p ∙ ones_in n (j - k) (omega arith)

pub low_out : (k n j : ℕ) → j < 64 → (j < k) ⊎ (k + n ≤ j) → bit (low_mask k n) j ≡ 0
unfolding low_mask
low_out k n j h o = ⊎_elim below above o
  where
    below : j < k → bit (low_mask k n) j ≡ 0
    below p =
        bit_low ((2 ^ n - 1) * 2 ^ k) 64 j h ∙ sym (bit_low ((2 ^ n - 1) * 2 ^ k) k j p)
        ∙ ap (λ (x : ℕ). bit x j) (mul-mod_left (2 ^ n - 1) (2 ^ k)) ∙ no_bit j

    above : k + n ≤ j → bit (low_mask k n) j ≡ 0
    above p = low_shifted k n j h (omega arith) ∙ ones_out n (j - k) (omega arith)

-- bit j of the high mask is bit 64 + j - k of the ones
high_shifted : (k n j : ℕ) → k < 64 → bit (high_mask k n) j ≡ bit (2 ^ n - 1) (64 + j - k)
unfolding high_mask
high_shifted k n j h =
    let e : 1 + (63 - k + j) ≡ 64 + j - k = omega arith in
    bit_shr ((2 ^ n - 1) / 2 ^ 1) (63 - k) j ∙ bit_shr (2 ^ n - 1) 1 (63 - k + j) ∙ ap (bit (2 ^ n - 1)) e

pub high_in : (k n j : ℕ) → k < 64 → 64 + j < k + n → bit (high_mask k n) j ≡ 1
high_in k n j h p = high_shifted k n j h ∙ ones_in n (64 + j - k) (omega arith)

pub high_out : (k n j : ℕ) → k < 64 → k + n ≤ 64 + j → bit (high_mask k n) j ≡ 0
high_out k n j h p = high_shifted k n j h ∙ ones_out n (64 + j - k) (omega arith)

pub low_fits : (k n : ℕ) → low_mask k n < 2 ^ 64
unfolding low_mask
low_fits k n = mod-lt ((2 ^ n - 1) * 2 ^ k) (pow_pos 64)

pub high_fits : (k n : ℕ) → n < 64 → high_mask k n < 2 ^ 64
unfolding high_mask
high_fits k n h =
    let a : 2 ^ n - 1 < 2 ^ n = ones_lt n in
    let b : 2 ^ n < 2 ^ 64 = pow-lt h in
    omega (arith, shr_le ((2 ^ n - 1) / 2 ^ 1) (63 - k), shr_le (2 ^ n - 1) 1)

-- a word in which a mask was put: it fits; the mask's ones are put; the other bits stay
pub masked_fits : (w mask : ℕ) (to : Cell) → w < 2 ^ 64 → mask < 2 ^ 64 → masked w mask to < 2 ^ 64
masked_fits w mask Used h k = or_lt 64 w mask h k
masked_fits w mask Free h k = and_lt 64 w ((2 ^ 64 - 1) - mask) h (omega arith)

pub masked_in : (w mask j : ℕ) (to : Cell) → mask < 2 ^ 64 → j < 64 → bit mask j ≡ 1 → bit (masked w mask to) j ≡ bit_of to
masked_in w mask j Used h hj e = bit_or_lem w mask j ∙ omega (arith, bit_lt w j)
masked_in w mask j Free h hj e = bit_and_lem w ((2 ^ 64 - 1) - mask) j ∙ omega (arith, bit_not 64 mask j h hj)

pub masked_out : (w mask j : ℕ) (to : Cell) → mask < 2 ^ 64 → j < 64 → bit mask j ≡ 0 → bit (masked w mask to) j ≡ bit w j
masked_out w mask j Used h hj e = bit_or_lem w mask j ∙ omega arith
masked_out w mask j Free h hj e = bit_and_lem w ((2 ^ 64 - 1) - mask) j ∙ omega (arith, bit_not 64 mask j h hj, bit_lt w j)

-- the ones of the sought word are the cells that are sought, its zeros the others
pub sought_one : (w j : ℕ) (which : Cell) → w < 2 ^ 64 → j < 64 → bit (sought w which) j ≡ 1 → bit w j ≡ bit_of which
sought_one w j Used h hj e = e
sought_one w j Free h hj e = omega (arith, bit_not 64 w j h hj, bit_lt w j)

pub sought_zero : (w j : ℕ) (which : Cell) → w < 2 ^ 64 → j < 64 → bit (sought w which) j ≡ 0 → bit w j ≡ bit_of (other which)
sought_zero w j Used h hj e = e
sought_zero w j Free h hj e = omega (arith, bit_not 64 w j h hj, bit_lt w j)

pub sought_fits : (w : ℕ) (which : Cell) → w < 2 ^ 64 → sought w which < 2 ^ 64
sought_fits w Used h = h
sought_fits w Free h = omega arith
