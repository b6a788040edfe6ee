-- The n cells from c on are free where neither mask of the run meets its word. Assumes nothing.
use mathlib.Core.Path.{◌≡◌, sym, ap, ◌∙◌}
use mathlib.Core.List.{List}
use mathlib.Core.Logic.{◌⊎◌, inl, inr, ⊎_elim}
use Prim.Native.Nat.{ℕ, ◌+◌, ◌*◌, ◌/◌, ◌%◌, ◌^◌, ◌≤◌, ◌<◌}
use native.Mathlib.Omega.{arith}
use lib.Bits.{bit_and, and_lt}
use lib.ListN.{get_or}
use lib.Pow.{pow_pos}
use Rattle.model.specs.Choice.{◌and◌}
use Rattle.model.specs.Arena.{bit, used, free_cells, IsMap}
use Rattle.model.proofs.Choice.{order, same_or_not}
use Rattle.model.proofs.Bits.{no_bit, bit_lt, bit_and_lem, bits_ext}
use Rattle.model.proofs.CellMap.{used_at, free_cells_lem, cells_free}
use Rattle.model.proofs.Says.{Says, says_eq, says_and, says_as, says_same}
use Rattle.cells.specs.Words.{low_mask, high_mask, free_word}
use Rattle.cells.proofs.Masks.{low_in, low_out, high_in, high_out, low_fits, high_fits}

-- no cell of word w that the mask names is used
abbrev NoneUsed : List ℕ → ℕ → ℕ → Type 0
NoneUsed m w mask = (j : ℕ) → j < 64 → bit mask j ≡ 1 → bit (get_or m w 0) j ≡ 0

says_word : (m : List ℕ) (w mask : ℕ) → IsMap m → mask < 2 ^ 64 → Says (free_word m w mask) (NoneUsed m w mask)
says_word m w mask h k = says_as met none (says_eq (bit_and (get_or m w 0) mask) 0)
  where
    met : bit_and (get_or m w 0) mask ≡ 0 → NoneUsed m w mask
    met e j p b =
        let z : bit (bit_and (get_or m w 0) mask) j ≡ 0 = ap (λ (x : ℕ). bit x j) e ∙ no_bit j in
        omega (arith, bit_and_lem (get_or m w 0) mask j)

    none : NoneUsed m w mask → bit_and (get_or m w 0) mask ≡ 0
    none f =
        bits_ext 64 (bit_and (get_or m w 0) mask) 0 (and_lt 64 (get_or m w 0) mask (h.words w) k) (pow_pos 64)
        (λ j p.
        ⊎_elim (λ (b : bit mask j ≡ 1). omega (arith, f j p b, bit_and_lem (get_or m w 0) mask j, no_bit j))
        (λ (b : bit mask j ≡ 1 → ⊥). omega (arith, bit_and_lem (get_or m w 0) mask j, bit_lt mask j, no_bit j)) (same_or_not (bit mask j) 1))

-- cell j of word w, in the run or outside it
outside : (m : List ℕ) (c n w mask j : ℕ) → ((x : ℕ) → c ≤ x → x < c + n → used m x ≡ 0) → j < 64
    → ((64 * w + j < c) ⊎ (c + n ≤ 64 * w + j) → bit mask j ≡ 0) → bit mask j ≡ 1 → bit (get_or m w 0) j ≡ 0
outside m c n w mask j f p out b =
    ⊎_elim (λ q. absurd (omega (arith, out (inl q))))
    (λ q.
    ⊎_elim (λ r. sym (used_at m w j p) ∙ f (64 * w + j) q r) (λ r. absurd (omega (arith, out (inr r)))) (order (64 * w + j) (c + n)))
    (order (64 * w + j) c)

-- THE LAW: the two words' tests are the test of the cells
pub free_by_masks : (m : List ℕ) (c n : ℕ) → IsMap m → n < 64
    → (free_word m (c / 64) (low_mask (c % 64) n) and free_word m (c / 64 + 1) (high_mask (c % 64) n)) ≡ free_cells m c n
unfolding used
free_by_masks m c n h k =
    says_same
    (says_as free_run words
    (says_and (says_word m (c / 64) (low_mask (c % 64) n) h (low_fits (c % 64) n))
    (says_word m (c / 64 + 1) (high_mask (c % 64) n) h (high_fits (c % 64) n k))))
    (record { holds = free_cells_lem m c n; test = cells_free m c n })
  where
    free_run : NoneUsed m (c / 64) (low_mask (c % 64) n) × NoneUsed m (c / 64 + 1) (high_mask (c % 64) n)
        → (x : ℕ) → c ≤ x → x < c + n → used m x ≡ 0
    free_run t x p q =
        ⊎_elim
        (λ (e : x / 64 ≡ c / 64).
        ap (λ (i : ℕ). bit (get_or m i 0) (x % 64)) e
        ∙ t.0 (x % 64) (omega arith) (low_in (c % 64) n (x % 64) (omega arith) (omega arith) (omega arith)))
        (λ (ne : x / 64 ≡ c / 64 → ⊥).
        let e : x / 64 ≡ c / 64 + 1 = omega arith in
        ap (λ (i : ℕ). bit (get_or m i 0) (x % 64)) e
        ∙ t.1 (x % 64) (omega arith) (high_in (c % 64) n (x % 64) (omega arith) (omega arith)))
        (same_or_not (x / 64) (c / 64))

    words : ((x : ℕ) → c ≤ x → x < c + n → used m x ≡ 0)
        → NoneUsed m (c / 64) (low_mask (c % 64) n) × NoneUsed m (c / 64 + 1) (high_mask (c % 64) n)
    words f = (
      λ j p.
          outside m c n (c / 64) (low_mask (c % 64) n) j f p
          (λ o. low_out (c % 64) n j p (⊎_elim (λ q. inl (omega arith)) (λ q. inr (omega arith)) o)),
      λ j p.
          outside m c n (c / 64 + 1) (high_mask (c % 64) n) j f p
          (λ o. high_out (c % 64) n j (omega arith) (⊎_elim (λ q. omega arith) (λ q. omega arith) o)),
    )
