-- A run is put by two masks, one in its first word and one in the next: cell by cell the map is the model's. Assumes nothing.
use mathlib.Core.Path.{◌≡◌, sym, ap, ◌∙◌}
use mathlib.Core.List.{List}
use mathlib.Core.Logic.{◌⊎◌, inl, inr, ⊎_elim}
use Prim.Native.Nat.{ℕ, ◌+◌, ◌/◌, ◌%◌, ◌^◌, ◌≤◌, ◌<◌}
use native.Mathlib.Omega.{arith}
use lib.ListN.{get_or}
use lib.Seq.{get_or-set_same, get_or-set_other}
use Rattle.model.specs.Arena.{bit, used, put_run, IsMap}
use Rattle.model.proofs.Choice.{order, same_or_not}
use Rattle.model.proofs.CellMap.{set_map, run_map, used_run, used_run_other, map_ext}
use Rattle.cells.specs.declared.Cell.{Cell}
use Rattle.cells.specs.declared.Cell.TheVariants.{Free, Used}
use Rattle.cells.specs.Words.{low_mask, high_mask, bit_of, masked, word_put}
use Rattle.cells.proofs.Masks.{low_in, low_out, high_in, high_out, low_fits, high_fits, masked_fits, masked_in, masked_out}

word_map : (m : List ℕ) (w mask : ℕ) (to : Cell) → IsMap m → mask < 2 ^ 64 → IsMap (word_put m w mask to)
word_map m w mask to h k = set_map m w (masked (get_or m w 0) mask to) h (masked_fits (get_or m w 0) mask to (h.words w) k)

-- a cell of that word that the mask names, one that it does not, and a cell of another word
word_in : (m : List ℕ) (w mask x : ℕ) (to : Cell) → IsMap m → mask < 2 ^ 64 → x < 1024 → x / 64 ≡ w → bit mask (x % 64) ≡ 1
    → used (word_put m w mask to) x ≡ bit_of to
unfolding used
word_in m w mask x to h k hx e b =
    ap (λ (i : ℕ). bit (get_or (word_put m w mask to) i 0) (x % 64)) e
    ∙ ap (λ (y : ℕ). bit y (x % 64)) (get_or-set_same m w (masked (get_or m w 0) mask to) 0 (omega (arith, h.sixteen)))
    ∙ masked_in (get_or m w 0) mask (x % 64) to k (omega arith) b

word_out : (m : List ℕ) (w mask x : ℕ) (to : Cell) → IsMap m → mask < 2 ^ 64 → x < 1024 → x / 64 ≡ w → bit mask (x % 64) ≡ 0
    → used (word_put m w mask to) x ≡ used m x
unfolding used
word_out m w mask x to h k hx e b =
    ap (λ (i : ℕ). bit (get_or (word_put m w mask to) i 0) (x % 64)) e
    ∙ ap (λ (y : ℕ). bit y (x % 64)) (get_or-set_same m w (masked (get_or m w 0) mask to) 0 (omega (arith, h.sixteen)))
    ∙ masked_out (get_or m w 0) mask (x % 64) to k (omega arith) b ∙ ap (λ (i : ℕ). bit (get_or m i 0) (x % 64)) (sym e)

word_other : (m : List ℕ) (w mask x : ℕ) (to : Cell) → (x / 64 ≡ w → ⊥) → used (word_put m w mask to) x ≡ used m x
unfolding used
word_other m w mask x to ne = ap (λ (y : ℕ). bit y (x % 64)) (get_or-set_other m w (x / 64) (masked (get_or m w 0) mask to) 0 ne)

-- the low mask in c's word, the high mask in the next
abbrev pub low_put : List ℕ → ℕ → ℕ → Cell → List ℕ
low_put m c n to = word_put m (c / 64) (low_mask (c % 64) n) to

abbrev pub both_put : List ℕ → ℕ → ℕ → Cell → List ℕ
both_put m c n to = word_put (low_put m c n to) (c / 64 + 1) (high_mask (c % 64) n) to

low_map : (m : List ℕ) (c n : ℕ) (to : Cell) → IsMap m → IsMap (low_put m c n to)
low_map m c n to h = word_map m (c / 64) (low_mask (c % 64) n) to h (low_fits (c % 64) n)

module _ (m : List ℕ) (c n x : ℕ) (to : Cell) (h : IsMap m) (k : n < 64) (hx : x < 1024) where
  both_in : c ≤ x → x < c + n → used (both_put m c n to) x ≡ bit_of to
  both_in p q = ⊎_elim same next (same_or_not (x / 64) (c / 64))
    where
      same : x / 64 ≡ c / 64 → used (both_put m c n to) x ≡ bit_of to
      same e =
          word_other (low_put m c n to) (c / 64 + 1) (high_mask (c % 64) n) x to (λ g. omega arith)
          ∙ word_in m (c / 64) (low_mask (c % 64) n) x to h (low_fits (c % 64) n) hx e
          (low_in (c % 64) n (x % 64) (omega arith) (omega arith) (omega arith))

      next : (x / 64 ≡ c / 64 → ⊥) → used (both_put m c n to) x ≡ bit_of to
      next ne =
          word_in (low_put m c n to) (c / 64 + 1) (high_mask (c % 64) n) x to (low_map m c n to h) (high_fits (c % 64) n k) hx (omega arith)
          (high_in (c % 64) n (x % 64) (omega arith) (omega arith))

  both_out : (x < c) ⊎ (c + n ≤ x) → used (both_put m c n to) x ≡ used m x
  both_out o = ⊎_elim same (λ ne. ⊎_elim next (other ne) (same_or_not (x / 64) (c / 64 + 1))) (same_or_not (x / 64) (c / 64))
    where
      same : x / 64 ≡ c / 64 → used (both_put m c n to) x ≡ used m x
      same e =
          word_other (low_put m c n to) (c / 64 + 1) (high_mask (c % 64) n) x to (λ g. omega arith)
          ∙ word_out m (c / 64) (low_mask (c % 64) n) x to h (low_fits (c % 64) n) hx e
          (low_out (c % 64) n (x % 64) (omega arith) (⊎_elim (λ p. inl (omega arith)) (λ p. inr (omega arith)) o))

      next : x / 64 ≡ c / 64 + 1 → used (both_put m c n to) x ≡ used m x
      next e =
          let q : c % 64 + n ≤ 64 + x % 64 = ⊎_elim (λ (p : x < c). omega arith) (λ (p : c + n ≤ x). omega arith) o in
          word_out (low_put m c n to) (c / 64 + 1) (high_mask (c % 64) n) x to (low_map m c n to h) (high_fits (c % 64) n k) hx e
          (high_out (c % 64) n (x % 64) (omega arith) q)
          ∙ word_other m (c / 64) (low_mask (c % 64) n) x to (λ g. omega arith)

      other : (x / 64 ≡ c / 64 → ⊥) → (x / 64 ≡ c / 64 + 1 → ⊥) → used (both_put m c n to) x ≡ used m x
      other ne me =
          word_other (low_put m c n to) (c / 64 + 1) (high_mask (c % 64) n) x to me ∙ word_other m (c / 64) (low_mask (c % 64) n) x to ne

bit_lt_two : (to : Cell) → bit_of to < 2
bit_lt_two Free = omega arith
bit_lt_two Used = omega arith

-- THE LAW: a run of fewer than 64 cells, put anywhere, is the two masks put
pub run_by_masks : (m : List ℕ) (c n : ℕ) (to : Cell) → IsMap m → n < 64 → put_run m c n (bit_of to) ≡ both_put m c n to
run_by_masks m c n to h k =
    map_ext (put_run m c n (bit_of to)) (both_put m c n to) (run_map m c n (bit_of to) h (bit_lt_two to))
    (word_map (low_put m c n to) (c / 64 + 1) (high_mask (c % 64) n) to (low_map m c n to h) (high_fits (c % 64) n k))
    (λ x hx. ⊎_elim (λ p. outside x hx (inl p)) (λ p. ⊎_elim (inside x hx p) (λ q. outside x hx (inr q)) (order x (c + n))) (order x c))
  where
    inside : (x : ℕ) → x < 1024 → c ≤ x → x < c + n → used (put_run m c n (bit_of to)) x ≡ used (both_put m c n to) x
    inside x hx p q = used_run m c n (bit_of to) x h (bit_lt_two to) p q hx ∙ sym (both_in m c n x to h k hx p q)

    outside : (x : ℕ) → x < 1024 → (x < c) ⊎ (c + n ≤ x) → used (put_run m c n (bit_of to)) x ≡ used (both_put m c n to) x
    outside x hx o = used_run_other m c n (bit_of to) x (bit_lt_two to) o ∙ sym (both_out m c n x to h k hx o)
