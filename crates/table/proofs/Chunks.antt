-- The twelve words of row i: where they lie whole in the table they are a chunk of it, and what is read of them is what the table has there.
-- Assumes nothing.
use Rattle.std.proofs.Common.{◌≡◌, refl, sym, ap, ◌∙◌, ℕ, zero, suc, ◌+◌, ◌*◌, ◌/◌, ◌<◌, List, Bool, true, false, length, get_or, take, drop, arith}
use Rattle.std.proofs.Common.{Bor, Option, Some, None}
use Rattle.std.specs.Option.{MatchOption, option_copied}
use Rattle.std.specs.Slice.{IsItemAt}
use Rattle.std.specs.Simd.{first_chunks}
use Rattle.std.proofs.lemmas.List.{get_or-take, get_or-drop, drop-drop}
use Rattle.std.proofs.lemmas.Option.{none-some, same_Some}
use lib.ListN.{length-take, length-drop}
use borrow.Author.Tests.{lt-ltb, le-ltb, ltb-true}
use Rattle.model.specs.declared.Row.{Row}
use Rattle.model.proofs.Choice.{by_test}
use Rattle.table.specs.Words.{whole, words_at, no_row, phase_in, row_in, is_row}

pub chunk_at : (n k i : ℕ) (t : List ℕ) (d : List ℕ) → i < k → get_or (first_chunks n k t) i d ≡ take n (drop (n * i) t)
chunk_at n zero i t d h = absurd (omega arith)
chunk_at n (suc k) zero t d h = let e : n * 0 ≡ 0 = omega arith in rw e
chunk_at n (suc k) (suc i) t d h =
    let e : n + n * i ≡ n * suc i = omega arith in
    chunk_at n k i (drop n t) d (omega arith) ∙ ap (take n) (drop-drop (n * i) n t ∙ ap (λ (j : ℕ). drop j t) e)

pub chunk_lent : (t : List ℕ) (i : ℕ) (rows : List (List ℕ)) (r : Option (Bor (List ℕ)))
    → rows ≡ first_chunks 12 (length t / 12) t → length rows ≡ length t / 12 → IsItemAt rows i r → option_copied r ≡ words_at t i
unfolding words_at
chunk_lent t i rows None e n h = rw (le-ltb (12 * i + 11) (length t) (omega (arith, h.3, n)))
chunk_lent t i rows (Some x) e n h =
    let p : i < length t / 12 = omega (arith, h.3.0, n) in
    rw (lt-ltb (12 * i + 11) (length t) (omega arith))
    (ap Some (h.3.1 x.now ∙ ap (λ (l : List (List ℕ)). get_or l i x.now) e ∙ chunk_at 12 (length t / 12) i t x.now p))

-- the words of a chunk
pub word_in : (n : ℕ) (t : List ℕ) (k j : ℕ) → j < n → get_or (take n (drop k t)) j 0 ≡ get_or t (k + j) 0
word_in n t k j h = get_or-take n (drop k t) j 0 h ∙ get_or-drop k t j 0

pub first_in : (n : ℕ) (t : List ℕ) (k : ℕ) → 0 < n → get_or (take n (drop k t)) 0 0 ≡ get_or t k 0
first_in n t k h = let e : k + 0 ≡ k = omega arith in word_in n t k 0 h ∙ rw e

-- the twelve words from k on
module _ (t : List ℕ) (k : ℕ) where
  first : get_or (take 12 (drop k t)) 0 0 ≡ get_or t k 0
  first = first_in 12 t k (omega arith)

  there : (j : ℕ) → j < 12 → get_or (take 12 (drop k t)) j 0 ≡ get_or t (k + j) 0
  there = word_in 12 t k

  whole_in : whole t k ≡ true → whole (take 12 (drop k t)) 0 ≡ true
  whole_in e =
      let h : k + 11 < length t = ltb-true (k + 11) (length t) e in
      lt-ltb 11 (length (take 12 (drop k t))) (omega (arith, length-take 12 (drop k t), length-drop k t))

  phase_there : phase_in (take 12 (drop k t)) 0 ≡ phase_in t k
  phase_there =
      rw (there 7 (omega arith), there 8 (omega arith), there 9 (omega arith), there 10 (omega arith), there 11 (omega arith))

  row_there : whole t k ≡ true → row_in (take 12 (drop k t)) 0 ≡ row_in t k
  unfolding row_in
  row_there e =
      rw (
        e,
        whole_in e,
        first,
        there 1 (omega arith),
        there 2 (omega arith),
        there 3 (omega arith),
        there 4 (omega arith),
        there 5 (omega arith),
        there 6 (omega arith),
        phase_there,
      )

  is_row_there : whole t k ≡ true → is_row (take 12 (drop k t)) 0 ≡ is_row t k
  unfolding is_row
  is_row_there e = rw (e, whole_in e, first, there 1 (omega arith), phase_there)

-- what an answer to words_at says of row i
module _ (t : List ℕ) (i : ℕ) where
  row_of_words : (w : List ℕ) → Some w ≡ words_at t i → (row_in w 0 ≡ row_in t (12 * i)) × (is_row w 0 ≡ is_row t (12 * i))
  unfolding words_at
  row_of_words w =
      by_test (λ (o : Option (List ℕ)). Some w ≡ o → (row_in w 0 ≡ row_in t (12 * i)) × (is_row w 0 ≡ is_row t (12 * i))) (whole t (12 * i))
      (λ e q. let s : w ≡ take 12 (drop (12 * i) t) = same_Some _ _ q in rw s (row_there t (12 * i) e, is_row_there t (12 * i) e))
      (λ e q. absurd (none-some w (sym q)))

  row_of_none : None ≡ words_at t i → (row_in t (12 * i) ≡ no_row) × (is_row t (12 * i) ≡ false)
  unfolding words_at row_in is_row
  row_of_none =
      by_test (λ (o : Option (List ℕ)). None ≡ o → (row_in t (12 * i) ≡ no_row) × (is_row t (12 * i) ≡ false)) (whole t (12 * i))
      (λ e q. absurd (none-some _ q))
      (λ e q. rw e (refl, refl))

  pub row_lent : (o : Option (Bor (List ℕ))) (r : Row) → option_copied o ≡ words_at t i → MatchOption o (r ≡ no_row) (λ x. r ≡ row_in x.now 0)
      → r ≡ row_in t (12 * i)
  row_lent None r e h = h ∙ sym (row_of_none e).0
  row_lent (Some x) r e h = h ∙ (row_of_words x.now e).0

  pub is_row_lent : (o : Option (Bor (List ℕ))) (b : Bool) → option_copied o ≡ words_at t i
      → MatchOption o (b ≡ false) (λ x. b ≡ is_row x.now 0) → b ≡ is_row t (12 * i)
  is_row_lent None b e h = h ∙ sym (row_of_none e).1
  is_row_lent (Some x) b e h = h ∙ (row_of_words x.now e).1
