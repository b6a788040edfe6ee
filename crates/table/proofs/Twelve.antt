-- A table's words, twelve at a time: behind the words of one row everything is as it was without them, one row further.
-- Assumes nothing.
use mathlib.Core.Path.{◌≡◌, ap, ◌∙◌}
use mathlib.Core.List.{List, [], ◌∷◌, ◌++◌}
use Prim.Native.Nat.{ℕ, zero, suc, ◌+◌, ◌*◌, ◌≤◌}
use native.Mathlib.Nat.{add-zero, add-suc, suc-add}
use native.Mathlib.Omega.{arith}
use lib.Dec.{leb-suc-suc}
use lib.ListN.{length, get_or, drop, length-drop}
use lib.Seq.{drop-cons}
use Rattle.model.specs.declared.Row.{Row}
use Rattle.table.specs.Words.{row_words, whole, row_in, is_row, list_from}

-- the words w 0 to w 11, and the place twelve words on
abbrev pub twelve : (ℕ → ℕ) → List ℕ
twelve w = w 0 ∷ w 1 ∷ w 2 ∷ w 3 ∷ w 4 ∷ w 5 ∷ w 6 ∷ w 7 ∷ w 8 ∷ w 9 ∷ w 10 ∷ w 11 ∷ []

abbrev pub past : ℕ → ℕ
past k = suc (suc (suc (suc (suc (suc (suc (suc (suc (suc (suc (suc k)))))))))))

-- word j of a row
abbrev pub word_of : Row → ℕ → ℕ
word_of x j = get_or (row_words x) j 0

pub next_row : (i : ℕ) → 12 * suc i ≡ past (12 * i)
next_row i = omega arith

pub next_place : (k j : ℕ) → past k + j ≡ past (k + j)
next_place k j = omega arith

-- words that number twelve times n are n times twelve
pub data InRows : ℕ → List ℕ → Type 0 where
  none : InRows 0 []
  more : {n : ℕ} {t : List ℕ} (w : ℕ → ℕ) → InRows n t → InRows (suc n) (twelve w ++ t)

split : (n j : ℕ) (t : List ℕ) → j + n ≤ length t → drop j t ≡ list_from (λ i. get_or t i 0) j n ++ drop (j + n) t
unfolding list_from
split zero j t h = rw add-zero
split (suc n) j t h =
    drop-cons t j 0 (omega arith)
    ∙ rw add-suc (ap (λ l. get_or t j 0 ∷ l) (rw suc-add at (split n (suc j) t (omega arith))))

first_twelve : (t : List ℕ) → 12 ≤ length t → t ≡ twelve (λ i. get_or t i 0) ++ drop 12 t
unfolding list_from
first_twelve t h = split 12 0 t h

pub in_rows : (n : ℕ) (t : List ℕ) → length t ≡ 12 * n → InRows n t
in_rows zero [] e = none
in_rows zero (x ∷ t) e = absurd (omega arith)
in_rows (suc n) t e =
    rw (first_twelve t (omega arith))
    (more (λ i. get_or t i 0) (in_rows n (drop 12 t) (length-drop 12 t ∙ omega arith)))

-- reading one row further
pub whole_past : (w : ℕ → ℕ) (t : List ℕ) (k : ℕ) → whole (twelve w ++ t) (past k) ≡ whole t k
whole_past w t k = rw next_place (simp leb-suc-suc)

pub row_in_past : (w : ℕ → ℕ) (t : List ℕ) (k : ℕ) → row_in (twelve w ++ t) (past k) ≡ row_in t k
unfolding row_in
row_in_past w t k = rw (whole_past w t k) (simp next_place)

pub is_row_past : (w : ℕ → ℕ) (t : List ℕ) (k : ℕ) → is_row (twelve w ++ t) (past k) ≡ is_row t k
unfolding is_row
is_row_past w t k = rw (whole_past w t k) (simp next_place)
