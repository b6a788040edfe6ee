-- A reader that gives a row from its words, and passes over the twelve words of another, gives each row of a table from the table's words.
-- Assumes nothing.
use mathlib.Core.Path.{◌≡◌, refl, ap, ◌∙◌}
use mathlib.Core.Bool.{true}
use mathlib.Core.List.{List, [], ◌∷◌, ◌++◌}
use Prim.Native.Nat.{ℕ, zero, suc, ◌*◌, ◌<◌}
use native.Mathlib.Omega.{arith}
use lib.ListN.{length, get_or}
use Rattle.model.specs.declared.Row.{Row}
use Rattle.model.specs.Rows.{FourHolds, fresh_row}
use Rattle.table.specs.Words.{row_words, table_words, is_row, row_at, row_read, list_from}
use Rattle.table.proofs.Twelve.{twelve, word_of, next_row, InRows, none, more, row_in_past, is_row_past}
use Rattle.table.proofs.Encoding.{row_first, is_row_first, words_first}
use Rattle.table.proofs.FourHolds.{RowsOfFour, four_tail}

pub record Reader (f : List ℕ → ℕ → Row) : Type 0 where
  pub first : (x : Row) (t : List ℕ) → FourHolds x → f (row_words x ++ t) 0 ≡ x
  pub later : (w : ℕ → ℕ) (t : List ℕ) (i : ℕ) → f (twelve w ++ t) (suc i) ≡ f t i

-- the steps' reader, and the audit's
pub reads : Reader row_read
reads = record { first = row_first; later = λ w t i. rw (next_row i) (row_in_past w t (12 * i)) }

at_later : (w : ℕ → ℕ) (t : List ℕ) (i : ℕ) → row_at (twelve w ++ t) (suc i) ≡ row_at t i
unfolding row_at
at_later w t i = rw (next_row i, is_row_past w t (12 * i), row_in_past w t (12 * i))

at_first : (x : Row) (t : List ℕ) → FourHolds x → row_at (row_words x ++ t) 0 ≡ x
unfolding row_at
at_first x t e = rw (is_row_first x t) (row_first x t e)

pub reads_checked : Reader row_at
reads_checked = record { first = at_first; later = at_later }

pub read_row : {f : List ℕ → ℕ → Row} → Reader f → (table : List Row) → RowsOfFour table → (i : ℕ) → i < length table
    → f (table_words table) i ≡ get_or table i fresh_row
unfolding table_words
read_row m [] h i p = absurd (omega arith)
read_row m (x ∷ table) h zero p = m.first x (table_words table) (h.four 0)
read_row m (x ∷ table) h (suc i) p = m.later (word_of x) (table_words table) i ∙ read_row m table (four_tail h) i (omega arith)

list_later : (f g : ℕ → Row) → ((i : ℕ) → f (suc i) ≡ g i) → (i n : ℕ) → list_from f (suc i) n ≡ list_from g i n
unfolding list_from
list_later f g h i zero = refl
list_later f g h i (suc n) = rw (h i) (ap (λ l. g i ∷ l) (list_later f g h (suc i) n))

pub read_rows : {f : List ℕ → ℕ → Row} → Reader f → (table : List Row) → RowsOfFour table
    → list_from (f (table_words table)) 0 (length table) ≡ table
unfolding table_words list_from
read_rows m [] h = refl
read_rows {f} m (x ∷ table) h =
    rw (m.first x (table_words table) (h.four 0))
    (ap (λ l. x ∷ l)
    (list_later (f (row_words x ++ table_words table)) (f (table_words table)) (m.later (word_of x) (table_words table)) 0 (length table)
    ∙ read_rows m table (four_tail h)))

at_words : (w : ℕ → ℕ) (t : List ℕ) → is_row (twelve w ++ t) 0 ≡ true → row_words (row_at (twelve w ++ t) 0) ≡ twelve w
unfolding row_at
at_words w t e = rw e (words_first w t e)

-- where each row's words mean a row, the table's words are those of its rows
pub words_of : {n : ℕ} {t : List ℕ} → InRows n t → ((i : ℕ) → i < n → is_row t (12 * i) ≡ true) → table_words (list_from (row_at t) 0 n) ≡ t
unfolding table_words list_from
words_of none h = refl
words_of (more {n} {t} w r) h =
    ap (λ l. l ++ table_words (list_from (row_at (twelve w ++ t)) 1 n)) (at_words w t (h 0 (omega arith)))
    ∙ ap (λ l. twelve w ++ l)
    (ap table_words (list_later (row_at (twelve w ++ t)) (row_at t) (at_later w t) 0 n)
    ∙ words_of r (λ i p. rw (next_row i, is_row_past w t (12 * i)) at (h (suc i) (omega arith))))
