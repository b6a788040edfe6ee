-- What callers cite: on the words of rows the table's functions are the model's, and the words of a sound table are those of its rows.
-- Assumes nothing.
use mathlib.Core.Path.{◌≡◌, refl, ap}
use mathlib.Core.Bool.{Bool, true, false}
use mathlib.Core.List.{List, [], ◌∷◌}
use Prim.Native.Nat.{ℕ, zero, suc, ◌+◌, ◌*◌, ◌<◌}
use native.Mathlib.Nat.{zero-add, add-zero, add-suc, suc-add}
use native.Mathlib.Omega.{arith}
use lib.ListN.{length, get_or, set, replicate}
use borrow.Author.Tests.{eq-eqb, ne_eqb}
use Rattle.model.specs.declared.Move.{Move}
use Rattle.model.specs.declared.Phase.{Phase}
use Rattle.model.specs.declared.Row.{Row}
use Rattle.model.specs.Choice.{pick, all}
use Rattle.model.specs.Rows.{with_swaps, with_phase, fresh_row, clear_marks}
use Rattle.model.specs.Rules.{detached_right, row_right, R6}
use Rattle.model.proofs.Choice.{clash, and_parts}
use Rattle.table.specs.Words.{table_words, no_row, row_in, is_row, row_at, list_from, rows_of, rows_read}
use Rattle.table.specs.Words.{put_row, put_phase, put_swaps, each_row, clear_mark, freshen}
use Rattle.table.proofs.Twelve.{in_rows}
use Rattle.table.proofs.FourHolds.{RowsOfFour}
use Rattle.table.proofs.Reading.{reads, reads_checked, read_row, read_rows, words_of}
use Rattle.table.proofs.Changing.{change_row, change_rows, and_then, puts_row, puts_phase, puts_swaps, clears, freshened}

-- Sizes

pub length_words : (table : List Row) → length (table_words table) ≡ 12 * length table
unfolding table_words
length_words [] = refl
length_words (x ∷ table) = omega (arith, length_words table)

length_list : (f : ℕ → Row) (i n : ℕ) → length (list_from f i n) ≡ n
unfolding list_from
length_list f i zero = refl
length_list f i (suc n) = ap suc (length_list f (suc i) n)

pub length_rows : (t : List ℕ) → length t ≡ 96 → length (rows_of t) ≡ 8
unfolding rows_of
length_rows t e = rw (eq-eqb (length t) 96 e) (length_list (row_at t) 0 8)

-- any other size has no rows, which is refusal 1
pub no_rows : (t : List ℕ) → (length t ≡ 96 → ⊥) → rows_of t ≡ []
unfolding rows_of
no_rows t n = rw (ne_eqb (length t) 96 n)

-- Reading

pub row_read_lem : (table : List Row) → RowsOfFour table → (i : ℕ) → i < length table
    → row_in (table_words table) (12 * i) ≡ get_or table i fresh_row
row_read_lem = read_row reads

pub rows_read_lem : (table : List Row) → length table ≡ 8 → RowsOfFour table → rows_read (table_words table) ≡ table
rows_read_lem table e h = rw e at (read_rows reads table h)

pub rows_of_words : (table : List Row) → length table ≡ 8 → RowsOfFour table → rows_of (table_words table) ≡ table
unfolding rows_of
rows_of_words table e h =
    let n : length (table_words table) ≡ 96 = omega (arith, length_words table) in
    rw (eq-eqb (length (table_words table)) 96 n) (rw e at (read_rows reads_checked table h))

-- Changing

module _ (table : List Row) (i : ℕ) where
  pub put_row_lem : (r : Row) → put_row (table_words table) i r ≡ table_words (set table i r)
  put_row_lem r = change_row (puts_row r) table i

  pub put_phase_lem : (p : Phase) → put_phase (table_words table) i p ≡ table_words (set table i (with_phase (get_or table i fresh_row) p))
  put_phase_lem p = change_row (puts_phase p) table i

  -- GO stores swaps and phase
  pub put_swaps_phase : (n : ℕ) (p : Phase)
      → put_phase (put_swaps (table_words table) i n) i p ≡ table_words (set table i (with_phase (with_swaps (get_or table i fresh_row) n) p))
  put_swaps_phase n p = change_row (and_then (puts_swaps n) (puts_phase p)) table i

pub clear_marks_lem : (table : List Row) → length table ≡ 8 → each_row clear_mark (table_words table) 8 ≡ table_words (clear_marks table)
clear_marks_lem table e = rw e at (change_rows clears table)

pub fresh_rows : (t : List ℕ) → length t ≡ 96 → each_row freshen t 8 ≡ table_words (replicate 8 fresh_row)
fresh_rows t e = freshened (in_rows 8 t e)

-- One encoding

pub words_of_rows : (t : List ℕ) → length t ≡ 96 → ((i : ℕ) → i < 8 → is_row t (12 * i) ≡ true) → table_words (rows_of t) ≡ t
unfolding rows_of
words_of_rows t e h = rw (eq-eqb (length t) 96 e) (words_of (in_rows 8 t e) h)

all_from : (p : Row → Bool) (f : ℕ → Row) (i n : ℕ) → all p (list_from f i n) ≡ true → (j : ℕ) → j < n → p (f (i + j)) ≡ true
unfolding list_from
all_from p f i zero e j h = absurd (omega arith)
all_from p f i (suc n) e zero h = rw (add-zero i) (and_parts (p (f i)) (all p (list_from f (suc i) n)) e).0
all_from p f i (suc n) e (suc j) h =
    let rest = (and_parts (p (f i)) (all p (list_from f (suc i) n)) e).1 in
    rw (add-suc i j) (rw (suc-add i j) at (all_from p f (suc i) n rest j (omega arith)))

module _ (dir : List ℕ) (v : Move) (arena : List ℕ) where
  -- "Row bytes that mean no row .. break R6"
  no_row_breaks : row_right dir v arena no_row ≡ false
  unfolding row_right detached_right
  no_row_breaks = refl

  must_mean : (b : Bool) (r : Row) → row_right dir v arena (pick b r no_row) ≡ true → b ≡ true
  must_mean true r e = refl
  must_mean false r e = clash (row_right dir v arena no_row) e no_row_breaks

  pub sound_words : (t : List ℕ) → length t ≡ 96 → R6 dir v arena (rows_of t) ≡ true → table_words (rows_of t) ≡ t
  unfolding R6 rows_of row_at
  sound_words t e r =
      words_of_rows t e
      (λ i h. must_mean (is_row t (12 * i)) (row_in t (12 * i))
      (rw zero-add at (all_from (row_right dir v arena) (row_at t) 0 8 (rw (eq-eqb (length t) 96 e) at r) i h)))
