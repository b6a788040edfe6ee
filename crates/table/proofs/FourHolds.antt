-- Each row of a table has "four holds": kept by every change of the table, and had by every table that is read from words.
-- Assumes nothing.
use mathlib.Core.Path.{refl}
use mathlib.Core.List.{List, [], ◌∷◌}
use Prim.Native.Nat.{ℕ, zero, suc, ◌*◌}
use lib.Dec.{eqb}
use lib.ListN.{length, get_or, set, replicate, get_or-map}
use Rattle.model.specs.declared.Row.{Row}
use Rattle.model.specs.Rows.{FourHolds, fresh_row, cleared, clear_marks}
use Rattle.model.proofs.Choice.{by_test}
use Rattle.model.specs.Choice.{All}
use Rattle.model.proofs.Says.{all_get, all_replicate}
use Rattle.table.specs.Words.{whole, row_in, is_row, row_at, list_from, rows_of}

pub record RowsOfFour (table : List Row) : Type 0 where
  pub four : (i : ℕ) → FourHolds (get_or table i fresh_row)

-- the same as the model's `All`
pub four_of_all : {table : List Row} → All FourHolds table → RowsOfFour table
four_of_all {table} h = record { four = λ i. all_get FourHolds table i h refl }

-- of the rows behind the first
pub four_tail : {x : Row} {table : List Row} → RowsOfFour (x ∷ table) → RowsOfFour table
four_tail h = record { four = λ i. h.four (suc i) }

set_four : (table : List Row) (i : ℕ) (r : Row) → RowsOfFour table → FourHolds r → (j : ℕ) → FourHolds (get_or (set table i r) j fresh_row)
set_four [] i r h e j = refl
set_four (x ∷ table) zero r h e zero = e
set_four (x ∷ table) zero r h e (suc j) = h.four (suc j)
set_four (x ∷ table) (suc i) r h e zero = h.four 0
set_four (x ∷ table) (suc i) r h e (suc j) = set_four table i r (four_tail h) e j

pub four_after_set : {table : List Row} (i : ℕ) (r : Row) → RowsOfFour table → FourHolds r → RowsOfFour (set table i r)
four_after_set {table} i r h e = record { four = set_four table i r h e }

pub four_after_clear : {table : List Row} → RowsOfFour table → RowsOfFour (clear_marks table)
four_after_clear {table} h = record { four = λ i. rw (get_or-map cleared table i fresh_row) (h.four i) }

pub four_fresh : (n : ℕ) → RowsOfFour (replicate n fresh_row)
four_fresh n = four_of_all (all_replicate FourHolds n fresh_row refl)

-- a row read from words
pub four_read : (t : List ℕ) (k : ℕ) → FourHolds (row_in t k)
unfolding row_in
four_read t k = by_test FourHolds (whole t k) (λ e. refl) (λ e. refl)

pub four_at : (t : List ℕ) (i : ℕ) → FourHolds (row_at t i)
unfolding row_at
four_at t i = by_test FourHolds (is_row t (12 * i)) (λ e. four_read t (12 * i)) (λ e. refl)

list_four : (f : ℕ → Row) → ((i : ℕ) → FourHolds (f i)) → (i n j : ℕ) → FourHolds (get_or (list_from f i n) j fresh_row)
unfolding list_from
list_four f h i zero j = refl
list_four f h i (suc n) zero = h i
list_four f h i (suc n) (suc j) = list_four f h (suc i) n j

pub four_rows_of : (t : List ℕ) → RowsOfFour (rows_of t)
unfolding rows_of
four_rows_of t =
    by_test RowsOfFour (eqb (length t) 96) (λ e. record { four = list_four (row_at t) (four_at t) 0 8 }) (λ e. record { four = λ i. refl })
