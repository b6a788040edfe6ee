-- The words of eight rows, stored row by row, and the rows read back from them.
-- Assumes nothing.
use mathlib.Core.Path.{◌≡◌, refl, sym, ap, ◌∙◌}
use mathlib.Core.Bool.{false, true}
use mathlib.Core.List.{List, [], ◌∷◌, ◌++◌}
use Prim.Native.Nat.{ℕ, zero, suc, ◌+◌, ◌<◌}
use native.Mathlib.Numerals.{add-one}
use native.Mathlib.Omega.{arith}
use lib.ListN.{length, get_or, set, take, drop, replicate}
use borrow.Author.Count.{below_more}
use Rattle.std.proofs.lemmas.List.{get_or_default}
use Rattle.model.specs.declared.Row.{Row}
use Rattle.model.specs.declared.Phase.TheVariants.{Resting}
use Rattle.model.specs.Rows.{FourHolds, fresh_row}
use Rattle.model.specs.declared.Answer.{Answer}
use Rattle.model.proofs.Choice.{by_test}
use Rattle.table.specs.Words.{table_words, put_row, rows_read}
use Rattle.table.proofs.FourHolds.{RowsOfFour}
use Rattle.table.proofs.Rows.{put_row_lem, rows_read_lem}
use Rattle.archive.specs.Does.{is_refused, words_after}

-- ninety-six zeros are the words of eight rows of zeros
abbrev pub zero_row : Row
zero_row = record { attached = false; passed = false; holds = 0 ∷ 0 ∷ 0 ∷ 0 ∷ []; swaps = 0; phase = Resting }

-- the first n of the rows, over rows of zeros
abbrev pub first_rows : List Row → ℕ → List Row
first_rows rows n = take n rows ++ drop n (replicate 8 zero_row)

-- each of which has four holds
pub record FourBelow (rows : List Row) (n : ℕ) : Type 0 where
  pub four : (k : ℕ) → k < n → FourHolds (get_or rows k fresh_row)

pub no_rows : (rows : List Row) → (replicate 96 0 ≡ table_words (first_rows rows 0)) × FourBelow rows 0
unfolding table_words
no_rows rows = (refl, record { four = λ k p. absurd (omega arith) })

next_row : (xs zs : List Row) (i : ℕ) (d : Row) → i < length xs → length xs ≡ length zs
    → set (take i xs ++ drop i zs) i (get_or xs i d) ≡ take (suc i) xs ++ drop (suc i) zs
next_row [] zs i d p e = absurd (omega arith)
next_row (x ∷ xs) [] i d p e = absurd (omega arith)
next_row (x ∷ xs) (z ∷ zs) zero d p e = refl
next_row (x ∷ xs) (z ∷ zs) (suc i) d p e = ap (λ l. x ∷ l) (next_row xs zs i d (omega arith) (omega arith))

pub one_row : (rows : List Row) (i : ℕ) (d : Row) {t u : List ℕ} → length rows ≡ 8 → i < 8 → (t ≡ table_words (first_rows rows i)) × FourBelow rows i
    → u ≡ put_row t i (get_or rows i d) → FourHolds (get_or rows i d) → (u ≡ table_words (first_rows rows (i + 1))) × FourBelow rows (i + 1)
one_row rows i d e p h q f =
    let same = get_or_default rows i d fresh_row (omega arith) in (
      q ∙ rw (h.0, add-one) (put_row_lem (first_rows rows i) i (get_or rows i d) ∙ ap table_words (next_row rows (replicate 8 zero_row) i d (omega arith) e)),
      record { four = below_more (λ k. FourHolds (get_or rows k fresh_row)) i h.1.four (rw same at f) },
    )

-- what a call leaves in the words of eight rows is read as the rows that it leaves
pub read_after : (l : List Row) → length l ≡ 8 → RowsOfFour l → (x : Answer) (next : List Row) → length next ≡ 8 → RowsOfFour next
    → (is_refused x ≡ true → next ≡ l) → {t : List ℕ} → t ≡ words_after (table_words l) x next → rows_read t ≡ next
unfolding words_after
read_after l n h x next m k same e =
    rw e
    (by_test (λ (w : List ℕ). rows_read w ≡ next) (is_refused x) (λ r. rows_read_lem l n h ∙ sym (same r)) (λ _. rows_read_lem next m k))
