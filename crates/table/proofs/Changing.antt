-- A change of row i's words that makes of a row's words those of another row, and leaves the words before it alone, is on a table's words
-- the change of row i. Assumes nothing.
use mathlib.Core.Path.{◌≡◌, refl, ap, ◌∙◌}
use mathlib.Core.Bool.{Bool, true, false, not}
use mathlib.Core.List.{List, [], ◌∷◌, ◌++◌, map}
use Prim.Native.Nat.{ℕ, zero, suc, ◌+◌, ◌*◌, ◌<◌}
use native.Mathlib.Omega.{arith}
use lib.Dec.{eqb}
use lib.ListN.{length, get_or, set, replicate}
use borrow.Author.Tests.{lt-ltb, le-ltb}
use Rattle.model.specs.declared.Phase.{Phase}
use Rattle.model.specs.declared.Row.{Row}
use Rattle.model.specs.Choice.{pick, one}
use Rattle.model.specs.Arena.{laid}
use Rattle.model.specs.Rows.{with_swaps, with_phase, fresh_row, cleared}
use Rattle.model.proofs.Records.{laid_none}
use Rattle.table.specs.Words.{row_words, table_words, whole, listed, phase_words, put_row, put_phase, put_swaps, each_row, clear_mark}
use Rattle.table.specs.Words.{freshen}
use Rattle.table.proofs.Twelve.{twelve, word_of, next_row, next_place, whole_past, InRows, none, more}

pub record Changer (f : List ℕ → ℕ → List ℕ) (g : Row → Row) : Type 0 where
  pub nothing : (i : ℕ) → f [] i ≡ []
  pub first : (x : Row) (t : List ℕ) → f (row_words x ++ t) 0 ≡ row_words (g x) ++ t
  pub later : (w : ℕ → ℕ) (t : List ℕ) (i : ℕ) → f (twelve w ++ t) (suc i) ≡ twelve w ++ f t i

pub change_row : {f : List ℕ → ℕ → List ℕ} {g : Row → Row} → Changer f g → (table : List Row) (i : ℕ)
    → f (table_words table) i ≡ table_words (set table i (g (get_or table i fresh_row)))
unfolding table_words
change_row m [] i = m.nothing i
change_row m (x ∷ table) zero = m.first x (table_words table)
change_row m (x ∷ table) (suc i) = m.later (word_of x) (table_words table) i ∙ ap (λ t. row_words x ++ t) (change_row m table i)

-- one change after the other
pub and_then : {f e : List ℕ → ℕ → List ℕ} {g h : Row → Row} → Changer f g → Changer e h → Changer (λ t i. e (f t i) i) (λ x. h (g x))
and_then {f} {e} {g} m n =
    record {
      nothing = λ i. ap (λ t. e t i) (m.nothing i) ∙ n.nothing i;
      first = λ x t. ap (λ l. e l 0) (m.first x t) ∙ n.first (g x) t;
      later = λ w t i. ap (λ l. e l (suc i)) (m.later w t i) ∙ n.later w (f t i) i;
    }

-- each row changed: the first, and then the others behind it
each_later : (f : List ℕ → ℕ → List ℕ) (w v : ℕ → ℕ) (t : List ℕ)
    → ((w : ℕ → ℕ) (t : List ℕ) (i : ℕ) → f (twelve w ++ t) (suc i) ≡ twelve w ++ f t i) → f (twelve w ++ t) 0 ≡ twelve v ++ t
    → (n : ℕ) → each_row f (twelve w ++ t) (suc n) ≡ twelve v ++ each_row f t n
unfolding each_row
each_later f w v t h e zero = e
each_later f w v t h e (suc n) = ap (λ l. f l (suc n)) (each_later f w v t h e n) ∙ h v (each_row f t n) n

pub change_rows : {f : List ℕ → ℕ → List ℕ} {g : Row → Row} → Changer f g → (table : List Row)
    → each_row f (table_words table) (length table) ≡ table_words (map g table)
unfolding table_words each_row
change_rows m [] = refl
change_rows {f} {g} m (x ∷ table) =
    each_later f (word_of x) (word_of (g x)) (table_words table) m.later (m.first x (table_words table)) (length table)
    ∙ ap (λ t. row_words (g x) ++ t) (change_rows m table)

-- a store of a whole row, or of its phase: none past the end, behind other words the same store further on
pick_past : (w : ℕ → ℕ) (b : Bool) (s t : List ℕ) → pick b (twelve w ++ s) (twelve w ++ t) ≡ twelve w ++ pick b s t
pick_past w true s t = refl
pick_past w false s t = refl

row_first : (w : ℕ → ℕ) (t : List ℕ) (r : Row) → put_row (twelve w ++ t) 0 r ≡ row_words r ++ t
unfolding put_row laid
row_first w t r =
    let h : 11 < length (twelve w ++ t) = omega arith in
    rw (lt-ltb _ _ h, laid_none t 0)

row_later : (r : Row) (w : ℕ → ℕ) (t : List ℕ) (i : ℕ) → put_row (twelve w ++ t) (suc i) r ≡ twelve w ++ put_row t i r
unfolding put_row laid
row_later r w t i = rw (next_row i, whole_past w t (12 * i)) (pick_past w (whole t (12 * i)) (laid t (12 * i) (row_words r)) t)

pub puts_row : (r : Row) → Changer (λ t i. put_row t i r) (λ x. r)
unfolding put_row
puts_row r =
    record {
      nothing = λ i. rw (le-ltb (12 * i + 11) 0 (omega arith));
      first = λ x t. row_first (word_of x) t r;
      later = row_later r;
    }

phase_first : (p : Phase) (x : Row) (t : List ℕ) → put_phase (row_words x ++ t) 0 p ≡ row_words (with_phase x p) ++ t
unfolding put_phase laid
phase_first p x t =
    let h : 11 < length (row_words x ++ t) = omega arith in
    rw (lt-ltb _ _ h, laid_none t 0)

phase_later : (p : Phase) (w : ℕ → ℕ) (t : List ℕ) (i : ℕ) → put_phase (twelve w ++ t) (suc i) p ≡ twelve w ++ put_phase t i p
unfolding put_phase laid
phase_later p w t i =
    rw (next_row i, whole_past w t (12 * i), next_place (12 * i) 7)
    (pick_past w (whole t (12 * i)) (laid t (12 * i + 7) (listed (phase_words p))) t)

pub puts_phase : (p : Phase) → Changer (λ t i. put_phase t i p) (λ x. with_phase x p)
unfolding put_phase
puts_phase p =
    record {
      nothing = λ i. rw (le-ltb (12 * i + 11) 0 (omega arith));
      first = phase_first p;
      later = phase_later p;
    }

pub puts_swaps : (n : ℕ) → Changer (λ t i. put_swaps t i n) (λ x. with_swaps x n)
unfolding put_swaps
puts_swaps n =
    record {
      nothing = λ i. refl;
      first = λ x t. refl;
      later = λ w t i. rw (next_row i, next_place (12 * i) 6);
    }

other_mark : (b : Bool) → one (eqb (one b) 0) ≡ one (not b)
other_mark true = refl
other_mark false = refl

pub clears : Changer clear_mark cleared
unfolding clear_mark
clears =
    record {
      nothing = λ i. refl;
      first = λ x t. rw (other_mark x.attached);
      later = λ w t i. rw (next_row i, next_place (12 * i) 1);
    }

-- whatever the words were
pub freshened : {n : ℕ} {t : List ℕ} → InRows n t → each_row freshen t n ≡ table_words (replicate n fresh_row)
unfolding table_words each_row
freshened none = refl
freshened (more {n} {t} w r) =
    each_later freshen w (word_of fresh_row) t (row_later fresh_row) (row_first w t fresh_row) n
    ∙ ap (λ l. row_words fresh_row ++ l) (freshened r)
