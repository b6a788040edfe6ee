-- Loops over the eight rows: the words after i rows are one row from those after i + 1, and the rows from i on are row i and those from
-- i + 1 on. Assumes nothing.
use Rattle.std.proofs.Common.{◌≡◌, refl, ap, ◌∙◌, ℕ, zero, suc, ◌+◌, ◌-◌, ◌<◌, List, ◌∷◌, Bool, true, false, add-one, arith}
use mathlib.Core.Bool.{◌&&◌, ◌||◌}
use Rattle.std.specs.List.{list_all, list_any, range_with_len, sum_by}
use Rattle.std.proofs.lemmas.List.Sums.{sum_by-cons}
use Rattle.model.specs.declared.Row.{Row}
use Rattle.model.specs.Choice.{◌and◌, ◌or◌, all, any, total}
use Rattle.table.specs.Words.{each_row, list_from}

pub each_none : (f : List ℕ → ℕ → List ℕ) (t : List ℕ) → each_row f t 0 ≡ t
unfolding each_row
each_none f t = refl

pub each_more : (f : List ℕ → ℕ → List ℕ) (t : List ℕ) (i : ℕ) → each_row f t (i + 1) ≡ f (each_row f t i) i
unfolding each_row
each_more f t i = rw add-one

pub list_next : {A : Type 0} (f : ℕ → A) (n i : ℕ) → i < n → list_from f i (n - i) ≡ f i ∷ list_from f (i + 1) (n - (i + 1))
unfolding list_from
list_next f n i h =
    let e : n - i ≡ suc (n - (i + 1)) = omega arith in
    rw e (rw (add-one i))

-- Of the rows from i on, asked number by number
module _ (f : ℕ → Row) where
  pub all_asked : (p : Row → Bool) (i n : ℕ) → list_all (λ j. p (f j)) (range_with_len i n) ≡ all p (list_from f i n)
  unfolding list_from
  all_asked p i zero = refl
  all_asked p i (suc n) = rw (add-one i) (by (p (f i)) (all_asked p (suc i) n))
    where
      by : (b : Bool) {x y : Bool} → x ≡ y → (b && x) ≡ (b and y)
      by true e = e
      by false e = refl

  pub any_asked : (p : Row → Bool) (i n : ℕ) → list_any (λ j. p (f j)) (range_with_len i n) ≡ any p (list_from f i n)
  unfolding list_from
  any_asked p i zero = refl
  any_asked p i (suc n) = rw (add-one i) (by (p (f i)) (any_asked p (suc i) n))
    where
      by : (b : Bool) {x y : Bool} → x ≡ y → (b || x) ≡ (b or y)
      by true e = refl
      by false e = e

  pub sum_asked : (g : Row → ℕ) (i n : ℕ) → sum_by (λ j. g (f j)) (range_with_len i n) ≡ total g (list_from f i n)
  unfolding list_from
  sum_asked g i zero = refl
  sum_asked g i (suc n) = sum_by-cons (λ j. g (f j)) i (range_with_len (i + 1) n) ∙ rw (add-one i) (ap (λ (m : ℕ). g (f i) + m) (sum_asked g (suc i) n))
