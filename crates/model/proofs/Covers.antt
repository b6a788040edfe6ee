-- R3 counts the blocks over a cell: laws of sums over a list, and of one block over one cell. Assumes nothing.
use mathlib.Core.Path.{◌≡◌, refl}
use mathlib.Core.Logic.{◌≢◌, ⊎_elim}
use mathlib.Core.List.{List, [], ◌∷◌}
use Prim.Native.Nat.{ℕ, zero, suc, ◌+◌, ◌≤◌, ◌<◌}
use native.Mathlib.Omega.{arith}
use lib.Dec.{T, leb, ltb, eqb}
use lib.ListN.{length, get_or}
use borrow.Author.Tests.{eqb-true, eqb-false, not-true, not-false}
use Rattle.model.specs.declared.Move.{Move}
use Rattle.model.specs.Choice.{◌and◌, total}
use Rattle.model.specs.Arena.{none, cells_at}
use Rattle.model.specs.declared.Stage.{Stage}
use Rattle.model.specs.declared.Stage.TheVariants.{NoMove, FirstBarrier, Copying, SecondBarrier, ThirdBarrier}
use Rattle.model.specs.State.{stage_of}
use Rattle.model.specs.Rules.{is_cell, early, late, covers, record_covers, other_covers, blocks_over}
use Rattle.model.proofs.Choice.{by_test, same_or_not}
use Rattle.model.proofs.Says.{Somewhere, Says, says_le, says_lt, says_and, one_le, one_holds, one_yes, one_no}
use Rattle.model.proofs.Readings.{Early, Late}

-- Sums over a list; d is what lies past its end
module _ {A : Type 0} (f : A → ℕ) (d : A) where
  -- an element, and two of them, are no more than the sum
  pub total_at : (l : List A) (k : ℕ) → k < length l → f (get_or l k d) ≤ total f l
  total_at [] k h = absurd (omega arith)
  total_at (x ∷ l) zero h = omega arith
  total_at (x ∷ l) (suc k) h = let r = total_at l k (omega arith) in omega arith

  pub total_two : (l : List A) (j k : ℕ) → j < length l → k < length l → j ≢ k → f (get_or l j d) + f (get_or l k d) ≤ total f l
  total_two [] j k p q ne = absurd (omega arith)
  total_two (x ∷ l) zero zero p q ne = absurd (ne refl)
  total_two (x ∷ l) zero (suc k) p q ne = let r = total_at l k (omega arith) in omega arith
  total_two (x ∷ l) (suc j) zero p q ne = let r = total_at l j (omega arith) in omega arith
  total_two (x ∷ l) (suc j) (suc k) p q ne =
      let r = total_two l j k (omega arith) (omega arith) (λ e. ne (omega arith)) in omega arith

  -- a sum that is not 0 has an element that is not
  pub total_some : (l : List A) → total f l ≢ 0 → Somewhere (λ x. f x ≢ 0) d l
  total_some [] n = absurd (n refl)
  total_some (x ∷ l) n = ⊎_elim (λ (e : f x ≡ 0). later (total_some l (λ z. n (omega arith)))) first (same_or_not (f x) 0)
    where
      first : f x ≢ 0 → Somewhere (λ x. f x ≢ 0) d (x ∷ l)
      first ne = record { at = 0; low = omega arith; holds = ne }

      later : Somewhere (λ x. f x ≢ 0) d l → Somewhere (λ x. f x ≢ 0) d (x ∷ l)
      later k = record { at = suc k.at; low = omega (arith, k.low); holds = k.holds }

  -- all elements are 0; all but one
  pub total_zero : (l : List A) → ((k : ℕ) → k < length l → f (get_or l k d) ≡ 0) → total f l ≡ 0
  total_zero [] h = refl
  total_zero (x ∷ l) h =
      let a = h 0 (omega arith) in
      let r = total_zero l (λ k p. h (suc k) (omega arith)) in
      omega arith

  pub total_one : (l : List A) (k : ℕ) → k < length l → ((j : ℕ) → j < length l → j ≢ k → f (get_or l j d) ≡ 0) → total f l ≡ f (get_or l k d)
  total_one [] k h g = absurd (omega arith)
  total_one (x ∷ l) zero h g = let r = total_zero l (λ j p. g (suc j) (omega arith) (λ e. omega arith)) in omega arith
  total_one (x ∷ l) (suc k) h g =
      let a = g 0 (omega arith) (λ e. omega arith) in
      let r = total_one l k (omega arith) (λ j p ne. g (suc j) (omega arith) (λ e. ne (omega arith))) in
      omega arith

-- A block over a cell
says_covers : (c n x : ℕ) → Says (leb c x and ltb x (c + n)) ((c ≤ x) × (x < c + n))
says_covers c n x = says_and (says_le c x) (says_lt x (c + n))

module _ (c n x : ℕ) where
  pub covers_le : covers c n x ≤ 1
  unfolding covers
  covers_le = one_le (leb c x and ltb x (c + n))

  pub covers_in : c ≤ x → x < c + n → covers c n x ≡ 1
  unfolding covers
  covers_in p q = one_yes (says_covers c n x) (p, q)

  pub covers_is : covers c n x ≡ 1 → (c ≤ x) × (x < c + n)
  unfolding covers
  covers_is e = one_holds (says_covers c n x) e

  pub covers_out : ((c ≤ x) → x < c + n → ⊥) → covers c n x ≡ 0
  unfolding covers
  covers_out f = one_no (says_covers c n x) (λ k. f k.0 k.1)

-- the record of an entry over a cell
pub record Over (arena : List ℕ) (x c : ℕ) : Type 0 where
  pub present : c ≢ none
  pub low : c ≤ x
  pub high : x < c + cells_at arena c

module _ (arena : List ℕ) (x c : ℕ) where
  pub record_le : record_covers arena x c ≤ 1
  unfolding record_covers
  record_le = by_test (λ (n : ℕ). n ≤ 1) (is_cell c) (λ _. covers_le c (cells_at arena c) x) (λ _. omega arith)

  pub record_in : Over arena x c → record_covers arena x c ≡ 1
  unfolding record_covers
  record_in o =
      by_test (λ (n : ℕ). n ≡ 1) (is_cell c) (λ _. covers_in c (cells_at arena c) x o.low o.high)
      (λ e. absurd (o.present (eqb-true c none (not-false (eqb c none) e))))

  pub record_is : record_covers arena x c ≡ 1 → Over arena x c
  unfolding record_covers
  record_is =
      by_test (λ (n : ℕ). n ≡ 1 → Over arena x c) (is_cell c)
      (λ e n.
      let k = covers_is c (cells_at arena c) x n in
      record { present = eqb-false c none (not-true (eqb c none) e); low = k.0; high = k.1 })
      (λ _ n. absurd (omega arith))

  pub record_out : ¬ Over arena x c → record_covers arena x c ≡ 0
  record_out f = let y : record_covers arena x c ≢ 1 = λ e. f (record_is e) in omega (arith, record_le)

-- "the move's other block" over a cell
module _ (v : Move) (arena : List ℕ) (x : ℕ) where
  abbrev pub other_over : ℕ
  other_over = other_covers (stage_of v.stage) v arena x

  early_at : (g : Stage) → T (early g) → other_covers g v arena x ≡ covers v.target (cells_at arena v.from) x
  early_at NoMove l = absurd l
  early_at FirstBarrier l = refl
  early_at Copying l = refl
  early_at SecondBarrier l = refl
  early_at ThirdBarrier l = absurd l

  late_at : (g : Stage) → T (late g) → other_covers g v arena x ≡ covers v.from (cells_at arena v.from) x
  late_at NoMove l = absurd l
  late_at FirstBarrier l = absurd l
  late_at Copying l = absurd l
  late_at SecondBarrier l = absurd l
  late_at ThirdBarrier l = refl

  pub other_early : Early v → other_over ≡ covers v.target (cells_at arena v.from) x
  other_early = early_at (stage_of v.stage)

  pub other_late : Late v → other_over ≡ covers v.from (cells_at arena v.from) x
  other_late = late_at (stage_of v.stage)

  -- by stage: the target, the old block, or none
  pub other_by : (P : ℕ → Type 0) → (Early v → P (covers v.target (cells_at arena v.from) x))
      → (Late v → P (covers v.from (cells_at arena v.from) x)) → (¬ Early v → ¬ Late v → P 0) → P other_over
  other_by P = by (stage_of v.stage)
    where
      by : (g : Stage) → (T (early g) → P (covers v.target (cells_at arena v.from) x))
          → (T (late g) → P (covers v.from (cells_at arena v.from) x)) → (¬ T (early g) → ¬ T (late g) → P 0)
          → P (other_covers g v arena x)
      by NoMove a b c = c (λ z. z) (λ z. z)
      by FirstBarrier a b c = a tt
      by Copying a b c = a tt
      by SecondBarrier a b c = a tt
      by ThirdBarrier a b c = b tt

  pub other_le : other_over ≤ 1
  other_le =
      other_by (λ (n : ℕ). n ≤ 1) (λ _. covers_le v.target (cells_at arena v.from) x)
      (λ _. covers_le v.from (cells_at arena v.from) x) (λ _ _. omega arith)

-- R3's number of blocks over a cell
pub blocks_are : (dir : List ℕ) (v : Move) (arena : List ℕ) (x : ℕ)
    → blocks_over dir v arena x ≡ total (record_covers arena x) dir + other_over v arena x
unfolding blocks_over
blocks_are dir v arena x = refl
