-- In a sound state the fill, "the number of used cells", is the cells of the present records and of the move's other block: R3, summed
-- over the cells. Assumes nothing.
use mathlib.Core.Path.{◌≡◌, refl, sym, ◌∙◌}
use mathlib.Core.Logic.{◌≢◌, ⊎_elim}
use mathlib.Core.Bool.{Bool, true, false}
use mathlib.Core.List.{List, [], ◌∷◌}
use Prim.Native.Nat.{ℕ, zero, suc, ◌+◌, ◌-◌, ◌≤◌, ◌<◌, min}
use native.Mathlib.Omega.{arith}
use lib.Dec.{T, eqb}
use lib.ListN.{length}
use borrow.Author.Tests.{eqb-false, not-true}
use Rattle.model.specs.declared.Move.{Move}
use Rattle.model.specs.Choice.{pick, total}
use Rattle.model.specs.Arena.{none, cells_at, used, count_used, fill}
use Rattle.model.specs.declared.Stage.{Stage}
use Rattle.model.specs.declared.Stage.TheVariants.{NoMove, FirstBarrier, Copying, SecondBarrier, ThirdBarrier}
use Rattle.model.specs.State.{stage_of, in_hand, entry, State}
use Rattle.model.specs.Rules.{is_cell, early, late, covers, record_covers, other_covers}
use Rattle.model.proofs.Choice.{order}
use Rattle.model.proofs.Readings.{Sound}
use Rattle.model.proofs.Covers.{covers_in, covers_out, blocks_are}

-- the cells of an entry's record, and of the move's other block
abbrev pub cells_of : List ℕ → ℕ → ℕ
cells_of arena c = pick (is_cell c) (cells_at arena c) 0

abbrev pub other_cells : Move → List ℕ → ℕ
other_cells v arena = pick (in_hand (stage_of v.stage)) (cells_at arena v.from) 0

-- sums over the numbers below n
sum : (ℕ → ℕ) → ℕ → ℕ
sum f zero = 0
sum f (suc n) = sum f n + f n

sum_add : (f g : ℕ → ℕ) (n : ℕ) → sum (λ x. f x + g x) n ≡ sum f n + sum g n
unfolding sum
sum_add f g zero = refl
sum_add f g (suc n) = omega (arith, sum_add f g n)

sum_zero : (n : ℕ) → sum (λ x. 0) n ≡ 0
unfolding sum
sum_zero zero = refl
sum_zero (suc n) = omega (arith, sum_zero n)

used_sum : (map : List ℕ) (f : ℕ → ℕ) (n : ℕ) → ((x : ℕ) → x < n → used map x ≡ f x) → count_used map n ≡ sum f n
unfolding sum count_used
used_sum map f zero h = refl
used_sum map f (suc n) h = omega (arith, used_sum map f n (λ x p. h x (omega arith)), h n (omega arith))

-- of the k cells from c on, those below n
covers_sum : (c k n : ℕ) → sum (covers c k) n ≡ min n (c + k) - min n c
unfolding sum
covers_sum c k zero = omega arith
covers_sum c k (suc n) =
    let ih = covers_sum c k n in
    ⊎_elim (λ (p : n < c). omega (arith, covers_out c k n (λ q _. omega arith)))
    (λ (p : c ≤ n). ⊎_elim (λ (q : n < c + k). omega (arith, covers_in c k n p q))
    (λ (q : c + k ≤ n). omega (arith, covers_out c k n (λ _ r. omega arith))) (order n (c + k)))
    (order n c)

block_sum : (c k n : ℕ) → c + k ≤ n → sum (covers c k) n ≡ k
block_sum c k n h = omega (arith, covers_sum c k n)

record_sum : (arena : List ℕ) (n c : ℕ) → (c ≢ none → c + cells_at arena c ≤ n) → sum (λ x. record_covers arena x c) n ≡ cells_of arena c
unfolding record_covers
record_sum arena n c h = by (is_cell c) refl
  where
    by : (t : Bool) → is_cell c ≡ t → sum (λ x. pick t (covers c (cells_at arena c) x) 0) n ≡ pick t (cells_at arena c) 0
    by true e = block_sum c (cells_at arena c) n (h (eqb-false c none (not-true (eqb c none) e)))
    by false e = sum_zero n

records_sum : (arena : List ℕ) (n : ℕ) (dir : List ℕ)
    → ((m : ℕ) → m < length dir → entry dir m ≢ none → entry dir m + cells_at arena (entry dir m) ≤ n)
    → sum (λ x. total (record_covers arena x) dir) n ≡ total (cells_of arena) dir
records_sum arena n [] h = sum_zero n
records_sum arena n (c ∷ dir) h =
    sum_add (λ x. record_covers arena x c) (λ x. total (record_covers arena x) dir) n
    ∙ omega (arith, record_sum arena n c (h 0 (omega arith)), records_sum arena n dir (λ m p. h (suc m) (omega arith)))

other_sum : (v : Move) (arena : List ℕ) (n : ℕ) (g : Stage) → (T (early g) → v.target + cells_at arena v.from ≤ n)
    → (T (late g) → v.from + cells_at arena v.from ≤ n) → sum (other_covers g v arena) n ≡ pick (in_hand g) (cells_at arena v.from) 0
other_sum v arena n NoMove e l = sum_zero n
other_sum v arena n FirstBarrier e l = block_sum v.target (cells_at arena v.from) n (e tt)
other_sum v arena n Copying e l = block_sum v.target (cells_at arena v.from) n (e tt)
other_sum v arena n SecondBarrier e l = block_sum v.target (cells_at arena v.from) n (e tt)
other_sum v arena n ThirdBarrier e l = block_sum v.from (cells_at arena v.from) n (l tt)

pub fill_is_cells : (s : State) → length s.control.dir ≡ 256 → Sound s
    → fill s.control.map ≡ total (cells_of s.arena) s.control.dir + other_cells s.control.mv s.arena
unfolding fill
fill_is_cells s len S =
    let c = s.control in
    let a = s.arena in
    used_sum c.map (λ x. total (record_covers a x) c.dir + other_covers (stage_of c.mv.stage) c.mv a x) 1024
    (λ x p. sym (S.r3 x p) ∙ blocks_are c.dir c.mv a x)
    ∙ sum_add (λ x. total (record_covers a x) c.dir) (other_covers (stage_of c.mv.stage) c.mv a) 1024
    ∙ omega (
      arith,
      records_sum a 1024 c.dir (λ m p n. (S.r1 m (omega arith) n).within),
      other_sum c.mv a 1024 (stage_of c.mv.stage) (λ l. (S.r2.early l).within) (λ l. (S.r2.late l).within),
    )
