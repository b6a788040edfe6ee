-- What blocks cover, as the walk over the directory adds it up: one block over one cell, and the sum over the first entries.
use mathlib.Core.Path.{◌≡◌, refl, sym}
use mathlib.Core.List.{List, [], ◌∷◌}
use Prim.Native.Nat.{ℕ, zero, suc, ◌+◌, ◌≤◌, ◌<◌}
use native.Mathlib.Omega.{arith}
use lib.Dec.{eqb}
use lib.ListN.{length, get_or, take}
use borrow.Author.Tests.{eqb-true, not-false}
use Rattle.model.specs.Choice.{total}
use Rattle.model.specs.Arena.{none, cells_at}
use Rattle.model.specs.Rules.{is_cell, covers, record_covers}
use Rattle.model.proofs.Choice.{by_test}
use Rattle.model.proofs.Covers.{covers_out}

-- among the arena's cells an absent entry covers none, as a block that starts at 65535 does
pub record_covers_lem : (arena : List ℕ) (x c : ℕ) → x < 1024 → record_covers arena x c ≡ covers c (cells_at arena c) x
unfolding record_covers
record_covers_lem arena x c h =
    by_test (λ n. n ≡ covers c (cells_at arena c) x) (is_cell c) (λ _. refl)
    (λ e.
    let far : c ≡ none = eqb-true c none (not-false (eqb c none) e) in
    sym (covers_out c (cells_at arena c) x (λ p q. omega arith)))

module _ {A : Type 0} (f : A → ℕ) (d : A) where
  -- one element more of the sum
  pub total_more : (l : List A) (i : ℕ) → i < length l → total f (take (suc i) l) ≡ total f (take i l) + f (get_or l i d)
  total_more [] i h = absurd (omega arith)
  total_more (x ∷ l) zero h = omega arith
  total_more (x ∷ l) (suc i) h = let e = total_more l i (omega arith) in omega arith

  -- the part so far and the next element are at most the whole
  pub total_part : (l : List A) (i : ℕ) → i < length l → total f (take i l) + f (get_or l i d) ≤ total f l
  total_part [] i h = absurd (omega arith)
  total_part (x ∷ l) zero h = omega arith
  total_part (x ∷ l) (suc i) h = let e = total_part l i (omega arith) in omega arith
