-- The rows of a table of the right size, asked by number. Assumes nothing.
use mathlib.Core.Path.{◌≡◌}
use mathlib.Core.Bool.{Bool}
use mathlib.Core.List.{List}
use Prim.Native.Nat.{ℕ}
use lib.ListN.{length}
use borrow.Author.Tests.{eq-eqb}
use Rattle.std.specs.List.{list_all, range_with_len}
use Rattle.model.specs.declared.Row.{Row}
use Rattle.model.specs.Choice.{all}
use Rattle.table.specs.Words.{row_at, rows_of}
use Rattle.table.proofs.Loops.{all_asked}

pub rows_asked : (p : Row → Bool) (t : List ℕ) → length t ≡ 96 → list_all (λ i. p (row_at t i)) (range_with_len 0 8) ≡ all p (rows_of t)
unfolding rows_of
rows_asked p t e = rw (eq-eqb (length t) 96 e) (all_asked (row_at t) p 0 8)
