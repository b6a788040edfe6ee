-- The rows that are taken out of a table of eight are its own, and put back they leave it as it was.
-- Assumes nothing.
use mathlib.Core.Path.{◌≡◌, refl}
use mathlib.Core.List.{List}
use lib.ListN.{length}
use borrow.Author.Tests.{eq-eqb}
use Rattle.std.specs.Prelude.{Some}
use Rattle.model.specs.declared.Row.{Row}
use Rattle.rows.specs.Taken.{taken, eight, put_back}

pub eight_rows : (t : List Row) → length t ≡ 8 → (eight t ≡ t) × (put_back t (eight t) ≡ t)
eight_rows t h = rw (eq-eqb (length t) 8 h) (refl, refl)

-- both ways to take them
pub taken_eight : (t : List Row) → length t ≡ 8 → taken t ≡ Some (eight t)
taken_eight t h = rw (eq-eqb (length t) 8 h) refl
