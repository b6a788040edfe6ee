-- A cell sought among the holds of a row; and the numbers of an access. Assumes nothing.
use mathlib.Core.Path.{◌≡◌, refl}
use mathlib.Core.Bool.{Bool, true, false}
use mathlib.Core.List.{List, [], ◌∷◌}
use Prim.Native.Nat.{ℕ}
use lib.Dec.{eqb}
use Rattle.std.specs.List.{list_any}
use Rattle.std.specs.Prelude.{nat_eq}
use Rattle.std.proofs.lemmas.Bool.Decides.{nat_tests}
use native.Mathlib.Omega.{arith}
use Rattle.model.specs.Choice.{any}
use Rattle.model.specs.Rows.{access_of, hold_of, word_of}

-- the library's test of each element is the model's
pub any_found : (cell : ℕ) (l : List ℕ) → list_any (λ y. nat_eq y cell) l ≡ any (eqb cell) l
any_found cell [] = refl
any_found cell (x ∷ l) = grind (arith, nat_tests, any_found cell l)

-- an access keeps the numbers that it was made of
pub hold_of_access : (write : Bool) (h w v : ℕ) → hold_of (access_of write h w v) ≡ h
hold_of_access true h w v = refl
hold_of_access false h w v = refl

pub word_of_access : (write : Bool) (h w v : ℕ) → word_of (access_of write h w v) ≡ w
word_of_access true h w v = refl
word_of_access false h w v = refl
