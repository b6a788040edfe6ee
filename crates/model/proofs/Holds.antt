-- The four holds of a row, one by one. Assumes nothing.
use mathlib.Core.Path.{◌≡◌, refl}
use mathlib.Core.List.{List, [], ◌∷◌}
use Prim.Native.Nat.{ℕ}
use native.Mathlib.Omega.{arith}
use lib.ListN.{length, get_or}

pub four_holds : (l : List ℕ) → length l ≡ 4 → l ≡ get_or l 0 0 ∷ get_or l 1 0 ∷ get_or l 2 0 ∷ get_or l 3 0 ∷ []
four_holds [] e = absurd (omega arith)
four_holds (a ∷ []) e = absurd (omega arith)
four_holds (a ∷ b ∷ []) e = absurd (omega arith)
four_holds (a ∷ b ∷ c ∷ []) e = absurd (omega arith)
four_holds (a ∷ b ∷ c ∷ d ∷ []) e = refl
four_holds (a ∷ b ∷ c ∷ d ∷ x ∷ l) e = absurd (omega arith)
