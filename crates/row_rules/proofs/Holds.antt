-- Holds that equal as many empty ones are empty, each. Assumes nothing.
use mathlib.Core.Path.{◌≡◌, refl, sym, ap, ◌∙◌}
use mathlib.Core.Bool.{Bool, true, false, ◌&&◌}
use mathlib.Core.List.{List, [], ◌∷◌}
use Prim.Native.Nat.{ℕ}
use lib.Dec.{eqb}
use lib.ListN.{length, replicate}
use lib.Pointwise.{pointwise}
use Rattle.model.specs.Choice.{◌and◌, all}
use Rattle.model.specs.Arena.{none}
use Rattle.model.proofs.Says.{says_eq, says_as, says_same}

same_none : (h : ℕ) → eqb h none ≡ eqb none h
same_none h = says_same (says_eq h none) (says_as sym sym (says_eq none h))

empty_each : (holds : List ℕ) → pointwise eqb holds (replicate (length holds) none) ≡ all (eqb none) holds
empty_each [] = refl
empty_each (h ∷ holds) = rw (same_none h) (by (eqb none h) (empty_each holds))
  where
    by : (b : Bool) → {x y : Bool} → x ≡ y → (b && x) ≡ (b and y)
    by true e = e
    by false e = refl

pub empty_four : (holds : List ℕ) → length holds ≡ 4 → pointwise eqb holds (replicate 4 none) ≡ all (eqb none) holds
empty_four holds e = ap (λ n. pointwise eqb holds (replicate n none)) (sym e) ∙ empty_each holds
