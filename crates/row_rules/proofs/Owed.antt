-- What a row owes decides R8. Assumes nothing.
use mathlib.Core.Path.{◌≡◌, ap, ◌∙◌}
use mathlib.Core.Bool.{Bool}
use Prim.Native.Nat.{ℕ, ◌+◌}
use lib.Dec.{leb}
use Rattle.model.specs.declared.Row.{Row}
use Rattle.model.specs.Rules.{swaps_right}
use Rattle.model.proofs.Says.{says_le, says_same}
use Rattle.model.proofs.Readings.{owed, says_swaps}

pub owed_decides : (flag : Bool) (from begun : ℕ) (r : Row) {n : ℕ} → n ≡ owed flag from r.phase
    → leb (r.swaps + n) begun ≡ swaps_right flag from begun r
owed_decides flag from begun r e =
    ap (λ (n : ℕ). leb (r.swaps + n) begun) e
    ∙ says_same (says_le (r.swaps + owed flag from r.phase) begun) (says_swaps flag from begun r)
