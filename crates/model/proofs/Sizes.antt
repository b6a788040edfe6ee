-- Fresh has the sizes of the code's types, and a state that has them is not refused by 1. Assumes nothing.
use mathlib.Core.Path.{◌≡◌, refl}
use mathlib.Core.Bool.{false}
use native.Mathlib.Omega.{arith}
use Rattle.model.specs.State.{State, fresh, Sizes}
use Rattle.model.specs.Rows.{fresh_row, FourHolds}
use Rattle.model.specs.Steps.{wrong_size}
use Rattle.model.proofs.CellMap.{fresh_map}
use Rattle.model.proofs.Says.{all_replicate}

pub fresh_sizes : Sizes fresh
fresh_sizes =
    record {
      entries = refl;
      map = fresh_map;
      begun = omega arith;
      arena = refl;
      rows = refl;
      holds = all_replicate FourHolds 8 fresh_row refl;
    }

-- a state of these sizes is not refused by 1
pub right_size : (s : State) → Sizes s → wrong_size s ≡ false
unfolding wrong_size
right_size s Z = rw (Z.arena, Z.rows) refl
