-- The cell in a hold, where there is one.
use Rattle.std.specs.Prelude.{List, ℕ, Option, Some, None, eqb, get_or}
use Rattle.model.specs.Choice.{pick}
use Rattle.model.specs.Arena.{none}

-- "each empty (65535) or a cell"; a hold above 3 is empty
abbrev pub held : List ℕ → ℕ → Option ℕ
held holds h = pick (eqb (get_or holds h none) none) None (Some (get_or holds h none))
