-- What a search of the directory finds.
use Rattle.std.specs.Prelude.{List, ℕ, Option, None, Some, if◌then◌else◌}
use Rattle.model.specs.State.{entry}
use Rattle.model.specs.Refusals.{is_none}

-- "each absent (65535) or a start cell": the start cell, of a present meter
abbrev pub start_of : List ℕ → ℕ → Option ℕ
start_of dir meter = if is_none (entry dir meter) then None else Some (entry dir meter)
