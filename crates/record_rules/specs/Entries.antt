-- R1 and R4 at one entry of the directory: meter m's, which names cell c.
use Rattle.std.specs.Prelude.{Bool, List, ℕ, ◌+◌, eqb, leb}
use Rattle.model.specs.declared.Move.{Move}
use Rattle.model.specs.Choice.{◌and◌, ◌or◌, ◌⇒◌}
use Rattle.model.specs.Arena.{header, plain, flagged, label, meter_of, cells_at}
use Rattle.model.specs.Rules.{is_cell, is_early}

-- R1 "Each present entry c: label matches its meter, kind read from it, record within 1,024 cells."
unfoldable pub record_at : List ℕ → ℕ → ℕ → Bool
record_at arena m c = is_cell c ⇒ (eqb (meter_of (label arena c)) m and leb (c + cells_at arena c) 1024)

-- R4 "Headers of present records are 2c; in the first three stages the moved one may be 2c + 1."
unfoldable pub header_at : Move → List ℕ → ℕ → ℕ → Bool
header_at v arena m c =
    is_cell c ⇒ (eqb (header arena c) (plain c) or (is_early v and eqb m v.meter and eqb (header arena c) (flagged c)))
