-- What the steps are proved by: a reason's number is above 0, a record's cells are fewer than a word has bits, a run found lies in the map.
use Rattle.model.proofs.ByKind.{cells_short}
use Rattle.model.proofs.CellMap.{lowest_fits}
use Rattle.answers.proofs.Reasons.{reason_positive}

pub ruleset steps = (reason_positive, cells_short, lowest_fits)
