-- `row::is_among` meets its contract: the library's search asks each hold whether it is the cell.
use Rattle.std.proofs.Common.{◌∙◌}
use Rattle.row.proofs.Holds.{any_found}
use Rattle.row.proofs.is_among.Goals as goal

pub returns : goal.returns
returns c = c.contains.ensures.value ∙ any_found c.args.cell c.args.holds
