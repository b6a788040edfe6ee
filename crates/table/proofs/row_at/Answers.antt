-- `table::row_at` meets its contract: the row's words are read in place (proofs/Chunks).
use Rattle.table.proofs.Chunks.{row_lent}
use Rattle.table.proofs.row_at.Goals as goal

pub returns : goal.returns
returns c = row_lent c.args.t.now c.args.i c.words_of.result _ c.words_of.ensures c.map_or.ensures
