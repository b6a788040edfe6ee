-- `table::words_of` meets its contract: the row is a chunk of twelve words (proofs/Chunks).
use Rattle.table.proofs.Chunks.{chunk_lent}
use Rattle.table.proofs.words_of.Goals as goal

pub returns : goal.returns
returns c = chunk_lent c.args.t.now c.args.i _ c.get.result c.as_chunks.ensures.front c.as_chunks.ensures.front_len c.get.ensures.lookup
