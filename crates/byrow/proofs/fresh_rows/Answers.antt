-- `byrow::fresh_rows` meets its contract: the words of eight rows are worked on and read back; a table that has not eight is refused.
use Rattle.std.proofs.Common.{rules}
use Rattle.byrow.proofs.Calls.{fresh_is}
use Rattle.byrow.proofs.ReadBack.{rows_done}
use Rattle.byrow.proofs.fresh_rows.Goals as goal

pub returns : goal.returns
returns c = rows_done _ _ _ _ _ c.on_words.ensures fresh_is (λ e. search rules) (λ r t t' k. search rules) (search rules)
