-- `byrow::run_rows` meets its contract: the words of eight rows are worked on and read back; a table that has not eight is refused.
use Rattle.std.proofs.Common.{rules}
use Rattle.byrow.proofs.ReadBack.{run_done}
use Rattle.byrow.proofs.run_rows.Goals as goal

pub returns : goal.returns
returns c = run_done _ _ _ _ _ c.on_words.ensures _ _ _ (λ e. search rules) (λ r t t' k. search rules)
