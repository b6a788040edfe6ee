-- `table::checked_row_at` meets its contract: whether its words mean a row picks the way (proofs/Chunks).
use Rattle.std.proofs.Common.{sym, ◌∙◌}
use Rattle.table.specs.Words.{row_at}
use Rattle.table.proofs.Chunks.{is_row_lent}
use Rattle.table.proofs.checked_row_at.Goals as goal

pub returns-then-is_some_and : goal.returns-then-is_some_and
unfolding row_at
returns-then-is_some_and c =
    let e = is_row_lent c.args.t.now c.args.i c.words_of.result _ c.words_of.ensures c.is_some_and.ensures in
    rw (sym e ∙ c.if-is_some_and.true) c.row_at.ensures

pub returns-else-is_some_and : goal.returns-else-is_some_and
unfolding row_at
returns-else-is_some_and c =
    let e = is_row_lent c.args.t.now c.args.i c.words_of.result _ c.words_of.ensures c.is_some_and.ensures in
    rw (sym e ∙ c.if-is_some_and.false)
