-- `table::holds_cell` meets its contract: each row is asked by its number.
use Rattle.std.proofs.Common.{rules, tests, refl, ◌∙◌}
use Rattle.std.proofs.lemmas.Iterator.{YieldsList-from_range}
use Rattle.std.proofs.lemmas.Iterator.Search.{any_from_yields_List}
use Rattle.model.specs.Refusals.{holds_cell}
use Rattle.table.specs.Words.{row_read}
use Rattle.table.proofs.Loops.{any_asked}
use Rattle.table.proofs.holds_cell.Goals as goal

pub returns : goal.returns
returns c =
    let s = c.args in
    any_from_yields_List (λ i. holds_cell s.cell (row_read s.t.now i)) _ _ c.any.result c.any.ensures.ran (YieldsList-from_range 0 8 8 refl refl)
    (λ x b q k. search (rules, tests))
    ∙ any_asked (row_read s.t.now) (holds_cell s.cell) 0 8
