-- `row_rules::all_swaps_right` meets its contract: each row is asked by its number; a table of another size has none.
use Rattle.std.proofs.Common.{ℕ, ◌∙◌, refl, rules, tests}
use Rattle.std.proofs.lemmas.Iterator.{YieldsList-from_range}
use Rattle.std.proofs.lemmas.Iterator.Search.{all_from_yields_List}
use Rattle.model.specs.Rules.{swaps_right, R8}
use Rattle.table.specs.Words.{row_at}
use Rattle.row_rules.proofs.Rows.{rows_asked}
use Rattle.row_rules.proofs.all_swaps_right.Goals as goal

pub returns : goal.returns
unfolding R8
returns c =
    let control = c.args.control.now in
    let right = swaps_right c.flag_up-flag.result control.mv.from control.begun in
    rw (← c.flag_up-flag.ensures)
    (all_from_yields_List (λ (i : ℕ). right (row_at c.args.table.now i)) _ _ _ c.all.ensures.ran (YieldsList-from_range 0 8 8 refl refl)
    (λ x b q k. search (rules, tests))
    ∙ rows_asked right c.args.table.now c.if-table-ne-TABLE_WORDS.false)
