-- `row_rules::Records::rows_right` meets its contract: each row is asked by its number; a table of another size has none.
use Rattle.std.proofs.Common.{ℕ, ◌∙◌, refl, rules, tests}
use Rattle.std.proofs.lemmas.Iterator.{YieldsList-from_range}
use Rattle.std.proofs.lemmas.Iterator.Search.{all_from_yields_List}
use Rattle.model.specs.Rules.{row_right, R6}
use Rattle.table.specs.Words.{row_at}
use Rattle.row_rules.proofs.Rows.{rows_asked}
use Rattle.row_rules.proofs.Records.rows_right.Goals as goal

pub returns : goal.returns
unfolding R6
returns c =
    let control = c.args.self.control.now in
    let right = row_right control.dir control.mv c.args.self.arena.now in
    all_from_yields_List (λ (i : ℕ). right (row_at c.args.table.now i)) _ _ _ c.all.ensures.ran (YieldsList-from_range 0 8 8 refl refl)
    (λ x b q k. search (rules, tests))
    ∙ rows_asked right c.args.table.now c.if-table-ne-TABLE_WORDS.false
