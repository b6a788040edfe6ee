-- `table::all_passed` meets its contract: each row is asked by its number.
use Rattle.std.proofs.Common.{rules, refl, ◌∙◌}
use borrow.Author.Tests.{tests}
use Rattle.std.proofs.lemmas.Iterator.{YieldsList-from_range}
use Rattle.std.proofs.lemmas.Iterator.Search.{all_from_yields_List}
use Rattle.model.specs.Rows.{has_passed}
use Rattle.table.specs.Words.{row_read}
use Rattle.table.proofs.Loops.{all_asked}
use Rattle.table.proofs.all_passed.Goals as goal

pub returns : goal.returns
returns c =
    all_from_yields_List (λ i. (row_read c.args.t.now i).passed) _ _ _ c.all.ensures.ran (YieldsList-from_range 0 8 8 refl refl) (λ x b q k. search (rules, tests))
    ∙ all_asked (row_read c.args.t.now) has_passed 0 8
