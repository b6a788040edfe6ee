-- `table::all_swaps` meets its contract: the swaps are summed row by row, and each fits 32 bits.
use Rattle.std.proofs.Common.{rules, tests, refl, ◌∙◌, ℕ, arith}
use Rattle.std.proofs.lemmas.Iterator.{YieldsList-from_range, YieldsList-from_map}
use Rattle.std.proofs.lemmas.Iterator.Adapters.{fits_from_length, at_most_from_yields_List}
use Rattle.std.proofs.lemmas.Iterator.Consumers.{sum_by_from_yields_List}
use Rattle.std.specs.List.{range_with_len}
use Rattle.model.specs.Rows.{swaps_of}
use Rattle.table.specs.Words.{row_read}
use Rattle.table.proofs.Loops.{sum_asked}
use Rattle.table.proofs.all_swaps.Goals as goal

pub sum-requires-clause-fits : goal.sum-requires-clause-fits
sum-requires-clause-fits c =
    fits_from_length _ _ 8 18446744073709551616 (at_most_from_yields_List (YieldsList-from_range 0 8 8 c.map.ensures.source refl) (omega arith)) c.map.ensures.closure (omega arith)
    (λ x r q k. search (rules, tests))

pub returns : goal.returns
returns c =
    let swaps = λ (i : ℕ). (row_read c.args.t.now i).swaps in
    sum_by_from_yields_List swaps (range_with_len 0 8) c.map.result _ c.sum.ensures.ran
    (YieldsList-from_map _ swaps (YieldsList-from_range 0 8 8 c.map.ensures.source refl) c.map.ensures.closure (λ x r q k. search (rules, tests)))
    ∙ sum_asked (row_read c.args.t.now) swaps_of 0 8
