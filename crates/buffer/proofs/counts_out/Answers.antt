-- `buffer::counts_out` meets its contract: three numbers, one behind the other.
use Rattle.std.proofs.Common.{◌∙◌, [], ◌∷◌}
use Rattle.buffer.proofs.Parts.{laid_numbers_lem}
use Rattle.buffer.proofs.counts_out.Goals as goal

pub returns : goal.returns
returns c =
    let x = c.args.control.now in
    rw (c.put-2.ensures, c.put.ensures) at c.put-3.ensures
    ∙ laid_numbers_lem _ 656 ((4, x.begun) ∷ (4, x.committed) ∷ (4, x.aborted) ∷ [])
