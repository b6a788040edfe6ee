-- `buffer::move_out` meets its contract: five numbers, one behind the other.
use Rattle.std.proofs.Common.{◌∙◌, [], ◌∷◌}
use Rattle.buffer.proofs.Parts.{laid_numbers_lem}
use Rattle.buffer.proofs.move_out.Goals as goal

pub returns : goal.returns
returns c =
    let v = c.args.mv in
    rw (c.put-4.ensures, c.put-3.ensures, c.put-2.ensures, c.put.ensures) at c.put-5.ensures
    ∙ laid_numbers_lem _ 640 ((4, v.stage) ∷ (4, v.meter) ∷ (2, v.from) ∷ (2, v.target) ∷ (4, v.copied) ∷ [])
