-- `put`: the two words stored are the two masks put, which is the run by the law run-by-masks.
use Rattle.std.proofs.Common.{sym}
use Rattle.cells.proofs.Runs.{run_by_masks}
use Rattle.cells.proofs.Run.put.Goals as goal

pub returns : goal.returns
returns c =
    let a = c.args in
    rw (c.put_word-2.ensures, c.put_word.ensures, c.low_mask.ensures, c.high_mask.ensures)
    (sym (run_by_masks a.map.now a.self.start a.self.cells a.to (record { sixteen = c.told-map; words = c.fits-map }) a.self.short))
