-- `archive::fill` meets its contract: refused, or the figure (proofs/Calls).
use Rattle.archive.proofs.Calls.{fill_stays, fill_goes}
use Rattle.archive.proofs.fill.Goals as goal

pub returns-in-Ok : goal.returns-in-Ok
returns-in-Ok c =
    let s = c.args in
    fill_goes s.control s.arena.now s.table.now _ c.in-Ok.ensures c.fill.ensures

pub returns-in-Err : goal.returns-in-Err
returns-in-Err c =
    let s = c.args in
    rw c.from-answer.ensures (fill_stays s.control s.arena.now s.table.now c.in-Err.reason c.in-Err.ensures)
