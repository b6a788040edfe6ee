-- `archive::fresh` meets its contract: refused by its size, or all made anew (proofs/Calls).
use Rattle.archive.proofs.Calls.{fresh_stays, fresh_goes}
use Rattle.archive.proofs.fresh.Goals as goal

pub returns-in-Ok : goal.returns-in-Ok
returns-in-Ok c =
    let s = c.args in
    fresh_goes s.control s.arena.now s.table.now c.default.result (rw c.in-Ok.is at c.sized.ensures) c.default.ensures
    (c.fill.ensures.after (λ y h. h)) c.fresh_rows.ensures

pub returns-in-Err : goal.returns-in-Err
returns-in-Err c =
    let s = c.args in
    rw c.from-answer.ensures (fresh_stays s.control s.arena.now s.table.now c.in-Err.reason (rw c.in-Err.is at c.sized.ensures))
