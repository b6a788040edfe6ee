-- `archive::run` meets its contract: refused by 1 or 2, or its steps one by one (proofs/Calls).
use Rattle.archive.proofs.Calls.{run_stays, run_goes}
use Rattle.archive.proofs.run.Goals as goal

pub returns-in-Ok : goal.returns-in-Ok
returns-in-Ok c =
    let s = c.args in
    run_goes s.control s.arena.now s.table.now s.steps.now s.answers.now c.in-Ok.ensures c.turns.ensures

pub returns-in-Err : goal.returns-in-Err
returns-in-Err c =
    let s = c.args in
    rw c.from-answer.ensures (run_stays s.control s.arena.now s.table.now c.in-Err.reason s.steps.now s.answers.now c.in-Err.ensures)
