-- `archive::step` meets its contract: refused by 1 or 2, or a run of one (proofs/Calls).
use Rattle.std.proofs.Common.{[], ◌∷◌, refl}
use Rattle.model.specs.Steps.{step}
use Rattle.archive.proofs.Calls.{step_stays, step_goes}
use Rattle.archive.proofs.step.Goals as goal

pub returns-in-Ok : goal.returns-in-Ok
returns-in-Ok c =
    let s = c.args in
    step_goes s.control s.arena.now s.table.now (0 ∷ 0 ∷ []) s.who s.code s.a s.b s.v c.in-Ok.ensures refl c.turns-answer.ensures

pub returns-in-Err : goal.returns-in-Err
returns-in-Err c =
    let s = c.args in
    rw c.from-answer.ensures (step_stays s.control s.arena.now s.table.now c.in-Err.reason (step s.who s.code s.a s.b s.v) c.in-Err.ensures)
