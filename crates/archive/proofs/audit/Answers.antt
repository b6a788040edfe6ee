-- `archive::audit` meets its contract: refused by its size, or the first broken rule (proofs/Calls).
use Rattle.std.proofs.Common.{◌≡◌, ◌∙◌, rules}
use Rattle.rules.specs.Broken.{found}
use Rattle.archive.proofs.Calls.{audit_stays, audit_goes}
use Rattle.archive.proofs.audit.Goals as goal

pub returns-in-Ok : goal.returns-in-Ok
returns-in-Ok c =
    let s = c.args in
    let told : c.map_or.result ≡ found c.first_broken.result = search rules in
    audit_goes s.control s.arena.now s.table.now _ (rw c.in-Ok.is at c.sized.ensures) (told ∙ c.first_broken.ensures)

pub returns-in-Err : goal.returns-in-Err
returns-in-Err c =
    let s = c.args in
    rw c.from-answer.ensures (audit_stays s.control s.arena.now s.table.now c.in-Err.reason (rw c.in-Err.is at c.sized.ensures))
