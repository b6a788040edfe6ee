-- `turns::turn` meets its contract: the match over who picks the party whose turn it is.
use Rattle.std.proofs.Common.{◌≡◌, refl, arith}
use Rattle.acts.specs.Acts.{lent}
use Rattle.acts.proofs.Names.{turn_by_client, turn_by_nobody}
use Rattle.turns.specs.Runs.{step_of}
use Rattle.turns.proofs.turn.Goals as goal

pub returns-in-1-to-8 : goal.returns-in-1-to-8
returns-in-1-to-8 c =
    let s = c.args in
    let r = c.client.ensures in
    rw (turn_by_client (lent s.control.now s.arena.now s.table.now) (step_of s.step) (λ (e : s.step.who ≡ 0). omega arith) (omega arith))
    (record { control = refl; arena = r.arena; table = r.table; answer = r.answer })

pub returns-in-9-to-4294967295 : goal.returns-in-9-to-4294967295
returns-in-9-to-4294967295 c =
    let s = c.args in
    rw (turn_by_nobody (lent s.control.now s.arena.now s.table.now) (step_of s.step) (omega arith))
    (record { control = refl; arena = refl; table = refl; answer = c.from.ensures })
