-- `headend::called` meets its contract: the call on what the bytes mean; all bytes are written where it is accepted.
use Rattle.headend.proofs.Exported.{wrong_size_lem, call_gives}
use Rattle.headend.proofs.called.Goals as goal

pub returns-in_default : goal.returns-in_default
returns-in_default g c =
    rw c.wrong_size.ensures (wrong_size_lem _ g.does c.in_default.ensures.cases)

pub returns : goal.returns
returns g c =
    let all = c.in-Some.ensures.cases in
    call_gives _ _ _ _ _ g.does all.long (rw all.same at c.state_in-control.ensures) (c.requires.1.1 _ _ _ _ _ _ c.call-reply.ensures)
    (rw all.same at c.finish.ensures)
