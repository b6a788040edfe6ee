-- `headend::run_words` meets its contract: the run on what the bytes mean; slots and buffer are written where it is accepted.
use Rattle.buffer.proofs.RoundTrip.{state_decoded}
use Rattle.headend.proofs.Exported.{run_gives}
use Rattle.headend.proofs.run_words.Goals as goal

pub returns : goal.returns
returns c =
    run_gives _ _ _ _ _ _ _
    (rw (state_decoded c.state_in-control.ensures, c.numbers_in.ensures, c.numbers_in-2.ensures) at c.run-reply.ensures)
    c.finish.ensures c.slots_out.ensures
