-- `headend::looked` meets its contract: the answer of the call on what the bytes mean.
use Rattle.std.proofs.Common.{◌∙◌}
use Rattle.headend.proofs.Exported.{wrong_size_lem, look_gives}
use Rattle.headend.proofs.looked.Goals as goal

pub returns-in_default : goal.returns-in_default
returns-in_default g c = c.wrong_size.ensures ∙ (wrong_size_lem _ g.does c.in_default.ensures.cases).result

pub returns : goal.returns
returns g c =
    let all = c.in-Some.ensures.cases in
    look_gives _ g.does all.long (rw all.same at c.state_in-control.ensures) c.coded.ensures (c.requires.1.1 _ _ _ _ c.look.ensures).answer
