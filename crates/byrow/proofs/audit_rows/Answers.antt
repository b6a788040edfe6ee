-- `byrow::audit_rows` meets its contract: the words of eight rows are looked at; a table that has not eight is refused.
use Rattle.model.specs.Steps.{audit_call}
use Rattle.byrow.proofs.Calls.{audit_is}
use Rattle.byrow.proofs.ReadBack.{look_refused, look_done}
use Rattle.byrow.proofs.audit_rows.Goals as goal

pub returns-in_default : goal.returns-in_default
returns-in_default c = rw c.refused.ensures (look_refused audit_is _ _ c.in_default.is)

pub returns : goal.returns
returns c = look_done audit_call _ _ _ c.in-Some.is c.words_of.ensures.holds (rw c.words_of.ensures.words at c.audit.ensures)
