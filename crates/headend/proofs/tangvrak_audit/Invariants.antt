-- What is called, as the model has it.
use Rattle.model.specs.Steps.{audit_call}
use Rattle.headend.proofs.tangvrak_audit.Given as goal

abbrev pub ghost-looked : goal.ghost-looked
ghost-looked a = audit_call
