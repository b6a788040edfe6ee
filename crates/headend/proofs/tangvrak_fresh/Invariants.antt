-- What is called, as the model has it.
use Rattle.model.specs.Steps.{fresh_call}
use Rattle.headend.proofs.tangvrak_fresh.Given as goal

abbrev pub ghost-called : goal.ghost-called
ghost-called a = fresh_call
