-- What is called, as the model has it.
use Rattle.model.specs.Steps.{fill_call}
use Rattle.headend.proofs.tangvrak_fill.Given as goal

abbrev pub ghost-looked : goal.ghost-looked
ghost-looked a = fill_call
