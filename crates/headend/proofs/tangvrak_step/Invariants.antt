-- What is called, as the model has it.
use Rattle.model.specs.Steps.{step, step_call}
use Rattle.headend.proofs.tangvrak_step.Given as goal

abbrev pub ghost-called : goal.ghost-called
ghost-called a = λ s. step_call s (step a.call.0 a.call.1 a.call.2 a.call.3 a.call.4)
