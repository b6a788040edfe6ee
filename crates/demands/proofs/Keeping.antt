-- What it means that a step of some name keeps the invariant: a refused one leaves state and account. Assumes nothing.
use Rattle.model.specs.State.{State, Outcome}
use Rattle.model.specs.Choice.{refuse}
use Rattle.model.specs.Steps.{Step, Name, refusals, effect, refused}
use Rattle.model.proofs.Refusals.{Passed, unless_refused}
use Rattle.demands.specs.Log.{Account, said_by}
use Rattle.demands.proofs.Inv.{Inv}

-- the invariant holds of the next state and the log's next account
abbrev pub Good : Type 0 → Name → Account → Step → Outcome → Type 0
Good X n g t o = Inv X o.next (said_by n g t o.answer)

abbrev pub Keeps : Type 0 → Name → State → Account → Step → Type 0
Keeps X n s g t = Good X n g t (refuse (refusals n s t) (refused s) (effect n s t))

pub keeps : {X : Type 0} (n : Name) (s : State) (g : Account) (t : Step) → Inv X s g
    → (Passed (refusals n s t) → Good X n g t (effect n s t)) → Keeps X n s g t
keeps {X} n s g t I = unless_refused (Good X n g t) (refusals n s t) (refused s) (effect n s t) (λ _. I)
