-- 01, "How tightly the steps are tied": what a program must be to be a step of the archive, and the programs that are "Kept out".
use Rattle.std.specs.Prelude.{◌≡◌, List, [], ◌∷◌, ℕ}
use Rattle.model.specs.declared.Answer.{Answer}
use Rattle.model.specs.declared.Answer.TheVariants.{Refused}
use Rattle.model.specs.Arena.{word}
use Rattle.model.specs.State.{State}
use Rattle.model.specs.KeeperSteps.{move_of}
use Rattle.model.specs.Steps.{Step, step, step_call}
use Rattle.demands.specs.Log.{Program, reached_by, history_by}
use Rattle.demands.specs.Promises.{reached, CountsTrue}

-- what the contract of a step asks
abbrev pub Meets : Program → Type 0
Meets f = (s : State) (t : Step) → f s t ≡ step_call s t

-- "Two outcomes allowed by a contract are proved equal"
abbrev pub OneOutcome : Type 0
OneOutcome = (f g : Program) → Meets f → Meets g → (s : State) (t : Step) → f s t ≡ g s t

-- "one refusing everything"
abbrev pub RefusesEverything : Program → Type 0
RefusesEverything f = (s : State) (t : Step) → (n : ℕ) × ((f s t).answer ≡ Refused n)

-- "One giving a constant answer"
abbrev pub AnswersAlike : Program → Type 0
AnswersAlike f = (x : Answer) × ((s : State) (t : Step) → (f s t).answer ≡ x)

-- "or touching nothing"
abbrev pub TouchesNothing : Program → Type 0
TouchesNothing f = (s : State) (t : Step) → (f s t).next ≡ s

-- "One that copies the whole record at the first ADVANCE and then only counts": with a move of meter 2 about to copy its first word, the
-- replica has its label, word 1, after one step
abbrev pub about_to_copy : List Step
about_to_copy = step 0 4 0 0 0 ∷ step 0 3 2 0 0 ∷ step 0 2 1 0 0 ∷ step 0 1 2 0 0 ∷ step 0 1 1 0 0 ∷ []

abbrev pub CopiesAtOnce : Program → Type 0
CopiesAtOnce f =
    word (f (reached about_to_copy) (step 0 4 0 0 0)).next.arena (move_of (reached about_to_copy)).target 1
    ≡ word (reached about_to_copy).arena (move_of (reached about_to_copy)).from 1

-- "One inventing swap or move counts": after some steps of it from fresh the counts are not those of its answers
abbrev pub InventsCounts : Program → Type 0
InventsCounts f = (l : List Step) × ¬ (CountsTrue (reached_by f l) (history_by f l))

-- none of them is a step of the archive
pub record KeptOut (f : Program) : Type 0 where
  pub refusing : ¬ (RefusesEverything f)
  pub constant : ¬ (AnswersAlike f)
  pub idle : ¬ (TouchesNothing f)
  pub at_once : ¬ (CopiesAtOnce f)
  pub inventing : ¬ (InventsCounts f)

abbrev pub AreKeptOut : Type 0
AreKeptOut = (f : Program) → Meets f → KeptOut f
