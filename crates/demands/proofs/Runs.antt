-- A run tests the sizes and the rules once and equals its steps one by one, each of which tests them again: `act` keeps both.
-- Assumes nothing.
use mathlib.Core.Path.{◌≡◌, refl, sym, ap, ◌∙◌}
use mathlib.Core.Logic.{◌≢◌}
use mathlib.Core.Bool.{true}
use mathlib.Core.List.{List, [], ◌∷◌}
use Prim.Native.Nat.{ℕ}
use Rattle.model.specs.declared.Answer.TheVariants.{Refused, Done}
use Rattle.model.specs.State.{State, Outcome, Sizes}
use Rattle.model.specs.Steps.{Step, act, step_call, ran, then, one_by_one, steps_from, steps_of, run_sizes, run_call}
use Rattle.model.specs.Rules.{first_broken}
use Rattle.model.proofs.Sizes.{right_size}
use Rattle.model.proofs.Calls.{step_sound, run_sound, run_unsound}
use Rattle.demands.specs.Log.{after}
use Rattle.demands.specs.Promises.{RunIsSteps}
use Rattle.demands.proofs.Kept.{sound_kept, sizes_kept, after_sound, after_sizes}

-- on a sound state a step is what `act` does
pub step_is_act : (s : State) (t : Step) → Sizes s → first_broken s ≡ 0 → step_call s t ≡ act s t
step_is_act s t Z e = step_sound s (right_size s Z) t e

-- and a run is its steps, each as `act` does it
pub run_acts : (s : State) (ws slots : List ℕ) → Sizes s → run_sizes ws slots ≡ true → first_broken s ≡ 0
    → run_call s ws slots ≡ one_by_one act s (steps_of ws)
run_acts s ws slots Z q e = run_sound s (right_size s Z) ws slots q e

-- a run of no steps answers 30 with 0; "A run of no steps still gives 2 on an unsound state."
none_fit : run_sizes [] [] ≡ true
unfolding run_sizes
none_fit = refl

pub no_steps : (s : State) → Sizes s → first_broken s ≡ 0 → run_call s [] [] ≡ ran (Done 0) [] s
unfolding steps_from
no_steps s Z e = run_acts s [] [] Z none_fit e

pub no_steps_unsound : (s : State) → Sizes s → first_broken s ≢ 0 → run_call s [] [] ≡ ran (Refused 2) [] s
no_steps_unsound s Z n = run_unsound s (right_size s Z) [] [] none_fit n

steps_are_acts : (l : List Step) (s : State) → Sizes s → first_broken s ≡ 0 → one_by_one step_call s l ≡ one_by_one act s l
steps_are_acts [] s Z e = refl
steps_are_acts (t ∷ l) s Z e =
    ap (λ (o : Outcome). then o (one_by_one step_call o.next l)) (step_is_act s t Z e)
    ∙ ap (then (act s t)) (steps_are_acts l (act s t).next (sizes_kept s t Z e) (sound_kept s t Z e))

-- "checks soundness once and equals the steps one by one"
pub run_is_steps : RunIsSteps
run_is_steps s ws slots Z q e = run_acts s ws slots Z q e ∙ sym (steps_are_acts (steps_of ws) s Z e)

-- from fresh every step is what `act` does
pub step_after : (l : List Step) (t : Step) → step_call (after l) t ≡ act (after l) t
step_after l t = step_is_act (after l) t (after_sizes l) (after_sound l)
