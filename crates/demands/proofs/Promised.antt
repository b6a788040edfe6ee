-- Demands 2 and 3 are met. The history by the library's step is the log by `act`, since every state reached is sound; each promise of a
-- history is then a theorem over the log, line by line. Demand 1 is `Requests.demand1`; the promises of every sound state are kept by
-- `Kept.sound_kept`, `NoWrap.no_count_wraps` and `Runs.run_is_steps`. Assumes nothing.
use mathlib.Core.Path.{◌≡◌, refl, ap, ◌∙◌}
use mathlib.Core.List.{List, [], ◌∷◌}
use Rattle.model.specs.State.{State, Outcome}
use Rattle.model.specs.Steps.{Step, act, step_call}
use Rattle.demands.specs.Log.{Line, line, Log, Program, reached_by, history_by, after, log}
use Rattle.demands.specs.Promises.{reached, history, EachLine, ReadRight, WriteRight, AccessPrice, MovePrice, Demand2, Demand3}
use Rattle.demands.specs.Promises.{ReachedSound}
use Rattle.demands.proofs.Kept.{after_sound}
use Rattle.demands.proofs.Runs.{step_after}
use Rattle.demands.proofs.LastWritten.{read_right, write_right}
use Rattle.demands.proofs.MoveCounts.{begun_is_answered, committed_is_answered, aborted_is_answered, move_price}
use Rattle.demands.proofs.SwapCounts.{swaps_are_answered, slot_swaps_at_most_begun, all_swaps_at_most_begun}
use Rattle.demands.proofs.SwapCounts.{called_off_at_most_swaps}
use Rattle.demands.proofs.Accesses.{access_heard}

-- two programs that agree on what the second reaches reach the same, and have the same history
module _ (f g : Program) (same : (l : List Step) (t : Step) → f (reached_by g l) t ≡ g (reached_by g l) t) where
  pub same_step : (l : List Step) (t : Step) → reached_by f l ≡ reached_by g l → f (reached_by f l) t ≡ g (reached_by g l) t
  same_step l t e = ap (λ (s : State). f s t) e ∙ same l t

  pub same_state : (l : List Step) → reached_by f l ≡ reached_by g l
  same_state [] = refl
  same_state (t ∷ l) = ap (λ (o : Outcome). o.next) (same_step l t (same_state l))

  pub same_history : (l : List Step) → history_by f l ≡ history_by g l
  same_history [] = refl
  same_history (t ∷ l) =
      ap (λ (o : Outcome). line t o.answer ∷ history_by f l) (same_step l t (same_state l))
      ∙ ap (λ (h : Log). line t (g (reached_by g l) t).answer ∷ h) (same_history l)

-- on what is reached from fresh the step with its tests is `act`
pub reached_is : (l : List Step) → reached l ≡ after l
reached_is = same_state step_call act step_after

history_is : (l : List Step) → history l ≡ log l
history_is = same_history step_call act step_after

-- what holds of each line of a log holds of a history
each_line : (P : Line → Log → Type 0) → ((l : List Step) (t : Step) → P (line t (act (after l) t).answer) (log l))
    → (l : List Step) → EachLine P (history l)
each_line P h l = rw (history_is l) (by l)
  where
    by : (l : List Step) → EachLine P (log l)
    by [] = tt
    by (t ∷ l) = (h l t, by l)

-- Demand 2
pub demand2 : Demand2
demand2 l = (each_line ReadRight read_right l, each_line WriteRight write_right l)

-- Demand 3
pub demand3 : Demand3
demand3 l = (
  record {
    slot_swaps = rw (history_is l) (slot_swaps_at_most_begun l);
    all_swaps = rw (history_is l) (called_off_at_most_swaps l, all_swaps_at_most_begun l);
    accesses = each_line AccessPrice access_heard l;
    moves = each_line MovePrice move_price l;
  },
  rw (reached_is l, history_is l)
      (record {
        begun = begun_is_answered l;
        committed = committed_is_answered l;
        aborted = aborted_is_answered l;
        swaps = swaps_are_answered l;
      }),
)

-- soundness
pub reached_sound : ReachedSound
reached_sound l = rw (reached_is l) (after_sound l)
