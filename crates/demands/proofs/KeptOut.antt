-- One outcome, and the programs that are kept out: each fails at a step that the checker computes. Assumes nothing.
use mathlib.Core.Path.{◌≡◌, refl, sym, ap, ◌∙◌}
use mathlib.Core.List.{List, []}
use Prim.Native.Nat.{ℕ}
use native.Mathlib.Omega.{arith}
use lib.ListN.{get_or}
use Rattle.model.specs.declared.Answer.TheVariants.{Refused, Admitted}
use Rattle.model.specs.Arena.{kind_table, of_kind, none, word, laid, bit, with_bit, used, put, put_run, free_cells, run_at, lowest_from, lowest_run}
use Rattle.model.specs.State.{State, rise, Outcome, number, fresh}
use Rattle.model.specs.KeeperSteps.{move_of, barrier, replica_word, copy_word}
use Rattle.model.specs.Steps.{Step, step, act, step_call}
use Rattle.demands.specs.Log.{Program, after}
use Rattle.demands.specs.Promises.{reached}
use Rattle.demands.specs.KeptOut.{Meets, OneOutcome, RefusesEverything, AnswersAlike, TouchesNothing, about_to_copy, CopiesAtOnce}
use Rattle.demands.specs.KeptOut.{InventsCounts, AreKeptOut}
use Rattle.demands.proofs.Runs.{step_after}
use Rattle.demands.proofs.Promised.{same_step, same_state, same_history, reached_is, demand3}

pub one_outcome : OneOutcome
one_outcome f g mf mg s t = mf s t ∙ sym (mg s t)

-- a meter is admitted to a fresh archive: answer 20, and the directory has it
abbrev admission : Step
admission = step 0 1 0 0 0

-- nobody steps: answer 3
abbrev stranger : Step
stranger = step 9 0 0 0 0

admitted : (act fresh admission).answer ≡ Admitted 0
unfolding kind_table of_kind bit used free_cells run_at lowest_from lowest_run act
admitted = refl

enters : get_or (act fresh admission).next.control.dir 0 0 ≡ 0
unfolding kind_table of_kind bit used free_cells run_at lowest_from lowest_run act
enters = refl

strange : number (act fresh stranger).answer ≡ 3
unfolding act
strange = refl

-- the first ADVANCE of a move that copies leaves the replica's label as it was: the retired record's 4, where the moved one's is 8
copies_one : word (act (after about_to_copy) (step 0 4 0 0 0)).next.arena (move_of (after about_to_copy)).target 1 ≡ 4
unfolding kind_table of_kind laid bit with_bit used put put_run free_cells run_at lowest_from lowest_run rise barrier replica_word copy_word act
copies_one = refl

has_label : word (after about_to_copy).arena (move_of (after about_to_copy)).from 1 ≡ 8
unfolding kind_table of_kind laid bit with_bit used put put_run free_cells run_at lowest_from lowest_run rise barrier replica_word copy_word act
has_label = refl

-- on what is reached a program that meets the contract does as `act` does
meets_reached : (f : Program) → Meets f → (l : List Step) (t : Step) → f (reached l) t ≡ act (after l) t
meets_reached f m l t = m (reached l) t ∙ same_step step_call act step_after l t (reached_is l)

module _ (f : Program) (m : Meets f) where
  answers : (t : Step) → (f fresh t).answer ≡ (act fresh t).answer
  answers t = ap (λ (o : Outcome). o.answer) (meets_reached f m [] t)

  not_refusing : ¬ (RefusesEverything f)
  not_refusing r =
      let n = (r fresh admission).0 in
      let e : Admitted 0 ≡ Refused n = sym admitted ∙ sym (answers admission) ∙ (r fresh admission).1 in
      let z : ◌≡◌ {A = ℕ} 0 1 = cc in
      omega arith

  not_constant : ¬ (AnswersAlike f)
  not_constant (x, same) =
      let e : number (act fresh admission).answer ≡ number (act fresh stranger).answer =
      ap number (sym (answers admission) ∙ same fresh admission ∙ sym (same fresh stranger) ∙ answers stranger) in
      omega (arith, ap number admitted, strange)

  not_idle : ¬ (TouchesNothing f)
  not_idle same =
      let e : get_or (act fresh admission).next.control.dir 0 0 ≡ none =
      ap (λ (s : State). get_or s.control.dir 0 0)
      (ap (λ (o : Outcome). o.next) (sym (meets_reached f m [] admission)) ∙ same fresh admission) in
      omega (arith, enters)

  not_at_once : ¬ (CopiesAtOnce f)
  not_at_once e =
      let c : word (act (after about_to_copy) (step 0 4 0 0 0)).next.arena (move_of (after about_to_copy)).target 1
      ≡ word (after about_to_copy).arena (move_of (after about_to_copy)).from 1 =
      rw (meets_reached f m about_to_copy (step 0 4 0 0 0), reached_is about_to_copy) at e in
      omega (arith, copies_one, has_label)

  agrees : (l : List Step) (t : Step) → f (reached l) t ≡ step_call (reached l) t
  agrees l t = m (reached l) t

  not_inventing : ¬ (InventsCounts f)
  not_inventing (l, wrong) = wrong (rw (same_state f step_call agrees l, same_history f step_call agrees l) (demand3 l).1)

pub are_kept_out : AreKeptOut
are_kept_out f m =
    record {
      refusing = not_refusing f m;
      constant = not_constant f m;
      idle = not_idle f m;
      at_once = not_at_once f m;
      inventing = not_inventing f m;
    }
