-- What ADVANCE leaves, put back into the state, is what the model's step does: answer, control record, arena, marks.
-- Assumes nothing.
use Rattle.std.proofs.Common.{◌≡◌, ℕ, Bool, true, false, not, eqb, List, sym, refl, ap, ◌∙◌}
use Rattle.model.specs.declared.Row.{Row}
use Rattle.model.specs.declared.Control.{Control}
use Rattle.model.specs.declared.Move.{Move}
use Rattle.model.specs.declared.Answer.TheVariants.{BarrierOpen}
use Rattle.model.specs.Choice.{pick, refuse}
use Rattle.model.specs.Arena.{header, flagged, words_at}
use Rattle.model.specs.Rows.{clear_marks, all_passed}
use Rattle.model.specs.declared.Stage.{Stage}
use Rattle.model.specs.declared.Stage.TheVariants.{NoMove, FirstBarrier, Copying, SecondBarrier, ThirdBarrier}
use Rattle.model.specs.State.{stage_of, in_hand, rise, State}
use Rattle.model.specs.State.{state, Outcome, outcome}
use Rattle.model.specs.ClientSteps.{changed}
use Rattle.model.specs.KeeperSteps.{move_of, barrier, start_copying, copy_word, settle, advance}
use Rattle.model.specs.Steps.{Step, Name, ADVANCE, name_of, refusals, effect, refused, act}
use Rattle.model.proofs.Choice.{pick_map}
use Rattle.mover.specs.declared.Kept.{Kept}
use Rattle.mover.specs.Kept.{stays, open_first, copy_move, commit_kept, call_off_kept, settle_kept, give_back_kept, on_move}
use Rattle.mover.specs.Kept.{closing, close_kept, advance_move}

-- ADVANCE as a whole
abbrev pub advance_kept : Control → List ℕ → Bool → Stage → Kept Control
advance_kept c arena passed x = pick (closing passed x) (close_kept c arena x) (on_move c (advance_move arena c.mv passed x))

-- what a step leaves, put back into the state: the word that changes, and the marks where they are cleared
abbrev pub marked : Bool → List Row → List Row
marked true table = clear_marks table
marked false table = table

abbrev pub placed : State → Kept Control → Outcome
placed s o = outcome o.answer (state o.next (changed s.arena o.change) (marked o.clear s.table))

-- a step by its name
pub act_named : (s : State) (t : Step) (x : Name) → name_of t ≡ x → act s t ≡ refuse (refusals x s t) (refused s) (effect x s t)
unfolding act
act_named s t x e = ap (λ (n : Name). refuse (refusals n s t) (refused s) (effect n s t)) e

-- ADVANCE, stage by stage
first_acts : (s : State) → barrier s (start_copying s) ≡ placed s (on_move s.control (open_first (move_of s) (all_passed s.table)))
unfolding barrier open_first
first_acts s = sym (pick_map (λ (o : Kept Move). placed s (on_move s.control o)) (all_passed s.table) _ _)

copying_acts : (s : State) → copy_word s ≡ placed s (on_move s.control (copy_move s.arena (move_of s)))
unfolding copy_word copy_move
copying_acts s =
    sym (pick_map (λ (o : Kept Move). placed s (on_move s.control o))
    (eqb (rise (move_of s).copied) (words_at s.arena (move_of s).from)) _ _)

settle_acts : (s : State) → settle s ≡ placed s (settle_kept s.control s.arena)
unfolding settle settle_kept
settle_acts s =
    sym (pick_map (placed s) (eqb (header s.arena (move_of s).from) (flagged (move_of s).from)) (commit_kept s.control)
    (call_off_kept s.control s.arena))

-- a barrier on the whole record: what lies beyond it, or 22
barrier_acts : (s : State) (o : Kept Control)
    → barrier s (placed s o) ≡ placed s (pick (all_passed s.table) o (on_move s.control (stays (move_of s) BarrierOpen)))
unfolding barrier
barrier_acts s o = sym (pick_map (placed s) (all_passed s.table) o (on_move s.control (stays (move_of s) BarrierOpen)))

pub advance_acts : (s : State) (t : Step) → name_of t ≡ ADVANCE
    → act s t ≡ placed s (advance_kept s.control s.arena (all_passed s.table) (stage_of (move_of s).stage))
advance_acts s t e = act_named s t ADVANCE e ∙ by (stage_of (move_of s).stage)
  where
    by : (x : Stage)
        → pick (not (in_hand x)) (refused s 9) (advance s x) ≡ placed s (advance_kept s.control s.arena (all_passed s.table) x)
    by NoMove = refl
    by FirstBarrier = first_acts s
    by Copying = copying_acts s
    by SecondBarrier = ap (barrier s) (settle_acts s) ∙ barrier_acts s (settle_kept s.control s.arena)
    by ThirdBarrier = barrier_acts s (give_back_kept s.control s.arena)
