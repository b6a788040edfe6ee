-- What ADMIT, RETIRE and BEGIN leave: the control record, the word that changes, whether marks are cleared, the answer.
-- The rows, and but for ADMIT the arena, are left to the caller; proofs/Acts joins these to the model's steps.
use Rattle.std.specs.Prelude.{Bool, true, not, List, [], ◌∷◌, ◌++◌, ℕ, Result, Ok, Err}
use Rattle.model.specs.declared.Control.{Control}
use Rattle.model.specs.declared.Answer.TheVariants.{Refused, Admitted, Begun, Done}
use Rattle.model.specs.Arena.{cells, none, start, place, flagged, cells_at, new_record, laid, lowest_run}
use Rattle.model.specs.declared.Reason.{Reason}
use Rattle.model.specs.State.{stage_of, in_hand, with_move, with_begun, rise, entry, reason_number}
use Rattle.model.specs.ClientSteps.{puts}
use Rattle.model.specs.KeeperSteps.{taken, freed, with_entry, first_move}
use Rattle.model.specs.Choice.{Refusal, ◌if◌, refuse}
use Rattle.model.specs.Refusals.{bad_meter, bad_kind, is_none, admit_refusals, begin_refusals}
use Rattle.mover.specs.declared.Kept.{Kept}
use Rattle.mover.specs.Kept.{kept, stays}

abbrev pub refused_kept : Control → ℕ → Kept Control
refused_kept c n = stays c (Refused n)

-- what a step gives, as what it leaves: where it is refused, the control record as it was, and the number of the reason
abbrev pub settled : Control → Result (Kept Control) Reason → Kept Control
settled c (Ok o) = o
settled c (Err reason) = refused_kept c (reason_number reason)

-- 5, 8 and 10: the lines that RETIRE and BEGIN have in common
abbrev pub record_refusals : List ℕ → ℕ → ℕ → List Refusal
record_refusals dir stage meter = 5 if bad_meter meter ∷ 8 if in_hand (stage_of stage) ∷ 10 if is_none (entry dir meter) ∷ []

-- and 11, RETIRE's own; whether some row holds the record is told
abbrev pub held_refusals : List ℕ → ℕ → Bool → ℕ → List Refusal
held_refusals dir stage held meter = record_refusals dir stage meter ++ (11 if held ∷ [])

-- RETIRE of the record at a cell
abbrev pub retired_kept : Control → List ℕ → ℕ → ℕ → Kept Control
retired_kept c arena meter cell = stays (with_entry (freed c cell (cells_at arena cell)) meter none) (Done 0)

unfoldable pub retire_step : Control → List ℕ → Bool → ℕ → Kept Control
retire_step c arena held meter =
    refuse (held_refusals c.dir c.mv.stage held meter) (refused_kept c) (retired_kept c arena meter (entry c.dir meter))

-- BEGIN of the record at `from`
abbrev pub begun_kept : Control → List ℕ → ℕ → ℕ → ℕ → Kept Control
begun_kept c arena meter from target =
    kept (with_begun (with_move (taken c target (cells_at arena from)) (first_move meter from target)) (rise c.begun))
    (puts (place from 0) (flagged from)) true (Begun target)

unfoldable pub begin_step : Control → List ℕ → ℕ → Kept Control
begin_step c arena meter =
    refuse (begin_refusals c arena meter) (refused_kept c)
    (begun_kept c arena meter (entry c.dir meter) (lowest_run c.map (cells_at arena (entry c.dir meter))))

-- 5 and 7: the lines that come before a search for the run
abbrev pub new_refusals : List ℕ → ℕ → ℕ → List Refusal
new_refusals dir meter kind = 5 if bad_meter meter ∷ 5 if bad_kind kind ∷ 7 if not (is_none (entry dir meter)) ∷ []

-- ADMIT: the control record, and the arena with the new record laid
abbrev pub admitted_kept : Control → ℕ → ℕ → ℕ → Kept Control
admitted_kept c meter kind at = stays (with_entry (taken c at (cells kind)) meter at) (Admitted at)

unfoldable pub admit_step : Control → ℕ → ℕ → Kept Control
admit_step c meter kind =
    refuse (admit_refusals c meter kind) (refused_kept c) (admitted_kept c meter kind (lowest_run c.map (cells kind)))

unfoldable pub admit_arena : Control → List ℕ → ℕ → ℕ → List ℕ
admit_arena c arena meter kind =
    refuse (admit_refusals c meter kind) (λ n. arena)
    (laid arena (start (lowest_run c.map (cells kind))) (new_record (lowest_run c.map (cells kind)) meter kind))
