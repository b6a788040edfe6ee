-- What ADVANCE leaves: the move or the control record, the word that changes, whether marks are cleared, the answer.
-- The arena and the rows themselves are left to the caller; proofs/Acts joins these to the model's steps.
use Rattle.std.specs.Prelude.{ℕ, Bool, true, false, List, ◌==◌, None}
use Rattle.model.specs.declared.Move.{Move}
use Rattle.model.specs.declared.Control.{Control}
use Rattle.model.specs.declared.Answer.{Answer}
use Rattle.model.specs.declared.Answer.TheVariants.{Refused, BarrierOpen, CopyingStarts, Copied, Committed, CalledOff, GivenBack}
use Rattle.model.specs.Choice.{pick}
use Rattle.model.specs.Arena.{place, header, plain, flagged, cells_at, words_at}
use Rattle.model.specs.declared.Stage.{Stage}
use Rattle.model.specs.declared.Stage.TheVariants.{NoMove, FirstBarrier, Copying, SecondBarrier, ThirdBarrier}
use Rattle.model.specs.State.{stage_number, no_move, with_stage}
use Rattle.model.specs.State.{with_move, with_committed, with_aborted, rise}
use Rattle.model.specs.ClientSteps.{Change, puts}
use Rattle.model.specs.KeeperSteps.{freed, with_entry, replica_word}
use Rattle.mover.specs.declared.Kept.{Kept}

abbrev pub kept : {T : Type 0} → T → Change → Bool → Answer → Kept T
kept x change clear answer = record { next = x; change = change; clear = clear; answer = answer }

-- only the answer is given
abbrev pub stays : {T : Type 0} → T → Answer → Kept T
stays x answer = kept x None false answer

-- ADVANCE by the move alone. First barrier: "if any row has not passed, answer 22, nothing changes; else to copying, answer 23"
unfoldable pub open_first : Move → Bool → Kept Move
open_first v passed = pick passed (stays (with_stage v Copying) CopyingStarts) (stays v BarrierOpen)

-- copying: "writes one word of the replica, in order from 0 .. After the last word marks are cleared and the stage is second barrier."
abbrev pub one_copied : Move → ℕ → Change → Bool → Kept Move
one_copied v stage change clear =
    kept (record { stage = stage; meter = v.meter; from = v.from; target = v.target; copied = rise v.copied }) change clear
    (Copied (rise v.copied))

abbrev pub copied_word : List ℕ → Move → Stage → Bool → Kept Move
copied_word arena v stage clear = one_copied v (stage_number stage) (puts (place v.target v.copied) (replica_word arena v)) clear

unfoldable pub copy_move : List ℕ → Move → Kept Move
copy_move arena v =
    pick (rise v.copied == words_at arena v.from) (copied_word arena v SecondBarrier true) (copied_word arena v Copying false)

-- at the second and third barrier the move alone is enough only to answer 22
abbrev pub advance_move : List ℕ → Move → Bool → Stage → Kept Move
advance_move arena v passed NoMove = stays v (Refused 9)
advance_move arena v passed FirstBarrier = open_first v passed
advance_move arena v passed Copying = copy_move arena v
advance_move arena v passed SecondBarrier = stays v BarrierOpen
advance_move arena v passed ThirdBarrier = stays v BarrierOpen

-- the second barrier, all passed: "Equal: header becomes 2 × target, directory entry the target, committed rises, marks are
-- cleared, stage third barrier, answer 25, value target."
abbrev pub commit_kept : Control → Kept Control
commit_kept c =
    kept (with_committed (with_move (with_entry c c.mv.meter c.mv.target) (with_stage c.mv ThirdBarrier)) (rise c.committed))
    (puts (place c.mv.from 0) (plain c.mv.target)) true (Committed c.mv.target)

-- a block of the moved record's length freed, and no move in hand
abbrev pub end_move : Control → List ℕ → ℕ → Control
end_move c arena cell = with_move (freed c cell (cells_at arena c.mv.from)) no_move

-- "Not equal: the replica's cells are freed, aborted rises, no move in hand, answer 26."
abbrev pub call_off_kept : Control → List ℕ → Kept Control
call_off_kept c arena = stays (with_aborted (end_move c arena c.mv.target) (rise c.aborted)) CalledOff

-- "compare the header with 2 × from + 1"
unfoldable pub settle_kept : Control → List ℕ → Kept Control
settle_kept c arena = pick (header arena c.mv.from == flagged c.mv.from) (commit_kept c) (call_off_kept c arena)

-- the third barrier, all passed: "Else the old block's cells are freed, no move in hand, answer 27."
abbrev pub give_back_kept : Control → List ℕ → Kept Control
give_back_kept c arena = stays (end_move c arena c.mv.from) GivenBack

-- the second and third barrier want the whole record, once all have passed; else the move alone is enough
abbrev pub closing : Bool → Stage → Bool
closing passed NoMove = false
closing passed FirstBarrier = false
closing passed Copying = false
closing passed SecondBarrier = passed
closing passed ThirdBarrier = passed

abbrev pub close_kept : Control → List ℕ → Stage → Kept Control
close_kept c arena NoMove = stays c BarrierOpen
close_kept c arena FirstBarrier = stays c BarrierOpen
close_kept c arena Copying = stays c BarrierOpen
close_kept c arena SecondBarrier = settle_kept c arena
close_kept c arena ThirdBarrier = give_back_kept c arena

-- what the move alone leaves, in the control record
abbrev pub on_move : Control → Kept Move → Kept Control
on_move c o = kept (with_move c o.next) o.change o.clear o.answer
