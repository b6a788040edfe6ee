-- 01, "The steps", keeper: what each accepted step does to the state.
use Rattle.std.specs.Prelude.{List, ℕ, eqb, set}
use Rattle.model.specs.declared.Row.{Row}
use Rattle.model.specs.declared.Move.{Move}
use Rattle.model.specs.declared.Control.{Control}
use Rattle.model.specs.declared.Answer.TheVariants.{Refused, Admitted, Begun, BarrierOpen, CopyingStarts, Copied, Committed}
use Rattle.model.specs.declared.Answer.TheVariants.{CalledOff, GivenBack, Done}
use Rattle.model.specs.Choice.{pick}
use Rattle.model.specs.Arena.{cells, none, start, place, word, header, plain, flagged, cells_at, words_at, new_record, laid, put_run}
use Rattle.model.specs.Rows.{clear_marks, all_passed}
use Rattle.model.specs.declared.Stage.{Stage}
use Rattle.model.specs.declared.Stage.TheVariants.{NoMove, FirstBarrier, Copying, SecondBarrier, ThirdBarrier}
use Rattle.model.specs.State.{stage_number, no_move, with_stage}
use Rattle.model.specs.State.{with_copied, with_dir, with_map, with_move, with_begun, with_committed, with_aborted, rise, State, state}
use Rattle.model.specs.State.{with_control, Outcome, outcome}

-- "Its cells become used", "cells free": the n cells from c on
abbrev pub taken : Control → ℕ → ℕ → Control
taken c at n = with_map c (put_run c.map at n 1)

abbrev pub freed : Control → ℕ → ℕ → Control
freed c at n = with_map c (put_run c.map at n 0)

abbrev pub with_entry : Control → ℕ → ℕ → Control
with_entry c meter cell = with_dir c (set c.dir meter cell)

-- 1 "ADMIT a = meter, b = kind. Takes the lowest run of free cells long enough. Header 2c, label set, payload zero. Answer 20,
-- value c."
abbrev pub admit : State → ℕ → ℕ → ℕ → Outcome
admit s meter kind c =
    outcome (Admitted c)
    (state (with_entry (taken s.control c (cells kind)) meter c) (laid s.arena (start c) (new_record c meter kind)) s.table)

-- 2 "RETIRE a = meter. Directory entry absent, cells free. Answer 30."
abbrev pub retire : State → ℕ → ℕ → Outcome
retire s meter c = outcome (Done 0) (with_control s (with_entry (freed s.control c (cells_at s.arena c)) meter none))

-- 3 "BEGIN a = meter. The target is the lowest free run of the record's length. Its cells become used, the flag is set, begun
-- rises by one, passed marks are cleared, the stage is first barrier. Answer 21, value target."
abbrev pub first_move : ℕ → ℕ → ℕ → Move
first_move meter from target = record { stage = stage_number FirstBarrier; meter = meter; from = from; target = target; copied = 0 }

abbrev pub begin : State → ℕ → ℕ → ℕ → Outcome
begin s meter from target =
    outcome (Begun target)
    (state
    (with_begun (with_move (taken s.control target (cells_at s.arena from)) (first_move meter from target))
    (rise s.control.begun))
    (set s.arena (place from 0) (flagged from)) (clear_marks s.table))

-- 4 ADVANCE, by stage: the move in hand
abbrev pub move_of : State → Move
move_of s = s.control.mv

-- at each barrier: "if any row has not passed, answer 22, nothing changes; else .."
unfoldable pub barrier : State → Outcome → Outcome
barrier s beyond = pick (all_passed s.table) beyond (outcome BarrierOpen s)

-- first barrier: "else to copying, answer 23"
abbrev pub start_copying : State → Outcome
start_copying s = outcome CopyingStarts (with_control s (with_move s.control (with_stage (move_of s) Copying)))

-- copying: "writes one word of the replica, in order from 0: word 0 is 2 × target, every other word is copied. Answer 24, value
-- words done. After the last word marks are cleared and the stage is second barrier."
unfoldable pub replica_word : List ℕ → Move → ℕ
replica_word arena v = pick (eqb v.copied 0) (plain v.target) (word arena v.from v.copied)

abbrev pub copied : State → Stage → List Row → Outcome
copied s stage table =
    outcome (Copied (rise (move_of s).copied))
    (state (with_move s.control (with_copied (with_stage (move_of s) stage) (rise (move_of s).copied)))
    (set s.arena (place (move_of s).target (move_of s).copied) (replica_word s.arena (move_of s)))
    table)

unfoldable pub copy_word : State → Outcome
copy_word s =
    pick (eqb (rise (move_of s).copied) (words_at s.arena (move_of s).from))
    (copied s SecondBarrier (clear_marks s.table))
    (copied s Copying s.table)

-- second barrier: "Equal: header becomes 2 × target, directory entry the target, committed rises, marks are cleared, stage third
-- barrier, answer 25, value target."
abbrev pub commit : State → Outcome
commit s =
    outcome (Committed (move_of s).target)
    (state
    (with_committed (with_move (with_entry s.control (move_of s).meter (move_of s).target) (with_stage (move_of s) ThirdBarrier))
    (rise s.control.committed))
    (set s.arena (place (move_of s).from 0) (plain (move_of s).target)) (clear_marks s.table))

-- "Not equal: the replica's cells are freed, aborted rises, no move in hand, answer 26."
abbrev pub call_off : State → Outcome
call_off s =
    outcome CalledOff
    (with_control s
    (with_aborted (with_move (freed s.control (move_of s).target (cells_at s.arena (move_of s).from)) no_move)
    (rise s.control.aborted)))

-- "Else compare the header with 2 × from + 1."
unfoldable pub settle : State → Outcome
settle s = pick (eqb (header s.arena (move_of s).from) (flagged (move_of s).from)) (commit s) (call_off s)

-- third barrier: "Else the old block's cells are freed, no move in hand, answer 27."
abbrev pub give_back : State → Outcome
give_back s = outcome GivenBack (with_control s (with_move (freed s.control (move_of s).from (cells_at s.arena (move_of s).from)) no_move))

-- with no move in hand it was refused by 9
abbrev pub advance : State → Stage → Outcome
advance s NoMove = outcome (Refused 9) s
advance s FirstBarrier = barrier s (start_copying s)
advance s Copying = copy_word s
advance s SecondBarrier = barrier s (settle s)
advance s ThirdBarrier = barrier s (give_back s)
