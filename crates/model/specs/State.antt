-- 01, "Arena, records, parties": the control record, the whole state that a step works on, fresh, and what a step answers.
use Rattle.std.specs.Prelude.{◌≡◌, Bool, true, false, List, [], ◌∷◌, ℕ, pred, ◌+◌, ◌%◌, ◌^◌, ◌<◌, leb, length, get_or, set, replicate}
use Rattle.model.specs.declared.Row.{Row}
use Rattle.model.specs.declared.Move.{Move}
use Rattle.model.specs.declared.Stage.{Stage}
use Rattle.model.specs.declared.Stage.TheVariants.{NoMove, FirstBarrier, Copying, SecondBarrier, ThirdBarrier}
use Rattle.model.specs.declared.Control.{Control}
use Rattle.model.specs.declared.Answer.{Answer}
use Rattle.model.specs.declared.Reason.{Reason}
use Rattle.model.specs.declared.Reason.TheVariants.{WrongSizes, Unsound, Nobody, Unknown, TooLarge, Unattached, Already, Busy}
use Rattle.model.specs.declared.Reason.TheVariants.{Idle, Absent, Held, Full, NoneBelow, PastPayload, Spent}
use Rattle.model.specs.Choice.{◌and◌, ◌or◌, All}
use Rattle.model.specs.Arena.{none, IsMap}
use Rattle.model.specs.Rows.{FourHolds, fresh_row}
use Rattle.model.specs.declared.Answer.TheVariants.{Refused, Admitted, Begun, BarrierOpen, CopyingStarts, Copied, Committed}
use Rattle.model.specs.declared.Answer.TheVariants.{CalledOff, GivenBack, Done, ReadyAt, WaitsOn, SwapWon, SwapLost, Got, Written}

-- the stages of a move, by number; any other number is no stage
abbrev pub stage_of : ℕ → Stage
stage_of n = get_or (NoMove ∷ FirstBarrier ∷ Copying ∷ SecondBarrier ∷ ThirdBarrier ∷ []) n NoMove

abbrev pub stage_number : Stage → ℕ
stage_number NoMove = 0
stage_number FirstBarrier = 1
stage_number Copying = 2
stage_number SecondBarrier = 3
stage_number ThirdBarrier = 4

-- "a move in hand"
abbrev pub in_hand : Stage → Bool
in_hand NoMove = false
in_hand FirstBarrier = true
in_hand Copying = true
in_hand SecondBarrier = true
in_hand ThirdBarrier = true

-- "the move in hand (stage, meter, old cell called from, target cell, words copied; all 0 when there is none"
abbrev pub no_move : Move
no_move = record { stage = 0; meter = 0; from = 0; target = 0; copied = 0 }

abbrev pub with_stage : Move → Stage → Move
with_stage v x = record { stage = stage_number x; meter = v.meter; from = v.from; target = v.target; copied = v.copied }

abbrev pub with_copied : Move → ℕ → Move
with_copied v x = record { stage = v.stage; meter = v.meter; from = v.from; target = v.target; copied = x }

-- the control record with one part changed
abbrev pub with_dir : Control → List ℕ → Control
with_dir c x = record { dir = x; map = c.map; mv = c.mv; begun = c.begun; committed = c.committed; aborted = c.aborted }

abbrev pub with_map : Control → List ℕ → Control
with_map c x = record { dir = c.dir; map = x; mv = c.mv; begun = c.begun; committed = c.committed; aborted = c.aborted }

abbrev pub with_move : Control → Move → Control
with_move c x = record { dir = c.dir; map = c.map; mv = x; begun = c.begun; committed = c.committed; aborted = c.aborted }

abbrev pub with_begun : Control → ℕ → Control
with_begun c x = record { dir = c.dir; map = c.map; mv = c.mv; begun = x; committed = c.committed; aborted = c.aborted }

abbrev pub with_committed : Control → ℕ → Control
with_committed c x = record { dir = c.dir; map = c.map; mv = c.mv; begun = c.begun; committed = x; aborted = c.aborted }

abbrev pub with_aborted : Control → ℕ → Control
with_aborted c x = record { dir = c.dir; map = c.map; mv = c.mv; begun = c.begun; committed = c.committed; aborted = x }

-- a count "rises by one"; its 32 bits wrap, which no sound state lets happen
unfoldable pub rise : ℕ → ℕ
rise n = (n + 1) % 2 ^ 32

-- the directory's entry of a meter; a meter above 255 is absent
abbrev pub entry : List ℕ → ℕ → ℕ
entry dir meter = get_or dir meter none

-- control record, arena and client table
pub record State : Type 0 where
  pub control : Control
  pub arena : List ℕ
  pub table : List Row

abbrev pub state : Control → List ℕ → List Row → State
state c a t = record { control = c; arena = a; table = t }

abbrev pub with_control : State → Control → State
with_control s x = state x s.arena s.table

abbrev pub with_arena : State → List ℕ → State
with_arena s x = state s.control x s.table

abbrev pub with_table : State → List Row → State
with_table s x = state s.control s.arena x

-- "1 to 8 the clients": the row of client `who`
abbrev pub row_of : State → ℕ → Row
row_of s who = get_or s.table (pred who) fresh_row

abbrev pub with_row : State → ℕ → Row → State
with_row s who x = with_table s (set s.table (pred who) x)

-- "Fresh zeroes the arena, empties the directory, map and counts, and leaves eight unattached rows: passed, resting, holds empty, swaps
-- 0."; "A fresh directory has all 256 meters absent."
abbrev pub fresh_control : Control
fresh_control = record { dir = replicate 256 none; map = replicate 16 0; mv = no_move; begun = 0; committed = 0; aborted = 0 }

abbrev pub fresh : State
fresh = state fresh_control (replicate 8192 0) (replicate 8 fresh_row)

-- what the code's types and its test of sizes say of a state: the lengths of its parts, 64 bits in a word of the map, 32 in a count
pub record Sizes (s : State) : Type 0 where
  pub entries : length s.control.dir ≡ 256
  pub map : IsMap s.control.map
  pub begun : s.control.begun < 2 ^ 32
  pub arena : length s.arena ≡ 8192
  pub rows : length s.table ≡ 8
  pub holds : All FourHolds s.table

-- 01's number and value for each answer: a refusal's is that of the table, the others are named at the steps and calls.
-- "Values not named are 0."
abbrev pub told : Answer → ℕ × ℕ
told (Refused n) = (n, 0)
told (Admitted c) = (20, c)
told (Begun target) = (21, target)
told BarrierOpen = (22, 0)
told CopyingStarts = (23, 0)
told (Copied n) = (24, n)
told (Committed target) = (25, target)
told CalledOff = (26, 0)
told GivenBack = (27, 0)
told (Done x) = (30, x)
told (ReadyAt target) = (31, target)
told (WaitsOn c) = (32, c)
told SwapWon = (33, 1)
told SwapLost = (33, 0)
told (Got x) = (34, x)
told Written = (35, 0)

abbrev pub number : Answer → ℕ
number x = (told x).0

abbrev pub value : Answer → ℕ
value x = (told x).1

-- 01's number of each reason of refusal, and the answer that gives it
abbrev pub reason_number : Reason → ℕ
reason_number WrongSizes = 1
reason_number Unsound = 2
reason_number Nobody = 3
reason_number Unknown = 4
reason_number TooLarge = 5
reason_number Unattached = 6
reason_number Already = 7
reason_number Busy = 8
reason_number Idle = 9
reason_number Absent = 10
reason_number Held = 11
reason_number Full = 12
reason_number NoneBelow = 13
reason_number PastPayload = 14
reason_number Spent = 15

abbrev pub refusal : Reason → Answer
refusal x = Refused (reason_number x)

-- what a step answers, and the state that it leaves
pub record Outcome : Type 0 where
  pub answer : Answer
  pub next : State

abbrev pub outcome : Answer → State → Outcome
outcome x s = record { answer = x; next = s }

-- 01's answer numbers: refusals 1 to 15, 20 to 27 and 30 to 35
abbrev pub number_of01 : ℕ → Bool
number_of01 n = (leb 1 n and leb n 15) or (leb 20 n and leb n 27) or (leb 30 n and leb n 35)

-- the answer is one of these; of a refusal "All memory and the control record are then as before, and the value is 0."
pub record Answered (s : State) (o : Outcome) : Type 0 where
  pub tabled : number_of01 (number o.answer) ≡ true
  pub unchanged : number o.answer < 20 → (value o.answer ≡ 0) × (o.next ≡ s)
