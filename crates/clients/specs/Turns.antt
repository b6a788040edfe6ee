-- A client's turn: its step refused by the lowest number that applies, or done; on its own row and the arena.
use Rattle.std.specs.Prelude.{ℕ, List, None, Result, Ok, Err}
use Rattle.model.specs.declared.Access.{Access}
use Rattle.model.specs.declared.Access.TheVariants.{Read, Write}
use Rattle.model.specs.declared.Row.{Row}
use Rattle.model.specs.declared.Answer.TheVariants.{Refused}
use Rattle.model.specs.declared.Reason.{Reason}
use Rattle.model.specs.declared.Stepped.{Stepped}
use Rattle.model.specs.Rows.{hold_of, word_of}
use Rattle.model.specs.State.{reason_number}
use Rattle.model.specs.ClientSteps.{stepped, attach, detach, open_hold, drop_hold, load_header, go, rest}
use Rattle.model.specs.Choice.{Refusal, refuse}
use Rattle.model.specs.Refusals.{attach_refusals, rest_refusals, open_refusals, drop_refusals, access_refusals, go_refusals}
use Rattle.model.specs.Steps.{Name, ATTACH, DETACH, OPEN, DROP, READ, WRITE, GO, REST, ADMIT, RETIRE, BEGIN, ADVANCE, UNKNOWN, NOBODY}

-- "All memory and the control record are then as before, and the value is 0."
abbrev pub refused_turn : Row → ℕ → Stepped
refused_turn r n = stepped r None (Refused n)

-- what a step's function gives, taken as a turn: its reason refuses
abbrev pub settled : Row → Result Stepped Reason → Stepped
settled r (Ok o) = o
settled r (Err reason) = refused_turn r (reason_number reason)

unfoldable pub turn : List Refusal → Row → Stepped → Stepped
turn l r o = refuse l (refused_turn r) o

abbrev pub attach_turn : Row → Stepped
attach_turn r = turn (attach_refusals r) r (attach r)

abbrev pub detach_turn : Row → Stepped
detach_turn r = turn (rest_refusals r) r (detach r)

abbrev pub open_turn : Row → ℕ → ℕ → ℕ → Stepped
open_turn r entry meter h = turn (open_refusals r entry meter h) r (open_hold r h entry)

abbrev pub drop_turn : Row → ℕ → Stepped
drop_turn r h = turn (drop_refusals r h) r (drop_hold r h)

-- READ and WRITE
abbrev pub access_turn : List ℕ → Row → Access → Stepped
access_turn arena r x = turn (access_refusals arena r (hold_of x) (word_of x)) r (load_header arena r x)

abbrev pub go_turn : List ℕ → Row → Stepped
go_turn arena r = turn (go_refusals r) r (go arena r r.phase)

abbrev pub rest_turn : List ℕ → Row → Stepped
rest_turn arena r = turn (rest_refusals r) r (rest arena r)

-- the turn by the step's name and its numbers a, b, v; `entry` is the directory's of meter a; any other name is no client's
abbrev pub client_turn : Name → List ℕ → Row → ℕ → ℕ → ℕ → ℕ → Stepped
client_turn ATTACH arena r entry a b v = attach_turn r
client_turn DETACH arena r entry a b v = detach_turn r
client_turn OPEN arena r entry a b v = open_turn r entry a b
client_turn DROP arena r entry a b v = drop_turn r a
client_turn READ arena r entry a b v = access_turn arena r (Read a b)
client_turn WRITE arena r entry a b v = access_turn arena r (Write a b v)
client_turn GO arena r entry a b v = go_turn arena r
client_turn REST arena r entry a b v = rest_turn arena r
client_turn ADMIT arena r entry a b v = refused_turn r 4
client_turn RETIRE arena r entry a b v = refused_turn r 4
client_turn BEGIN arena r entry a b v = refused_turn r 4
client_turn ADVANCE arena r entry a b v = refused_turn r 4
client_turn UNKNOWN arena r entry a b v = refused_turn r 4
client_turn NOBODY arena r entry a b v = refused_turn r 4
