-- 01, "The steps", clients: what each step does to the client's row, and the one word of the arena that it may change.
use Rattle.std.specs.Prelude.{true, false, List, map, ℕ, Option, Some, None, eqb, get_or, set}
use Rattle.model.specs.declared.Access.{Access}
use Rattle.model.specs.declared.Access.TheVariants.{Read, Write}
use Rattle.model.specs.declared.Phase.{Phase}
use Rattle.model.specs.declared.Phase.TheVariants.{Resting, Ready, Waiting}
use Rattle.model.specs.declared.Row.{Row}
use Rattle.model.specs.declared.Answer.{Answer}
use Rattle.model.specs.declared.Answer.TheVariants.{Refused, Done, ReadyAt, WaitsOn, SwapWon, SwapLost, Got, Written}
use Rattle.model.specs.declared.Put.{Put}
use Rattle.model.specs.declared.Stepped.{Stepped}
use Rattle.model.specs.Choice.{pick}
use Rattle.model.specs.Arena.{none, place, header, plain, flagged, target_of, flag_of, payload_place}
use Rattle.model.specs.Rows.{hold, hold_of, empty_holds, with_attached, with_passed, with_holds, with_swaps, with_phase}
use Rattle.model.specs.State.{rise}

-- the word of the arena that a step changes, if any
abbrev pub Change : Type 0
Change = Option Put

abbrev pub puts : ℕ → ℕ → Change
puts at w = Some (record { at = at; word = w })

abbrev pub stepped : Row → Change → Answer → Stepped
stepped r change x = record { row = r; change = change; answer = x }

-- "All answer 30.": ATTACH, DETACH, OPEN, DROP, and REST
abbrev pub done : Row → Stepped
done r = stepped r None (Done 0)

-- 10 "ATTACH: attached, passed, holds empty."
abbrev pub attach : Row → Stepped
attach r = done (with_holds (with_passed (with_attached r true) true) empty_holds)

-- 11 "DETACH: unattached, passed, holds empty; swaps stay."
abbrev pub detach : Row → Stepped
detach r = done (with_holds (with_passed (with_attached r false) true) empty_holds)

-- 12 "OPEN a = meter, b = hold: the hold gets the directory's cell, even over an old hold."
abbrev pub open_hold : Row → ℕ → ℕ → Stepped
open_hold r h entry = done (with_holds r (set r.holds h entry))

-- 13 "DROP a = hold: empties it."
abbrev pub drop_hold : Row → ℕ → Stepped
drop_hold r h = done (with_holds r (set r.holds h none))

-- 14 READ, 15 WRITE: "Loads the held record's header. Flag 0: ready at its target, answer 31 with the target. Flag 1: waiting,
-- answer 32 with the record's cell."
unfoldable pub at_header : Row → Access → ℕ → ℕ → Stepped
at_header r x c h =
    pick (flag_of h)
    (stepped (with_phase r (Waiting c x)) None (WaitsOn c))
    (stepped (with_phase r (Ready (target_of h) x)) None (ReadyAt (target_of h)))

abbrev pub load_header : List ℕ → Row → Access → Stepped
load_header arena r x = at_header r x (hold r (hold_of x)) (header arena (hold r (hold_of x)))

-- 16 GO. "Waiting: one swap. If the header is 2 × cell + 1 it becomes 2 × cell, ready at cell, answer 33 value 1. Otherwise
-- ready at the header's target, answer 33 value 0. Swaps rises by one in both."
abbrev pub swapped : Row → ℕ → Access → Row
swapped r c x = with_phase (with_swaps r (rise r.swaps)) (Ready c x)

unfoldable pub swap : List ℕ → Row → ℕ → Access → Stepped
swap arena r c x =
    pick (eqb (header arena c) (flagged c))
    (stepped (swapped r c x) (puts (place c 0) (plain c)) SwapWon)
    (stepped (swapped r (target_of (header arena c)) x) None SwapLost)

-- "Ready: the access is done, the row rests; answer 34 with the value read, or 35."
abbrev pub finish : List ℕ → Row → ℕ → Access → Stepped
finish arena r c (Read h w) = stepped (with_phase r Resting) None (Got (get_or arena (payload_place c w) 0))
finish arena r c (Write h w v) = stepped (with_phase r Resting) (puts (payload_place c w) v) Written

abbrev pub go : List ℕ → Row → Phase → Stepped
go arena r Resting = stepped r None (Refused 9)
go arena r (Ready c x) = finish arena r c x
go arena r (Waiting c x) = swap arena r c x

-- 17 REST. "Each hold becomes its header's target, then passed is set; an empty hold stays empty."
unfoldable pub forwarded : List ℕ → ℕ → ℕ
forwarded arena h = pick (eqb h none) none (target_of (header arena h))

abbrev pub rest : List ℕ → Row → Stepped
rest arena r = done (with_passed (with_holds r (map (forwarded arena) r.holds)) true)

-- the arena after a client's step
abbrev pub changed : List ℕ → Change → List ℕ
changed arena None = arena
changed arena (Some p) = set arena p.at p.word
