-- 01, "The steps": "A step is five numbers: who, code, a, b, v. Who 0 is the keeper, 1 to 8 the clients." Then the calls.
use Rattle.std.specs.Prelude.{Bool, true, not, List, [], ◌∷◌, ℕ, zero, suc, ◌+◌, ◌*◌, ◌/◌, ◌%◌, eqb, ltb, leb, length, get_or}
use Rattle.model.specs.declared.Access.TheVariants.{Read, Write}
use Rattle.model.specs.declared.Row.{Row}
use Rattle.model.specs.declared.Answer.{Answer}
use Rattle.model.specs.declared.Answer.TheVariants.{Refused, Done}
use Rattle.model.specs.declared.Stepped.{Stepped}
use Rattle.model.specs.Choice.{pick, ◌and◌, Refusal, ◌if◌, refuse}
use Rattle.model.specs.Arena.{cells, cells_at, lowest_run, fill}
use Rattle.model.specs.State.{stage_of, entry, State, with_arena, with_row, row_of, Outcome, outcome, number, value, fresh}
use Rattle.model.specs.KeeperSteps.{move_of, admit, retire, begin, advance}
use Rattle.model.specs.ClientSteps.{attach, detach, open_hold, drop_hold, load_header, go, rest, changed}
use Rattle.model.specs.Refusals.{admit_refusals, retire_refusals, begin_refusals, advance_refusals, attach_refusals}
use Rattle.model.specs.Refusals.{rest_refusals, open_refusals, drop_refusals, access_refusals, go_refusals}
use Rattle.model.specs.Rules.{first_broken}

pub record Step : Type 0 where
  pub who : ℕ
  pub code : ℕ
  pub a : ℕ
  pub b : ℕ
  pub v : ℕ

abbrev pub step : ℕ → ℕ → ℕ → ℕ → ℕ → Step
step who code a b v = record { who = who; code = code; a = a; b = b; v = v }

-- the steps by 01's names; UNKNOWN is a code that is not one of that party's, NOBODY a who above 8
pub data Name : Type 0 where
  ADMIT RETIRE BEGIN ADVANCE : Name
  ATTACH DETACH OPEN DROP READ WRITE GO REST : Name
  UNKNOWN NOBODY : Name

-- codes 1 to 4
abbrev pub keeper_codes : List Name
keeper_codes = UNKNOWN ∷ ADMIT ∷ RETIRE ∷ BEGIN ∷ ADVANCE ∷ []

-- codes 10 to 17
abbrev pub client_codes : List Name
client_codes =
    UNKNOWN ∷ UNKNOWN ∷ UNKNOWN ∷ UNKNOWN ∷ UNKNOWN ∷ UNKNOWN ∷ UNKNOWN ∷ UNKNOWN ∷ UNKNOWN ∷ UNKNOWN
    ∷ ATTACH ∷ DETACH ∷ OPEN ∷ DROP ∷ READ ∷ WRITE ∷ GO ∷ REST ∷ []

abbrev pub named : ℕ → ℕ → Name
named zero code = get_or keeper_codes code UNKNOWN
named (suc client) code = pick (ltb client 8) (get_or client_codes code UNKNOWN) NOBODY

abbrev pub name_of : Step → Name
name_of t = named t.who t.code

-- the row of the client whose step it is
abbrev pub own_row : State → Step → Row
own_row s t = row_of s t.who

-- the lines of the refusal table that speak of a step, in rising order; 3 "who above 8", 4 "code is not one of that party's"
abbrev pub refusals : Name → State → Step → List Refusal
refusals ADMIT s t = admit_refusals s.control t.a t.b
refusals RETIRE s t = retire_refusals s.control s.table t.a
refusals BEGIN s t = begin_refusals s.control s.arena t.a
refusals ADVANCE s t = advance_refusals s.control
refusals ATTACH s t = attach_refusals (own_row s t)
refusals DETACH s t = rest_refusals (own_row s t)
refusals OPEN s t = open_refusals (own_row s t) (entry s.control.dir t.a) t.a t.b
refusals DROP s t = drop_refusals (own_row s t) t.a
refusals READ s t = access_refusals s.arena (own_row s t) t.a t.b
refusals WRITE s t = access_refusals s.arena (own_row s t) t.a t.b
refusals GO s t = go_refusals (own_row s t)
refusals REST s t = rest_refusals (own_row s t)
refusals UNKNOWN s t = 4 if true ∷ []
refusals NOBODY s t = 3 if true ∷ []

-- what a client's step leaves, put back into the state
abbrev pub seated : State → Step → Stepped → Outcome
seated s t o = outcome o.answer (with_arena (with_row s t.who o.row) (changed s.arena o.change))

-- what an accepted step does; "Unused numbers are ignored."
abbrev pub effect : Name → State → Step → Outcome
effect ADMIT s t = admit s t.a t.b (lowest_run s.control.map (cells t.b))
effect RETIRE s t = retire s t.a (entry s.control.dir t.a)
effect BEGIN s t =
    begin s t.a (entry s.control.dir t.a) (lowest_run s.control.map (cells_at s.arena (entry s.control.dir t.a)))
effect ADVANCE s t = advance s (stage_of (move_of s).stage)
effect ATTACH s t = seated s t (attach (own_row s t))
effect DETACH s t = seated s t (detach (own_row s t))
effect OPEN s t = seated s t (open_hold (own_row s t) t.b (entry s.control.dir t.a))
effect DROP s t = seated s t (drop_hold (own_row s t) t.a)
effect READ s t = seated s t (load_header s.arena (own_row s t) (Read t.a t.b))
effect WRITE s t = seated s t (load_header s.arena (own_row s t) (Write t.a t.b t.v))
effect GO s t = seated s t (go s.arena (own_row s t) (own_row s t).phase)
effect REST s t = seated s t (rest s.arena (own_row s t))
effect UNKNOWN s t = outcome (Refused 4) s
effect NOBODY s t = outcome (Refused 3) s

-- "All memory and the control record are then as before, and the value is 0."
abbrev pub refused : State → ℕ → Outcome
refused s n = outcome (Refused n) s

-- a step on a sound state: refusals 3 and up, then the effect
unfoldable pub act : State → Step → Outcome
act s t = refuse (refusals (name_of t) s t) (refused s) (effect (name_of t) s t)

-- The library's calls: "Fresh, fill, audit and the run answer a number and a value too".
-- 1 "arena is not 8,192 words, or table not eight rows"
unfoldable pub wrong_size : State → Bool
wrong_size s = not (eqb (length s.arena) 8192 and eqb (length s.table) 8)

-- 2 "state breaks a rule R1 to R8"
unfoldable pub unsound : State → Bool
unsound s = not (eqb (first_broken s) 0)

-- what a call that works on a sound state may be refused by
abbrev pub call_refusals : State → List Refusal
call_refusals s = 1 if wrong_size s ∷ 2 if unsound s ∷ []

-- "30 with 0, or for fill with the figure, when they succeed. Of refusals fresh and audit can give only 1, fill 1 and 2."
unfoldable pub fresh_call : State → Outcome
fresh_call s = refuse (1 if wrong_size s ∷ []) (refused s) (outcome (Done 0) fresh)

-- "Audit's value, beside answer 30, is 0 or the number of the first broken rule."
unfoldable pub audit_call : State → Outcome
audit_call s = refuse (1 if wrong_size s ∷ []) (refused s) (outcome (Done (first_broken s)) s)

unfoldable pub fill_call : State → Outcome
fill_call s = refuse (call_refusals s) (refused s) (outcome (Done (fill s.control.map)) s)

unfoldable pub step_call : State → Step → Outcome
step_call s t = refuse (call_refusals s) (refused s) (act s t)

-- what a run gives: its answer, the answer slots, and the state that it leaves
pub record Ran : Type 0 where
  pub answer : Answer
  pub slots : List ℕ
  pub next : State

abbrev pub ran : Answer → List ℕ → State → Ran
ran x slots s = record { answer = x; slots = slots; next = s }

-- "a two-word answer slot", its number and its value, before those of the later steps
abbrev pub then : Outcome → Ran → Ran
then o r = ran r.answer (number o.answer ∷ value o.answer ∷ r.slots) r.next

-- "the steps one by one"; "a refused step inside it only fills its own slot"
abbrev pub one_by_one : (State → Step → Outcome) → State → List Step → Ran
one_by_one f s [] = ran (Done 0) [] s
one_by_one f s (t ∷ l) = then (f s t) (one_by_one f (f s t).next l)

-- "five words each": step i of a list of words, and the n steps from i on
abbrev pub step_at : List ℕ → ℕ → Step
step_at ws i = step (get_or ws (5 * i) 0) (get_or ws (5 * i + 1) 0) (get_or ws (5 * i + 2) 0) (get_or ws (5 * i + 3) 0) (get_or ws (5 * i + 4) 0)

unfoldable pub steps_from : List ℕ → ℕ → ℕ → List Step
steps_from ws i zero = []
steps_from ws i (suc n) = step_at ws i ∷ steps_from ws (suc i) n

abbrev pub steps_of : List ℕ → List Step
steps_of ws = steps_from ws 0 (length ws / 5)

-- "A run of up to 4,096 steps (five words each, with a two-word answer slot for each; any other sizes are refused by 1)"
unfoldable pub run_sizes : List ℕ → List ℕ → Bool
run_sizes ws slots = leb (length ws) 20480 and eqb (length ws % 5) 0 and eqb (length slots) (2 * (length ws / 5))

-- what a run may be refused by
abbrev pub run_refusals : State → List ℕ → List ℕ → List Refusal
run_refusals s ws slots = 1 if wrong_size s ∷ 1 if not (run_sizes ws slots) ∷ 2 if unsound s ∷ []

-- "checks soundness once"; "1 or 2 refuses the whole run and writes no answers"; "A run of no steps still gives 2 on an unsound state."
unfoldable pub run_call : State → List ℕ → List ℕ → Ran
run_call s ws slots = refuse (run_refusals s ws slots) (λ n. ran (Refused n) slots s) (one_by_one act s (steps_of ws))
