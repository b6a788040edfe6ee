-- The log: steps from fresh with what each was answered, and what it says of meters, clients and moves. No word of the arena stands here.
use Rattle.std.specs.Prelude.{List, [], ◌∷◌, ℕ, suc, pred, eqb, leb}
use Rattle.model.specs.declared.Access.{Access}
use Rattle.model.specs.declared.Access.TheVariants.{Read, Write}
use Rattle.model.specs.declared.Answer.{Answer}
use Rattle.model.specs.declared.Answer.TheVariants.{Refused, Admitted, Begun, BarrierOpen, CopyingStarts, Copied, Committed, CalledOff}
use Rattle.model.specs.declared.Answer.TheVariants.{GivenBack, Done, ReadyAt, WaitsOn, SwapWon, SwapLost, Got, Written}
use Rattle.model.specs.Choice.{pick, ◌and◌, one, total}
use Rattle.model.specs.Arena.{none}
use Rattle.model.specs.Rows.{hold_of}
use Rattle.model.specs.State.{State, number, Outcome, fresh}
use Rattle.model.specs.Steps.{Step, Name, ADMIT, RETIRE, BEGIN, ADVANCE, ATTACH, DETACH, OPEN, DROP, READ, WRITE, GO, REST, UNKNOWN, NOBODY}
use Rattle.model.specs.Steps.{name_of, act}

-- a line: a step and its answer. The last line stands first.
pub record Line : Type 0 where
  pub step : Step
  pub answer : Answer

abbrev pub Log : Type 0
Log = List Line

abbrev pub line : Step → Answer → Line
line t x = record { step = t; answer = x }

-- a step, as some program makes it: the state that some steps of it reach from fresh, and their log, both with the last step first
abbrev pub Program : Type 0
Program = State → Step → Outcome

abbrev pub reached_by : Program → List Step → State
reached_by f [] = fresh
reached_by f (t ∷ l) = (f (reached_by f l) t).next

abbrev pub history_by : Program → List Step → Log
history_by f [] = []
history_by f (t ∷ l) = line t (f (reached_by f l) t).answer ∷ history_by f l

-- by `act`, the step without its tests of sizes and soundness, which on these states find nothing
abbrev pub after : List Step → State
after l = reached_by act l

abbrev pub log : List Step → Log
log l = history_by act l

-- the access that a client has begun and not finished: its meter, and what was asked
pub data Pending : Type 0 where
  no_access : Pending
  access_to : ℕ → Access → Pending

-- of a client: the meter that each hold was opened on, 65535 for none, and its pending access
pub record Client : Type 0 where
  pub opened : ℕ → ℕ
  pub pending : Pending

-- what a log says: for each meter and word the last value written since the meter was admitted, or zero; each meter's kind; its clients,
-- counted from 0 like the rows
pub record Account : Type 0 where
  pub last_written : ℕ → ℕ → ℕ
  pub kind : ℕ → ℕ
  pub clients : ℕ → Client

-- f with another value at i
abbrev pub update : {A : Type 0} → (ℕ → A) → ℕ → A → ℕ → A
update f i x j = pick (eqb j i) x (f j)

abbrev pub new_client : Client
new_client = record { opened = λ h. none; pending = no_access }

abbrev pub new_account : Account
new_account = record { last_written = λ m w. 0; kind = λ m. 0; clients = λ i. new_client }

-- of a client's step; nothing is asked of the keeper's
abbrev pub client_of : Account → Step → Client
client_of g t = g.clients (pred t.who)

abbrev pub with_client : Account → Step → Client → Account
with_client g t q = record { last_written = g.last_written; kind = g.kind; clients = update g.clients (pred t.who) q }

-- OPEN and DROP: hold h stands for meter m
abbrev pub with_hold : Client → ℕ → ℕ → Client
with_hold q h m = record { opened = update q.opened h m; pending = q.pending }

abbrev pub with_pending : Client → Pending → Client
with_pending q p = record { opened = q.opened; pending = p }

-- ADMIT: the words of a meter are zero
abbrev pub admits : Account → ℕ → ℕ → Account
admits g m k = record { last_written = update g.last_written m (λ w. 0); kind = update g.kind m k; clients = g.clients }

-- READ and WRITE: the access begins
abbrev pub asks : Account → Step → Access → Account
asks g t x = with_client g t (with_pending (client_of g t) (access_to ((client_of g t).opened (hold_of x)) x))

-- GO: the access is done; a write is the last one to its word
abbrev pub written : (ℕ → ℕ → ℕ) → ℕ → Access → ℕ → ℕ → ℕ
written f m (Read h w) = f
written f m (Write h w v) = update f m (update (f m) w v)

abbrev pub writes : Account → Pending → Account
writes g no_access = g
writes g (access_to m x) = record { last_written = written g.last_written m x; kind = g.kind; clients = g.clients }

abbrev pub ends : Account → Step → Account
ends g t = with_client (writes g (client_of g t).pending) t (with_pending (client_of g t) no_access)

-- what an accepted step says, by its name
abbrev pub done_by : Name → Account → Step → Account
done_by ADMIT g t = admits g t.a t.b
done_by RETIRE g t = g
done_by BEGIN g t = g
done_by ADVANCE g t = g
done_by ATTACH g t = with_client g t new_client
done_by DETACH g t = with_client g t new_client
done_by OPEN g t = with_client g t (with_hold (client_of g t) t.b t.a)
done_by DROP g t = with_client g t (with_hold (client_of g t) t.a none)
done_by READ g t = asks g t (Read t.a t.b)
done_by WRITE g t = asks g t (Write t.a t.b t.v)
done_by GO g t = ends g t
done_by REST g t = g
done_by UNKNOWN g t = g
done_by NOBODY g t = g

-- what one more line says: a refused step, the keeper's moving and a swap say nothing of these
abbrev pub said_by : Name → Account → Step → Answer → Account
said_by n g t (Refused i) = g
said_by n g t (Admitted c) = done_by n g t
said_by n g t (Begun c) = g
said_by n g t BarrierOpen = g
said_by n g t CopyingStarts = g
said_by n g t (Copied i) = g
said_by n g t (Committed c) = g
said_by n g t CalledOff = g
said_by n g t GivenBack = g
said_by n g t (Done x) = done_by n g t
said_by n g t (ReadyAt c) = done_by n g t
said_by n g t (WaitsOn c) = done_by n g t
said_by n g t SwapWon = g
said_by n g t SwapLost = g
said_by n g t (Got x) = done_by n g t
said_by n g t Written = done_by n g t

abbrev pub said : Log → Account
said [] = new_account
said (x ∷ l) = said_by (name_of x.step) (said l) x.step x.answer

-- how many lines have the answer n; how many of party who's lines
abbrev pub answered : ℕ → Log → ℕ
answered n l = total (λ x. one (eqb (number x.answer) n)) l

abbrev pub answered_to : ℕ → ℕ → Log → ℕ
answered_to who n l = total (λ x. one (eqb x.step.who who and eqb (number x.answer) n)) l

-- "A working step of a move is its BEGIN, or an accepted ADVANCE that is not answered 22.": those of the last move begun, and its meter;
-- only BEGIN gives 21, and only ADVANCE gives 23 to 27
abbrev pub working_steps : Log → ℕ
working_steps [] = 0
working_steps (x ∷ l) =
    pick (eqb (number x.answer) 21) 1
    (pick (leb 23 (number x.answer) and leb (number x.answer) 27) (suc (working_steps l)) (working_steps l))

abbrev pub last_moved : Log → ℕ
last_moved [] = 0
last_moved (x ∷ l) = pick (eqb (number x.answer) 21) x.step.a (last_moved l)

-- the answers of a client's own accepted steps, the last first
abbrev pub own_answers : ℕ → Log → List ℕ
own_answers who [] = []
own_answers who (x ∷ l) =
    pick (eqb x.step.who who and leb 20 (number x.answer)) (number x.answer ∷ own_answers who l) (own_answers who l)
