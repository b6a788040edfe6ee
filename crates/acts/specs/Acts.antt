-- What a step does to the control record and to the lent words of arena and table: on any contents.
-- proofs/Acts joins these to the model's steps, on the words of rows.
use Rattle.std.specs.Prelude.{Bool, true, false, not, List, ◌≡◌, ℕ, zero, suc, eqb, ltb, get_or}
use Rattle.model.specs.declared.Control.{Control}
use Rattle.model.specs.declared.Move.{Move}
use Rattle.model.specs.declared.Answer.{Answer}
use Rattle.model.specs.declared.Answer.TheVariants.{Refused}
use Rattle.model.specs.declared.Stepped.{Stepped}
use Rattle.model.specs.Choice.{pick, ◌and◌, any}
use Rattle.model.specs.Rows.{all_passed}
use Rattle.model.specs.State.{stage_of, entry}
use Rattle.model.specs.ClientSteps.{changed}
use Rattle.model.specs.Refusals.{holds_cell}
use Rattle.model.specs.Steps.{Step, Name, ADMIT, RETIRE, BEGIN, ADVANCE, ATTACH, DETACH, OPEN, DROP, READ, WRITE, GO, REST, UNKNOWN, NOBODY}
use Rattle.model.specs.Steps.{keeper_codes, client_codes}
use Rattle.clients.specs.Turns.{client_turn}
use Rattle.mover.specs.declared.Kept.{Kept}
use Rattle.mover.specs.Kept.{on_move, closing, close_kept, advance_move}
use Rattle.keeper.specs.Kept.{retire_step, begin_step, admit_step, admit_arena}
use Rattle.table.specs.Words.{row_read, rows_read, put_row, put_phase, put_swaps, each_row, clear_mark}

-- A client's step: arena and table after it, and the answer
pub record Left : Type 0 where
  pub arena : List ℕ
  pub table : List ℕ
  pub answer : Answer

abbrev pub left : List ℕ → List ℕ → Answer → Left
left a t x = record { arena = a; table = t; answer = x }

-- what is stored of row i: by READ and WRITE the phase alone, by GO the swaps and the phase, by the others the row
abbrev pub stored : Name → List ℕ → List ℕ → ℕ → Stepped → Left
stored ATTACH a t i o = left a (put_row t i o.row) o.answer
stored DETACH a t i o = left a (put_row t i o.row) o.answer
stored OPEN a t i o = left a (put_row t i o.row) o.answer
stored DROP a t i o = left a (put_row t i o.row) o.answer
stored REST a t i o = left a (put_row t i o.row) o.answer
stored READ a t i o = left a (put_phase t i o.row.phase) o.answer
stored WRITE a t i o = left a (put_phase t i o.row.phase) o.answer
stored GO a t i o = left (changed a o.change) (put_phase (put_swaps t i o.row.swaps) i o.row.phase) o.answer
stored ADMIT a t i o = left a t (Refused 4)
stored RETIRE a t i o = left a t (Refused 4)
stored BEGIN a t i o = left a t (Refused 4)
stored ADVANCE a t i o = left a t (Refused 4)
stored UNKNOWN a t i o = left a t (Refused 4)
stored NOBODY a t i o = left a t (Refused 4)

unfoldable pub client_left : Name → List ℕ → List ℕ → List ℕ → ℕ → ℕ → ℕ → ℕ → Left
client_left n a t dir i x y v = stored n a t i (client_turn n a (row_read t i) (entry dir x) x y v)

-- A step of either party: the whole of what is lent
pub record Lent : Type 0 where
  pub control : Control
  pub arena : List ℕ
  pub table : List ℕ

abbrev pub lent : Control → List ℕ → List ℕ → Lent
lent c a t = record { control = c; arena = a; table = t }

pub record Turn : Type 0 where
  pub answer : Answer
  pub next : Lent

abbrev pub turn : Answer → Lent → Turn
turn x l = record { answer = x; next = l }

abbrev pub clear_if : Bool → List ℕ → List ℕ
clear_if true t = each_row clear_mark t 8
clear_if false t = t

-- what the keeper's functions leave, stored
abbrev pub kept_turn : Lent → Kept Control → Turn
kept_turn l o = turn o.answer (lent o.next (changed l.arena o.change) (clear_if o.clear l.table))

abbrev pub passed_all : Lent → Bool
passed_all l = all_passed (rows_read l.table)

-- the keeper's steps on the whole control record
abbrev pub keeper_turn : Name → Lent → ℕ → ℕ → Turn
keeper_turn ADMIT l x y =
    turn (admit_step l.control x y).answer
    (lent (admit_step l.control x y).next (admit_arena l.control l.arena x y) l.table)
keeper_turn RETIRE l x y =
    kept_turn l (retire_step l.control l.arena (any (holds_cell (entry l.control.dir x)) (rows_read l.table)) x)
keeper_turn BEGIN l x y = kept_turn l (begin_step l.control l.arena x)
keeper_turn ADVANCE l x y = kept_turn l (close_kept l.control l.arena (stage_of l.control.mv.stage))
keeper_turn ATTACH l x y = turn (Refused 4) l
keeper_turn DETACH l x y = turn (Refused 4) l
keeper_turn OPEN l x y = turn (Refused 4) l
keeper_turn DROP l x y = turn (Refused 4) l
keeper_turn READ l x y = turn (Refused 4) l
keeper_turn WRITE l x y = turn (Refused 4) l
keeper_turn GO l x y = turn (Refused 4) l
keeper_turn REST l x y = turn (Refused 4) l
keeper_turn UNKNOWN l x y = turn (Refused 4) l
keeper_turn NOBODY l x y = turn (Refused 4) l

-- ADVANCE where the move alone is enough
unfoldable pub by_move : ℕ → Move → Bool → Bool
by_move code v passed = eqb code 4 and not (closing passed (stage_of v.stage))

abbrev pub move_turn : Lent → Turn
move_turn l = kept_turn l (on_move l.control (advance_move l.arena l.control.mv (passed_all l) (stage_of l.control.mv.stage)))

-- a client's step on row i
abbrev pub client_turn_at : Lent → ℕ → Step → Turn
client_turn_at l i t =
    let o = client_left (get_or client_codes t.code UNKNOWN) l.arena l.table l.control.dir i t.a t.b t.v in
    turn o.answer (lent l.control o.arena o.table)

-- "Who 0 is the keeper, 1 to 8 the clients."
abbrev pub party_turn : ℕ → Lent → Step → Turn
party_turn zero l t =
    pick (by_move t.code l.control.mv (passed_all l)) (move_turn l) (keeper_turn (get_or keeper_codes t.code UNKNOWN) l t.a t.b)
party_turn (suc i) l t = pick (ltb i 8) (client_turn_at l i t) (turn (Refused 3) l)

unfoldable pub turn_on : Lent → Step → Turn
turn_on l t = party_turn t.who l t

-- What the functions do
pub record LeftDoes (a t : List ℕ) (r : Answer) (o : Left) : Type 0 where
  pub arena : a ≡ o.arena
  pub table : t ≡ o.table
  pub answer : r ≡ o.answer

pub record KeptDoes {T : Type 0} (a₀ t₀ : List ℕ) (x : T) (a t : List ℕ) (r : Answer) (o : Kept T) : Type 0 where
  pub next : x ≡ o.next
  pub arena : a ≡ changed a₀ o.change
  pub table : t ≡ clear_if o.clear t₀
  pub answer : r ≡ o.answer

pub record TurnDoes (c : Control) (a t : List ℕ) (r : Answer) (o : Turn) : Type 0 where
  pub control : c ≡ o.next.control
  pub arena : a ≡ o.next.arena
  pub table : t ≡ o.next.table
  pub answer : r ≡ o.answer
