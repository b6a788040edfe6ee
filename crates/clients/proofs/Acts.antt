-- A client's step of the model is its turn put back into the state.
use Rattle.std.proofs.Common.{◌≡◌, ℕ, zero, suc, pred, ◌<◌, Bool, true, false, List, [], ◌∷◌, get_or, sym, refl, ap, arith, lt-ltb}
use lib.Seq.{set-get_or}
use Rattle.model.proofs.Choice.{clash}
use Rattle.model.proofs.Says.{all_test}
use Rattle.model.specs.declared.Row.{Row}
use Rattle.model.specs.declared.Stepped.{Stepped}
use Rattle.model.specs.declared.Access.TheVariants.{Read, Write}
use Rattle.model.specs.declared.Answer.TheVariants.{Refused}
use Rattle.model.specs.Rows.{fresh_row}
use Rattle.model.specs.State.{State, state, entry, outcome}
use Rattle.model.specs.ClientSteps.{attach, detach, open_hold, drop_hold, load_header, go, rest}
use Rattle.model.specs.Choice.{Refusal, refuse}
use Rattle.model.specs.Steps.{Step, Name, ADMIT, RETIRE, BEGIN, ADVANCE, ATTACH, DETACH, OPEN, DROP, READ, WRITE, GO, REST, UNKNOWN, NOBODY}
use Rattle.model.specs.Steps.{client_codes, named, own_row, refusals, seated, effect, refused, act}
use Rattle.clients.specs.Turns.{turn, refused_turn, client_turn}

-- a refused turn leaves the state as it was
refused_seated : (s : State) (t : Step) (n : ℕ) → refused s n ≡ seated s t (refused_turn (own_row s t) n)
refused_seated s t n =
    ap (λ (l : List Row). outcome (Refused n) (state s.control s.arena l)) (sym (set-get_or s.table (pred t.who) fresh_row))

pub turn_seated : (l : List Refusal) (s : State) (t : Step) (o : Stepped)
    → refuse l (refused s) (seated s t o) ≡ seated s t (turn l (own_row s t) o)
unfolding turn
turn_seated [] s t o = refl
turn_seated ((n, true) ∷ l) s t o = refused_seated s t n
turn_seated ((n, false) ∷ l) s t o = turn_seated l s t o

-- "1 to 8 the clients"
pub client_named : (who code : ℕ) → 0 < who → who < 9 → named who code ≡ get_or client_codes code UNKNOWN
client_named zero code p q = absurd (omega arith)
client_named (suc client) code p q = rw (lt-ltb client 8 (omega arith))

-- the names that a client's code can have
abbrev clients : Name → Bool
clients ADMIT = false
clients RETIRE = false
clients BEGIN = false
clients ADVANCE = false
clients ATTACH = true
clients DETACH = true
clients OPEN = true
clients DROP = true
clients READ = true
clients WRITE = true
clients GO = true
clients REST = true
clients UNKNOWN = true
clients NOBODY = false

abbrev pub turn_of : Name → State → Step → Stepped
turn_of n s t = client_turn n s.arena (own_row s t) (entry s.control.dir t.a) t.a t.b t.v

by_name : (n : Name) (s : State) (t : Step) → clients n ≡ true
    → refuse (refusals n s t) (refused s) (effect n s t) ≡ seated s t (turn_of n s t)
by_name ATTACH s t e = turn_seated (refusals ATTACH s t) s t (attach (own_row s t))
by_name DETACH s t e = turn_seated (refusals DETACH s t) s t (detach (own_row s t))
by_name OPEN s t e = turn_seated (refusals OPEN s t) s t (open_hold (own_row s t) t.b (entry s.control.dir t.a))
by_name DROP s t e = turn_seated (refusals DROP s t) s t (drop_hold (own_row s t) t.a)
by_name READ s t e = turn_seated (refusals READ s t) s t (load_header s.arena (own_row s t) (Read t.a t.b))
by_name WRITE s t e = turn_seated (refusals WRITE s t) s t (load_header s.arena (own_row s t) (Write t.a t.b t.v))
by_name GO s t e = turn_seated (refusals GO s t) s t (go s.arena (own_row s t) (own_row s t).phase)
by_name REST s t e = turn_seated (refusals REST s t) s t (rest s.arena (own_row s t))
by_name UNKNOWN s t e = refused_seated s t 4
by_name ADMIT s t e = clash false e refl
by_name RETIRE s t e = clash false e refl
by_name BEGIN s t e = clash false e refl
by_name ADVANCE s t e = clash false e refl
by_name NOBODY s t e = clash false e refl

-- each code of a client, unknown codes too
pub act_client : (s : State) (t : Step) → 0 < t.who → t.who < 9
    → act s t ≡ seated s t (turn_of (get_or client_codes t.code UNKNOWN) s t)
unfolding act
act_client s t p q =
    rw (client_named t.who t.code p q)
    (by_name (get_or client_codes t.code UNKNOWN) s t (all_test clients client_codes t.code refl refl))
