-- How one row's part of the invariant is read, made and carried from step to step. Assumes nothing.
use mathlib.Core.Path.{◌≡◌, refl, ◌∙◌, subst⁻¹}
use mathlib.Core.Logic.{◌≢◌}
use mathlib.Core.Bool.{Bool, true, false, not}
use mathlib.Core.List.{List}
use Prim.Native.Nat.{ℕ, pred, ◌≤◌, ◌<◌}
use native.Mathlib.Omega.{arith}
use lib.ListN.{length, get_or, set, length-set, get_or-map}
use lib.Seq.{get_or-set_other}
use Rattle.model.specs.declared.Access.{Access}
use Rattle.model.specs.declared.Phase.{Phase}
use Rattle.model.specs.declared.Phase.TheVariants.{Resting, Ready}
use Rattle.model.specs.declared.Row.{Row}
use Rattle.model.specs.declared.Move.{Move}
use Rattle.model.specs.Arena.{none, header}
use Rattle.model.specs.Rows.{hold_of, busy, hold, fresh_row, with_passed, cleared, clear_marks, has_passed, all_passed}
use Rattle.model.specs.State.{entry, State, with_table, with_row}
use Rattle.model.specs.Steps.{Step, own_row}
use Rattle.model.proofs.Choice.{clash}
use Rattle.model.proofs.Says.{all_test}
use Rattle.model.proofs.Readings.{Flag, FlagUp}
use Rattle.demands.specs.Log.{no_access, Client, Account, new_client, client_of, with_client}
use Rattle.demands.proofs.Lists.{set_cases, set_both}
use Rattle.demands.proofs.Blocks.{side_lt}
use Rattle.demands.proofs.Inv.{HoldOk, empty, here, was, Place, at_entry, at_hold, Asked, ReadyOk, WaitingOk, PhaseOk, rests, ready}
use Rattle.demands.proofs.Inv.{waits, Detached, RowOk, late, Rows, Inv}

-- what the invariant says, in state s, of row r and client q, and of the phase of the row whose step it is
abbrev pub old_header : State → ℕ
old_header s = header s.arena s.control.mv.from

abbrev pub RowIn : Type 0 → State → Account → Row → Client → Type 0
RowIn X s g r q = RowOk X s.control.dir s.control.mv g.kind (old_header s) s.control.begun r q

abbrev pub PhaseIn : Type 0 → State → Account → Step → Phase → Type 0
PhaseIn X s g t p = PhaseOk X s.control.dir s.control.mv g.kind (old_header s) s.control.begun (own_row s t) (client_of g t) p

abbrev pub ReadyIn : Type 0 → State → Account → Step → ℕ → Access → Type 0
ReadyIn X s g t c x = ReadyOk X s.control.dir s.control.mv g.kind (old_header s) (own_row s t) (client_of g t) c x

abbrev pub WaitingIn : State → Account → Step → ℕ → Access → Type 0
WaitingIn s g t c x = WaitingOk s.control.mv g.kind (old_header s) s.control.begun (own_row s t) (client_of g t) c x

module _ {X : Type 0} {dir : List ℕ} {v : Move} {kind : ℕ → ℕ} {h begun : ℕ} {r : Row} {q : Client} where
  -- a row that is not busy rests, in the log too
  pub phase_rests : {p : Phase} → PhaseOk X dir v kind h begun r q p → busy p ≡ false → (p ≡ Resting) × (q.pending ≡ no_access)
  phase_rests (rests e) b = (refl, e)
  phase_rests (ready W) b = clash true refl b
  phase_rests (waits W) b = clash true refl b

  -- the phase's part at another directory, move, kinds, header and count, and for a row and client that differ
  pub carry_phase : {dir' : List ℕ} {v' : Move} {kind' : ℕ → ℕ} {h' begun' : ℕ} {r' : Row} {q' : Client} {p : Phase}
      → (q.pending ≡ no_access → q'.pending ≡ no_access)
      → ((c : ℕ) (x : Access) → p ≡ Ready c x → ReadyOk X dir v kind h r q c x → ReadyOk X dir' v' kind' h' r' q' c x)
      → ((c : ℕ) (x : Access) → WaitingOk v kind h begun r q c x → WaitingOk v' kind' h' begun' r' q' c x)
      → PhaseOk X dir v kind h begun r q p → PhaseOk X dir' v' kind' h' begun' r' q' p
  carry_phase a b c (rests e) = rests (a e)
  carry_phase a b c (ready {c = d} {x = x} W) = ready (b d x refl W)
  carry_phase a b c (waits {c = d} {x = x} W) = waits (c d x W)

-- the row where the old header is another number, which is flagged only where the old number was
pub reflag_row : {X : Type 0} {dir : List ℕ} {v : Move} {kind : ℕ → ℕ} {h h' begun : ℕ} {r : Row} {q : Client} → (Flag v h' → Flag v h)
    → RowOk X dir v kind h begun r q → RowOk X dir v kind h' begun r q
reflag_row f R = record {
  four = R.four;
  holds = R.holds;
  detached = R.detached;
  passed = R.passed;
  le = R.le;
  lt = λ k. R.lt (f k);
  phase = carry_phase (λ e. e)
      (λ c x _ W. record { asked = W.asked; place = W.place; newest = W.newest; away = λ y k. W.away y (f k) })
      (λ c x W. record { asked = W.asked; held = W.held; owes = W.owes; elsewhere = λ k. W.elsewhere (f k) })
      R.phase;
}

-- a row whose filled holds were opened on other meters than a, when a's entry and kind change
pub redirected_row : {X : Type 0} {dir : List ℕ} {v : Move} {kind kind' : ℕ → ℕ} {h b : ℕ} {r : Row} {q : Client} (a c : ℕ)
    → ((i : ℕ) → hold r i ≢ none → q.opened i ≢ a)
    → ((m : ℕ) → m ≢ a → kind' m ≡ kind m) → RowOk X dir v kind h b r q → RowOk X (set dir a c) v kind' h b r q
redirected_row {dir = dir} {v = v} {kind = kind} {kind' = kind'} {r = r} {q = q} a c off same R = record {
  four = R.four;
  holds = λ i. keep_hold (off i) (R.holds i);
  detached = R.detached;
  passed = R.passed;
  le = R.le;
  lt = R.lt;
  phase = carry_phase (λ e. e)
      (λ d x _ W. let z = off _ W.asked.filled in record {
        asked = keep_ask z W.asked;
        place = keep_place z W.place;
        newest = λ y. keep_entry _ z ∙ W.newest y;
        away = W.away;
      })
      (λ d x W. record { asked = keep_ask (off _ W.asked.filled) W.asked; held = W.held; owes = W.owes; elsewhere = W.elsewhere })
      R.phase;
}
  where
    keep_entry : (m : ℕ) → m ≢ a → entry (set dir a c) m ≡ entry dir m
    keep_entry m n = get_or-set_other dir a m c none n

    keep_hold : {h m : ℕ} → (h ≢ none → m ≢ a) → HoldOk dir v h m → HoldOk (set dir a c) v h m
    keep_hold n (empty e) = empty e
    keep_hold {h} {m} n (here u e) = here u (keep_entry m (n (λ z. omega arith)) ∙ e)
    keep_hold n (was l e f) = was l e f

    keep_place : {h m d : ℕ} → m ≢ a → Place dir h m d → Place (set dir a c) h m d
    keep_place {h} {m} n (at_entry e) = at_entry (keep_entry m n ∙ e)
    keep_place n (at_hold e) = at_hold e

    keep_ask : {h : ℕ} {x : Access} → q.opened (hold_of x) ≢ a → Asked kind h q x → Asked kind' h q x
    keep_ask n A = record { pending = A.pending; filled = A.filled; fits = rw (same _ n) A.fits }

-- marks: a row with another mark, which an unattached one keeps; a table with its marks cleared; a table whose rows have all passed
pub marked : (r : Row) (p : Bool) → (r.attached ≡ false → p ≡ true) → (r.attached ≡ false → Detached r) → r.attached ≡ false
    → Detached (with_passed r p)
marked r p e d z = record { passed = e z; empty = (d z).empty; rests = (d z).rests }

pub cleared_passed : (r : Row) → r.attached ≡ false → not r.attached ≡ true
cleared_passed r e = rw e refl

pub cleared_get : (table : List Row) (i : ℕ) → get_or (clear_marks table) i fresh_row ≡ cleared (get_or table i fresh_row)
cleared_get table i = get_or-map cleared table i fresh_row

pub passed_get : (table : List Row) → all_passed table ≡ true → (i : ℕ) → (get_or table i fresh_row).passed ≡ true
passed_get table e i = all_test has_passed table i e refl

module _ {X : Type 0} {s : State} {g : Account} (I : Inv X s g) where
  pub row_in : (t : Step) → RowIn X s g (own_row s t) (client_of g t)
  row_in t = I.rows (pred t.who)

  -- a row without holds that rests, of a client that has opened nothing
  pub empty_row : (r : Row) → ((i : ℕ) → hold r i ≡ none) → length r.holds ≡ 4 → r.passed ≡ true → r.phase ≡ Resting
      → r.swaps ≤ s.control.begun
      → (FlagUp s.control.mv s.arena → r.swaps < s.control.begun) → RowIn X s g r new_client
  empty_row r n f p e le lt = record {
    four = f;
    holds = λ i. empty (n i);
    detached = λ _. record { passed = p; empty = n; rests = e };
    passed = λ l _ i z. omega (arith, n i, side_lt I.core (late l));
    le = le;
    lt = lt;
    phase = subst⁻¹ (PhaseOk X _ _ _ _ _ r new_client) e (rests refl);
  }

  -- other rows, against other clients
  pub with_rows : (table : List Row) (clients : ℕ → Client) → length table ≡ 8
      → Rows X s.control.dir s.control.mv g.kind (old_header s) s.control.begun table clients
      → Inv X (with_table s table) (record { last_written = g.last_written; kind = g.kind; clients = clients })
  with_rows table clients n rows =
      record { own = I.own; core = I.core; eight = n; r7 = I.r7; small = I.small; rows = rows }

  -- a client's own row, with or without a new word from the log
  module _ (t : Step) (seat : pred t.who < 8) (r : Row) where
    eight_rows : length (set s.table (pred t.who) r) ≡ 8
    eight_rows = length-set s.table (pred t.who) r ∙ I.eight

    pub seat_row : (q : Client) → RowIn X s g r q → Inv X (with_row s t.who r) (with_client g t q)
    seat_row q ok =
        with_rows _ _ eight_rows
        (set_both (RowIn X s g) s.table g.clients (pred t.who) r q fresh_row (omega (arith, I.eight)) ok I.rows)

    pub reseat_row : RowIn X s g r (client_of g t) → Inv X (with_row s t.who r) g
    reseat_row ok =
        with_rows _ g.clients eight_rows
        (set_cases (λ j x. RowIn X s g x (g.clients j)) s.table (pred t.who) r fresh_row (omega (arith, I.eight)) ok
        (λ j _. I.rows j))
