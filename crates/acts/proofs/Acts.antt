-- On the words of rows a step on what is lent is the model's step on the rows, and leaves eight rows of four holds.
-- Assumes nothing.
use mathlib.Core.Path.{◌≡◌, refl, sym, ap, ◌∙◌}
use mathlib.Core.Bool.{Bool, true, false, not}
use mathlib.Core.Logic.{⊎_elim}
use mathlib.Core.List.{List}
use Prim.Native.Nat.{ℕ, zero, suc, ◌≤◌, ◌<◌}
use native.Mathlib.Omega.{arith}
use lib.ListN.{length, get_or, length-set, length-map}
use borrow.Author.Tests.{lt-ltb, le-ltb, ne_eqb}
use Rattle.model.specs.declared.Control.{Control}
use Rattle.model.specs.declared.Row.{Row}
use Rattle.model.specs.declared.Answer.TheVariants.{Refused}
use Rattle.model.specs.declared.Stepped.{Stepped}
use Rattle.model.specs.Choice.{pick, any}
use Rattle.model.specs.Rows.{fresh_row, cleared, all_passed}
use Rattle.model.specs.State.{State, stage_of, entry, Outcome}
use Rattle.model.specs.ClientSteps.{changed}
use Rattle.model.specs.KeeperSteps.{move_of}
use Rattle.model.specs.Refusals.{holds_cell}
use Rattle.model.specs.Steps.{Step, step, Name, UNKNOWN, client_codes, seated, refused, act}
use Rattle.model.proofs.Choice.{order}
use Rattle.clients.specs.Turns.{client_turn}
use Rattle.clients.proofs.Acts.{act_client}
use Rattle.mover.specs.declared.Kept.{Kept}
use Rattle.mover.specs.Kept.{on_move, closing, close_kept, advance_move}
use Rattle.mover.proofs.Acts.{advance_kept, marked, placed, advance_acts}
use Rattle.keeper.specs.Kept.{retire_step, begin_step}
use Rattle.keeper.proofs.Acts.{admit_acts, retire_acts, begin_acts}
use Rattle.table.specs.Words.{table_words, rows_read}
use Rattle.table.proofs.FourHolds.{RowsOfFour, four_after_set, four_after_clear}
use Rattle.table.proofs.Rows.{row_read_lem, rows_read_lem, clear_marks_lem}
use Rattle.acts.specs.Acts.{Left, client_left, Lent, lent, Turn, turn, clear_if, kept_turn, by_move, turn_on}
use Rattle.acts.proofs.Keeps.{client_stored, client_four}

-- a state as it is lent, and an outcome
abbrev pub lent_of : State → Lent
lent_of s = lent s.control s.arena (table_words s.table)

abbrev pub lent_outcome : Outcome → Turn
lent_outcome o = turn o.answer (lent_of o.next)

-- "eight rows", each with "four holds"
pub record Rows (s : State) : Type 0 where
  pub eight : length s.table ≡ 8
  pub four : RowsOfFour s.table

pub record Acts (s : State) (t : Step) : Type 0 where
  pub turn : turn_on (lent_of s) t ≡ lent_outcome (act s t)
  pub rows : Rows (act s t).next

-- A refused step
by_refused : (s : State) (t : Step) (n : ℕ) → Rows s → act s t ≡ refused s n → turn_on (lent_of s) t ≡ turn (Refused n) (lent_of s) → Acts s t
by_refused s t n R e f = record { turn = f ∙ ap lent_outcome (sym e); rows = rw e R }

-- The keeper's steps
clear_if_lem : (b : Bool) (table : List Row) → length table ≡ 8 → clear_if b (table_words table) ≡ table_words (marked b table)
clear_if_lem true table e = clear_marks_lem table e
clear_if_lem false table e = refl

marked_rows : (b : Bool) (s : State) → Rows s → (length (marked b s.table) ≡ 8) × RowsOfFour (marked b s.table)
marked_rows true s R = (length-map s.table cleared ∙ R.eight, four_after_clear R.four)
marked_rows false s R = (R.eight, R.four)

by_placed : (s : State) (t : Step) (o : Kept Control) → Rows s → act s t ≡ placed s o → turn_on (lent_of s) t ≡ kept_turn (lent_of s) o → Acts s t
by_placed s t o R e f =
    record {
      turn =
          f
          ∙ ap (λ (w : List ℕ). turn o.answer (lent o.next (changed s.arena o.change) w))
          (clear_if_lem o.clear s.table R.eight)
          ∙ ap lent_outcome (sym e);
      rows = let m = marked_rows o.clear s R in rw e (record { eight = m.0; four = m.1 });
    }

closing_last : (l : Lent) (b : Bool) (k m : Kept Control) → pick (not b) (kept_turn l m) (kept_turn l k) ≡ kept_turn l (pick b k m)
closing_last l true k m = refl
closing_last l false k m = refl

module _ (s : State) (a b v : ℕ) (R : Rows s) where
  rows_as_read : rows_read (table_words s.table) ≡ s.table
  rows_as_read = rows_read_lem s.table R.eight R.four

  unknown : (code : ℕ) → act s (step 0 code a b v) ≡ refused s 4 → turn_on (lent_of s) (step 0 code a b v) ≡ turn (Refused 4) (lent_of s)
      → Acts s (step 0 code a b v)
  unknown code e f = by_refused s (step 0 code a b v) 4 R e f

  advances : Acts s (step 0 4 a b v)
  unfolding turn_on by_move
  advances =
      let t : Step = step 0 4 a b v in
      by_placed s t (advance_kept s.control s.arena (all_passed s.table) (stage_of (move_of s).stage)) R (advance_acts s t refl)
      (rw rows_as_read
      (closing_last (lent_of s) (closing (all_passed s.table) (stage_of (move_of s).stage))
      (close_kept s.control s.arena (stage_of (move_of s).stage))
      (on_move s.control (advance_move s.arena (move_of s) (all_passed s.table) (stage_of (move_of s).stage)))))

  admits : Acts s (step 0 1 a b v)
  unfolding turn_on by_move
  admits =
      let t : Step = step 0 1 a b v in
      record {
        turn = ap lent_outcome (sym (admit_acts s t refl));
        rows = rw (admit_acts s t refl) (record { eight = R.eight; four = R.four });
      }

  retires : Acts s (step 0 2 a b v)
  unfolding turn_on by_move
  retires =
      let t : Step = step 0 2 a b v in
      let held : Bool = any (holds_cell (entry s.control.dir a)) s.table in
      by_placed s t (retire_step s.control s.arena held a) R (retire_acts s t refl) (rw rows_as_read)

  begins : Acts s (step 0 3 a b v)
  unfolding turn_on by_move
  begins =
      let t : Step = step 0 3 a b v in
      by_placed s t (begin_step s.control s.arena a) R (begin_acts s t refl) refl

  keeper_acts : (code : ℕ) → Acts s (step 0 code a b v)
  unfolding act turn_on by_move
  keeper_acts zero = unknown 0 refl refl
  keeper_acts (suc zero) = admits
  keeper_acts (suc (suc zero)) = retires
  keeper_acts (suc (suc (suc zero))) = begins
  keeper_acts (suc (suc (suc (suc zero)))) = advances
  keeper_acts (suc (suc (suc (suc (suc code))))) =
      let c : ℕ = suc (suc (suc (suc (suc code)))) in unknown c refl (rw (ne_eqb c 4 (λ e. omega arith)))

-- A client's step
client_acts : (s : State) (i code a b v : ℕ) → Rows s → i < 8 → Acts s (step (suc i) code a b v)
unfolding turn_on client_left
client_acts s i code a b v R h =
    let t : Step = step (suc i) code a b v in
    let n : Name = get_or client_codes code UNKNOWN in
    let own : Row = get_or s.table i fresh_row in
    let o : Stepped = client_turn n s.arena own (entry s.control.dir a) a b v in
    let e : act s t ≡ seated s t o = act_client s t (omega arith) (omega arith) in
    record {
      turn =
          rw (lt-ltb i 8 h, row_read_lem s.table R.four i (omega (arith, R.eight)))
          (ap (λ (l : Left). turn l.answer (lent s.control l.arena l.table))
          (client_stored s.arena s.table i n (entry s.control.dir a) a b v)
          ∙ ap lent_outcome (sym e));
      rows =
          rw e
          (record {
            eight = length-set s.table i o.row ∙ R.eight;
            four = four_after_set i o.row R.four (client_four s.arena own (R.four.four i) n (entry s.control.dir a) a b v);
          });
    }

-- "who above 8"
nobody_acts : (s : State) (i code a b v : ℕ) → Rows s → 8 ≤ i → Acts s (step (suc i) code a b v)
unfolding act turn_on
nobody_acts s i code a b v R h = by_refused s (step (suc i) code a b v) 3 R (rw (le-ltb i 8 h)) (rw (le-ltb i 8 h))

pub acts : (s : State) (who code a b v : ℕ) → Rows s → Acts s (step who code a b v)
acts s zero code a b v R = keeper_acts s a b v R code
acts s (suc i) code a b v R = ⊎_elim (client_acts s i code a b v R) (nobody_acts s i code a b v R) (order i 8)
