-- From the words to the rows: what a call does to the words of eight rows it does to the table that they were taken out of, and a table
-- that has not eight is refused.
-- Assumes nothing.
use mathlib.Core.Path.{◌≡◌, refl, sym, ap, ◌∙◌}
use mathlib.Core.Bool.{Bool, true, false, not}
use mathlib.Core.List.{List}
use Prim.Native.Nat.{ℕ}
use lib.Dec.{eqb}
use lib.ListN.{length}
use borrow.Author.Tests.{eq-eqb, eqb-true}
use denote.Ref.{MutBor}
use Rattle.std.specs.Prelude.{Option, Some, None}
use Rattle.std.specs.Fn.{CalledAtMut, Mut}
use Rattle.model.specs.declared.Row.{Row}
use Rattle.model.specs.declared.Control.{Control}
use Rattle.model.specs.Choice.{pick, ◌and◌, All}
use Rattle.model.specs.Rows.{FourHolds}
use Rattle.model.specs.State.{State, state, Outcome}
use Rattle.model.specs.Steps.{refused, wrong_size, run_call, Ran}
use Rattle.model.proofs.Calls.{run_wrong_size}
use Rattle.table.specs.Words.{table_words, rows_read}
use Rattle.table.proofs.FourHolds.{RowsOfFour, four_of_all}
use Rattle.table.proofs.Rows.{rows_of_words}
use Rattle.rows.specs.Taken.{taken}
use Rattle.archive.specs.declared.Reply.{Reply}
use Rattle.archive.specs.Does.{meant, CallDoes, RunDoes, LookDoes}
use Rattle.byrow.specs.declared.Done.{Done}
use Rattle.byrow.specs.Does.{Does, DoesRows, RunsRows, LooksRows, table_left}
use Rattle.byrow.specs.OnWords.{turned_down, OnWords}
use Rattle.byrow.proofs.Words.{read_after}
use Rattle.byrow.proofs.Calls.{Tests, Keeps, Call, ran_out, run_is}

-- a table of eight rows, and any other
none_taken : (t : List Row) → taken t ≡ None → eqb (length t) 8 ≡ false
none_taken t = by (eqb (length t) 8)
  where
    by : (b : Bool) → pick b (Some t) None ≡ None → b ≡ false
    by true e = cc
    by false e = refl

these_taken : (t : List Row) {l : List Row} → taken t ≡ Some l → (t ≡ l) × (length t ≡ 8)
these_taken t {l} = by (eqb (length t) 8) refl
  where
    by : (b : Bool) → eqb (length t) 8 ≡ b → pick b (Some t) None ≡ Some l → (t ≡ l) × (length t ≡ 8)
    by true h e = (cc, eqb-true (length t) 8 h)
    by false h e = cc

pub wrong_length : (c : Control) (a : List ℕ) (t : List Row) → taken t ≡ None → wrong_size (state c a t) ≡ true
unfolding wrong_size
wrong_length c a t e = rw (none_taken t e) (go (eqb (length a) 8192))
  where
    go : (b : Bool) → not (b and false) ≡ true
    go true = refl
    go false = refl

-- the calls on a table that has not eight rows
module _ {call : State → Outcome} (G : Tests call) (c : Control) (a : List ℕ) where
  pub refused_so : (t : List Row) → taken t ≡ None → call (state c a t) ≡ refused (state c a t) 1
  refused_so t e = G.by_one (state c a t) (wrong_length c a t e)

  refused_does : (t : List Row) → taken t ≡ None → Does (turned_down c) a t (call (state c a t))
  refused_does t e = rw (refused_so t e) (record { answer = refl; control = refl; arena = refl; table = refl })

  pub rows_refused : DoesRows None (record { reply = turned_down c; rows = None }) a (λ t. call (state c a t))
  rows_refused = record { does = refused_does; back = λ l e. cc; other = λ _. refl }

  pub look_refused : {rows : Option (List Row)} → rows ≡ None → LooksRows rows (turned_down c) (λ t. call (state c a t))
  look_refused p = record { looks = λ t e. rw (refused_so t (e ∙ p)) (record { answer = refl; control = refl }) }

-- the calls on the words of eight rows
module _ (c : Control) (a : List ℕ) (l : List Row) (eight : length l ≡ 8) (holds : All FourHolds l) where
  four : RowsOfFour l
  four = four_of_all holds

  meant_rows : meant c a (table_words l) ≡ state c a l
  meant_rows = ap (state c a) (rows_of_words l eight four)

  module _ {call : State → Outcome} (G : Call call) {r : Reply} {a' words : List ℕ} (d : CallDoes (table_words l) r a' words (call (meant c a (table_words l)))) where
    rows_back : rows_read words ≡ (call (state c a l)).next.table
    rows_back =
        let s : State = state c a l in
        let k : Keeps s (call s) = G.keeps s (record { eight = eight; four = four }) in
        read_after l eight four (call s).answer (call s).next.table k.rows.eight k.rows.four k.same (rw meant_rows at d).table

    read_back : Does r a' (table_left l (Some (rows_read words))) (call (state c a l))
    read_back =
        let d' = rw meant_rows at d in
        record { answer = d'.answer; control = d'.control; arena = d'.arena; table = rw (eq-eqb (length l) 8 eight) rows_back }

pub look_done : (call : State → Outcome) (c : Control) (a : List ℕ) {rows : Option (List Row)} (l : List Row) → rows ≡ Some l → All FourHolds l
    → {r : Reply} → LookDoes r (call (meant c a (table_words l))) → LooksRows rows r (λ t. call (state c a t))
look_done call c a l p holds {r} d =
    record {
      looks = λ t e. let q = these_taken t (e ∙ p) in
          let d' = rw (meant_rows c a l (ap length (sym q.0) ∙ q.1) holds) at d in
          rw q.0 (record { answer = d'.answer; control = d'.control });
    }

-- the calls that are made on the words of the rows, if there are any
module _ (c : Control) (a a' : List ℕ) (rows : Option (List Row)) (d : Done)
    {F : Type 0} {g : Mut F (MutBor (List ℕ) × Unit {0}) (Reply × (MutBor (List ℕ) × Unit {0}))} {f f' : F} (o : OnWords g c rows f d f') where
  -- `given` is what the caller of f gives: d, whatever way it went
  pub rows_done : {call : State → Outcome} → Call call → (f' ≡ f → a' ≡ a)
      → ((r : Reply) (t t' : List ℕ) → CalledAtMut g f t r f' t' → CallDoes t r a' t' (call (meant c a t)))
      → {given : Done} → given ≡ d → DoesRows rows given a' (λ t. call (state c a t))
  rows_done {call} G kept does same = rw same (by rows o)
    where
      by : (rows : Option (List Row)) → OnWords g c rows f d f' → DoesRows rows d a' (λ t. call (state c a t))
      by None w = rw (w.0, kept w.1) (rows_refused G.tests c a)
      by (Some l) w =
          let called = does d.reply (table_words l) w.words w.called in
          record {
            does = λ t e. rw ((these_taken t e).0, w.back) (read_back c a l w.eight w.holds G called);
            back = λ m e. let these : m ≡ l = cc in rw these (w.back ∙ ap Some (rows_back c a l w.eight w.holds G called));
            other = λ e. cc;
          }

  pub run_done : (ws slots l : List ℕ) → (f' ≡ f → (a' ≡ a) × (l ≡ slots))
      → ((r : Reply) (t t' : List ℕ) → CalledAtMut g f t r f' t' → RunDoes t r a' t' l (run_call (meant c a t) ws slots))
      → RunsRows rows d a' l (λ t. run_call (state c a t) ws slots)
  run_done ws slots l kept does =
      record { runs = λ t e. record { leaves = leaves.does t e; slots = by rows o t e }; back = leaves.back; other = leaves.other }
    where
      leaves : DoesRows rows d a' (λ t. ran_out (run_call (state c a t) ws slots))
      leaves =
          rows_done (run_is ws slots) (λ e. (kept e).0)
          (λ r t t' k. let h = does r t t' k in record { answer = h.answer; control = h.control; arena = h.arena; table = h.table }) refl

      by : (rows : Option (List Row)) → OnWords g c rows f d f' → (t : List Row) → taken t ≡ rows → l ≡ (run_call (state c a t) ws slots).slots
      by None w t e = (kept w.1).1 ∙ sym (ap (λ (r : Ran). r.slots) (run_wrong_size (state c a t) ws slots (wrong_length c a t e)))
      by (Some m) w t e =
          rw (these_taken t e).0
          (rw (meant_rows c a m w.eight w.holds) at ((does d.reply (table_words m) w.words w.called).slots))
