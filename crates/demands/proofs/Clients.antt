-- ATTACH, DETACH, OPEN, DROP, READ, WRITE and REST keep the invariant: each changes the client's own row and no word of the arena.
-- Assumes nothing.
use mathlib.Core.Path.{◌≡◌, refl, sym, ◌∙◌, subst⁻¹}
use mathlib.Core.Logic.{◌≢◌}
use mathlib.Core.Bool.{Bool, true, false, not}
use mathlib.Core.List.{List, map}
use Prim.Native.Nat.{ℕ, pred, ◌/◌, ◌%◌, ◌≤◌, ◌<◌}
use native.Mathlib.Omega.{arith}
use lib.Dec.{eqb}
use lib.ListN.{get_or, set, length-set, length-map, get_or-map}
use borrow.Author.Tests.{eqb-true, eqb-false, ltb-false, leb-false, not-false}
use Rattle.model.specs.declared.Access.{Access}
use Rattle.model.specs.declared.Phase.{Phase}
use Rattle.model.specs.declared.Phase.TheVariants.{Resting, Ready, Waiting}
use Rattle.model.specs.declared.Move.{Move}
use Rattle.model.specs.declared.Stepped.{Stepped}
use Rattle.model.specs.declared.Access.TheVariants.{Read, Write}
use Rattle.model.specs.Arena.{none, header, target_of, flag_of, payload_at}
use Rattle.model.specs.Rows.{hold_of, word_of, busy, hold, empty_holds, with_attached, with_passed, with_holds, with_phase}
use Rattle.model.specs.State.{State, entry}
use Rattle.model.specs.ClientSteps.{at_header, load_header, forwarded}
use Rattle.model.specs.Refusals.{access_refusals}
use Rattle.model.specs.Steps.{Step, Name, ATTACH, DETACH, OPEN, DROP, READ, WRITE, REST, own_row, seated}
use Rattle.model.proofs.Choice.{by_test, clash}
use Rattle.model.proofs.Refusals.{Passed}
use Rattle.model.proofs.Says.{get_d_fresh}
use Rattle.model.proofs.Readings.{Late}
use Rattle.demands.specs.Log.{access_to, Client, Account, new_client, client_of, with_hold, with_pending, asks, done_by, said_by}
use Rattle.demands.proofs.Lists.{set_cases, set_both}
use Rattle.demands.proofs.Keeping.{Keeps, keeps}
use Rattle.demands.proofs.Inv.{HoldOk, empty, here, at_entry, Asked, PhaseOk, rests, ready, waits, late, Core, Inv}
use Rattle.demands.proofs.Blocks.{Cell, unflagged, flagged_cell, entry_range, side_lt, side_apart, held_kind, cell}
use Rattle.demands.proofs.RowLaws.{old_header, RowIn, phase_rests, row_in, empty_row, seat_row, reseat_row}

-- where a hold goes at REST: to the meter's entry, so not to the old block
pub forward : {X : Type 0} {dir map : List ℕ} {v : Move} {arena : List ℕ} {val : ℕ → ℕ → ℕ} {kind own : ℕ → ℕ}
    → Core X dir map v arena val kind own
    → {h m : ℕ} → HoldOk dir v h m → HoldOk dir v (forwarded arena h) m × (Late v → forwarded arena h ≢ v.from)
unfolding forwarded
forward {X} {dir} {map} {v} {arena} C {h} {m} k =
    by_test (λ (n : ℕ). HoldOk dir v n m × (Late v → n ≢ v.from)) (eqb h none)
    (λ _. (empty refl, λ l z. omega (arith, side_lt C (late l))))
    (λ y. from (cell C k (eqb-false h none y)))
  where
    at : (t : ℕ) → t < 1024 → entry dir m ≡ t → target_of (header arena h) ≡ t → HoldOk dir v (target_of (header arena h)) m
        × (Late v → target_of (header arena h) ≢ v.from)
    at t u e z = rw z (here u e, λ l y. side_apart C (late l) m (e ∙ y))

    from : Cell dir v arena h m → HoldOk dir v (target_of (header arena h)) m × (Late v → target_of (header arena h) ≢ v.from)
    from (unflagged t e p u f) = at t u p (omega arith)
    from (flagged_cell e p u l o) = at h u p (omega arith)

rest_hold : (arena holds : List ℕ) (i : ℕ) → get_or (map (forwarded arena) holds) i none ≡ forwarded arena (get_or holds i none)
unfolding forwarded
rest_hold arena holds i = get_or-map (forwarded arena) holds i none

module _ {X : Type 0} (s : State) (g : Account) (t : Step) (I : Inv X s g) (seat : pred t.who < 8) where
  R : RowIn X s g (own_row s t) (client_of g t)
  R = row_in I t

  -- ATTACH and DETACH
  emptied : (b : Bool) → (own_row s t).phase ≡ Resting
      → RowIn X s g (with_holds (with_passed (with_attached (own_row s t) b) true) empty_holds) new_client
  emptied b e = empty_row I (with_holds (with_passed (with_attached (own_row s t) b) true) empty_holds) (λ i. get_d_fresh 4 i none) refl refl e
      R.le R.lt

  pub attach_inv : Keeps X ATTACH s g t
  attach_inv = keeps ATTACH s g t I (λ k. seat_row I t seat _ new_client (emptied true (R.detached k.0).rests))

  pub detach_inv : Keeps X DETACH s g t
  detach_inv = keeps DETACH s g t I (λ k. seat_row I t seat _ new_client (emptied false (phase_rests R.phase k.1.0).0))

  -- OPEN and DROP: hold i gets cell c, opened on m
  with_hold_lem : (i c m : ℕ) → i ≤ 3 → not (own_row s t).attached ≡ false → busy (own_row s t).phase ≡ false
      → HoldOk s.control.dir s.control.mv c m
      → (Late s.control.mv → c ≢ s.control.mv.from)
      → RowIn X s g (with_holds (own_row s t) (set (own_row s t).holds i c)) (with_hold (client_of g t) i m)
  with_hold_lem i c m fit a b ok away = record {
    four = length-set (own_row s t).holds i c ∙ R.four;
    holds = set_both (HoldOk s.control.dir s.control.mv) (own_row s t).holds (client_of g t).opened i c m none
        (omega (arith, R.four)) ok R.holds;
    detached = λ e. clash (own_row s t).attached (not-false (own_row s t).attached a) e;
    passed = λ l p. set_cases (λ _ (x : ℕ). x ≢ s.control.mv.from) (own_row s t).holds i c none (omega (arith, R.four)) (away l)
        (λ j _. R.passed l p j);
    le = R.le;
    lt = R.lt;
    phase = let e = phase_rests R.phase b in subst⁻¹ (PhaseOk X _ _ _ _ _ _ _) e.0 (rests e.1);
  }

  pub open_inv : Keeps X OPEN s g t
  open_inv = keeps OPEN s g t I (λ k.
      let n : entry s.control.dir t.a ≢ none = eqb-false (entry s.control.dir t.a) none k.1.1.1.1.0 in
      seat_row I t seat _ (with_hold (client_of g t) t.b t.a)
      (with_hold_lem t.b (entry s.control.dir t.a) t.a (ltb-false 3 t.b k.1.0) k.1.1.0 k.1.1.1.0
      (here (entry_range I.core t.a n) refl) (λ l. side_apart I.core (late l) t.a)))

  pub drop_inv : Keeps X DROP s g t
  drop_inv = keeps DROP s g t I (λ k.
      seat_row I t seat _ (with_hold (client_of g t) t.a none)
      (with_hold_lem t.a none none (ltb-false 3 t.a k.0) k.1.0 k.1.1.0 (empty refl)
      (λ l z. omega (arith, side_lt I.core (late l)))))

  pub rest_inv : Keeps X REST s g t
  rest_inv = keeps REST s g t I (λ k.
      reseat_row I t seat _ (record {
        four = length-map (own_row s t).holds (forwarded s.arena) ∙ R.four;
        holds = λ i. rw (rest_hold s.arena (own_row s t).holds i) (forward I.core (R.holds i)).0;
        detached = λ e. clash (own_row s t).attached (not-false (own_row s t).attached k.0) e;
        passed = λ l p i. rw (rest_hold s.arena (own_row s t).holds i) ((forward I.core (R.holds i)).1 l);
        le = R.le;
        lt = R.lt;
        phase = let e = phase_rests R.phase k.1.0 in subst⁻¹ (PhaseOk X _ _ _ _ _ _ _) e.0 (rests e.1);
      }))

  -- READ and WRITE
  module _ (n : Name) (x : Access) (says : done_by n g t ≡ asks g t x)
      (k : Passed (access_refusals s.arena (own_row s t) (hold_of x) (word_of x))) where
    abbrev q : Client
    q = with_pending (client_of g t) (access_to ((client_of g t).opened (hold_of x)) x)

    filled : hold (own_row s t) (hold_of x) ≢ none
    filled = eqb-false (hold (own_row s t) (hold_of x)) none k.1.1.1.0

    asked : Asked g.kind (hold (own_row s t) (hold_of x)) q x
    asked = record {
      pending = refl;
      filled = filled;
      fits = rw (held_kind I.core (R.holds (hold_of x)) filled) at
          (leb-false (payload_at s.arena (hold (own_row s t) (hold_of x))) (word_of x) k.1.1.1.1.0);
    }

    with_phase_lem : (p : Phase) → PhaseOk X s.control.dir s.control.mv g.kind (old_header s) s.control.begun
        (with_phase (own_row s t) p) q p
        → RowIn X s g (with_phase (own_row s t) p) q
    with_phase_lem p ok = record {
      four = R.four;
      holds = R.holds;
      detached = λ e. clash (own_row s t).attached (not-false (own_row s t).attached k.1.0) e;
      passed = R.passed;
      le = R.le;
      lt = R.lt;
      phase = ok;
    }

    abbrev Next : Stepped → Type 0
    Next o = Inv X (seated s t o).next (said_by n g t o.answer)

    by_cell : Cell s.control.dir s.control.mv s.arena (hold (own_row s t) (hold_of x)) ((client_of g t).opened (hold_of x))
        → Next (load_header s.arena (own_row s t) x)
    unfolding at_header
    by_cell (unflagged c e p u f) =
        let back : header s.arena (hold (own_row s t) (hold_of x)) / 2 ≡ c = omega arith in
        by_test Next (flag_of (header s.arena (hold (own_row s t) (hold_of x))))
        (λ y. absurd (omega (arith, eqb-true (header s.arena (hold (own_row s t) (hold_of x)) % 2) 1 y)))
        (λ _. rw says (seat_row I t seat _ q (with_phase_lem (Ready (header s.arena (hold (own_row s t) (hold_of x)) / 2) x)
        (ready (record {
          asked = asked;
          place = at_entry (p ∙ sym back);
          newest = λ _. p ∙ sym back;
          away = λ _ k _ z. (f k).0 (sym back ∙ z);
        })))))
    by_cell (flagged_cell e p u l o) =
        by_test Next (flag_of (header s.arena (hold (own_row s t) (hold_of x))))
        (λ _. rw says (seat_row I t seat _ q (with_phase_lem (Waiting (hold (own_row s t) (hold_of x)) x)
        (waits (record { asked = asked; held = refl; owes = R.lt (l, rw (← o) e); elsewhere = λ _ z. absurd (z o) })))))
        (λ y. absurd (eqb-false (header s.arena (hold (own_row s t) (hold_of x)) % 2) 1 y (omega arith)))

    access_inv : Next (load_header s.arena (own_row s t) x)
    access_inv = by_cell (cell I.core (R.holds (hold_of x)) filled)

  pub read_inv : Keeps X READ s g t
  read_inv = keeps READ s g t I (access_inv READ (Read t.a t.b) refl)

  pub write_inv : Keeps X WRITE s g t
  write_inv = keeps WRITE s g t I (access_inv WRITE (Write t.a t.b t.v) refl)
