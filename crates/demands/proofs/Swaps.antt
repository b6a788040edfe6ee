-- GO of a waiting client keeps the invariant: a swap that is won takes the flag away, and so calls the move off; one that is lost
-- finds the meter's entry in the header. Assumes nothing.
use mathlib.Core.Path.{◌≡◌, refl, sym, ◌∙◌}
use mathlib.Core.Logic.{◌≢◌}
use mathlib.Core.Bool.{true}
use mathlib.Core.List.{List}
use Prim.Native.Nat.{ℕ, suc, pred, ◌*◌, ◌/◌, ◌<◌}
use native.Mathlib.Omega.{arith}
use lib.Dec.{eqb}
use lib.ListN.{set, length-set}
use borrow.Author.Tests.{eqb-true, eqb-false}
use Rattle.model.specs.declared.Access.{Access}
use Rattle.model.specs.declared.Move.{Move}
use Rattle.model.specs.declared.Stepped.{Stepped}
use Rattle.model.specs.Arena.{cells, place, word, header, plain, flagged, target_of}
use Rattle.model.specs.Rows.{hold_of, fresh_row}
use Rattle.model.specs.State.{State, entry, rise}
use Rattle.model.specs.ClientSteps.{swapped, swap}
use Rattle.model.specs.Steps.{Step, GO, own_row, seated}
use Rattle.model.proofs.Choice.{by_test, clash}
use Rattle.model.proofs.Counts.{rise_is}
use Rattle.model.proofs.Readings.{Flag, FlagUp, own_header, Early}
use Rattle.demands.specs.Log.{Account, client_of, said_by}
use Rattle.demands.proofs.Stages.{not_both}
use Rattle.demands.proofs.Lists.{set_cases}
use Rattle.demands.proofs.Owners.{other}
use Rattle.demands.proofs.Inv.{at_entry, ready, RowOk, early, Core, Inv}
use Rattle.demands.proofs.Blocks.{Cell, unflagged, flagged_cell, cell, home_lt, home_real}
use Rattle.demands.proofs.Entries.{stored_head, stored_else, stored_entry}
use Rattle.demands.proofs.RowLaws.{old_header, WaitingIn, RowIn, reflag_row, row_in, reseat_row}

-- the flag goes from the moved record's header
module _ {X : Type 0} {dir map : List ℕ} {v : Move} {arena : List ℕ} {val : ℕ → ℕ → ℕ} {kind own : ℕ → ℕ}
    (C : Core X dir map v arena val kind own) (l : Early v) where
  pub no_flag : FlagUp v (set arena (place v.from 0) (plain v.from)) → ⊥
  no_flag f = let S = C.sides (early l) in omega (arith, f.1, stored_head C v.meter v.from S.home S.inside (plain v.from))

  pub unflagged_core : Core X dir map v (set arena (place v.from 0) (plain v.from)) val kind own
  unflagged_core =
      let S = C.sides (early l) in
      let z = home_real C (early l) in
      let same : (j : ℕ) → j < 8 * cells (kind v.meter)
      → word (set arena (place v.from 0) (plain v.from)) v.target j ≡ word arena v.target j =
      λ j b. stored_else C v.meter v.from S.home S.inside (plain v.from) other v.target (cells (kind v.meter)) j
      S.owns b
      (λ e. absurd (omega (arith, home_lt C (early l)))) in
      record {
        entries256 = C.entries256;
        words8192 = length-set arena (place v.from 0) (plain v.from) ∙ C.words8192;
        is_map = C.is_map;
        entries = λ m n. stored_entry C v.meter v.from S.home S.inside (plain v.from) m n (C.entries m n).owns
            (λ _. own_header refl) (λ _ k. k);
        mapped = C.mapped;
        owned = C.owned;
        idle = C.idle;
        sides = C.sides;
        count = C.count;
        old_head = λ y. absurd (not_both v l y);
        old_label = λ y. absurd (not_both v l y);
        replica_head = λ y p. same 0 (omega arith) ∙ C.replica_head y p;
        replica_label = λ y p. same 1 (omega arith) ∙ C.replica_label y p;
        replica = λ _ f. absurd (no_flag f);
      }

module _ {X : Type 0} (s : State) (g : Account) (t : Step) (I : Inv X s g) (seat : pred t.who < 8) (att : (own_row s t).attached ≡ true)
    (c : ℕ) (x : Access) (W : WaitingIn s g t c x) where
  R : RowIn X s g (own_row s t) (client_of g t)
  R = row_in I t

  -- the row, ready at the meter's entry d, where the old header is h
  at_entry_now : (h d : ℕ) → entry s.control.dir ((client_of g t).opened (hold_of x)) ≡ d
      → (Flag s.control.mv h → Flag s.control.mv (old_header s) × (d ≢ s.control.mv.from) × (c ≢ s.control.mv.from))
      → RowOk X s.control.dir s.control.mv g.kind h s.control.begun (swapped (own_row s t) d x) (client_of g t)
  at_entry_now h d e f =
      let up : rise (own_row s t).swaps ≡ suc (own_row s t).swaps = rise_is (own_row s t).swaps s.control.begun W.owes I.small in
      record {
        four = R.four;
        holds = R.holds;
        detached = λ z. clash (own_row s t).attached att z;
        passed = R.passed;
        le = omega (arith, W.owes);
        lt = λ k. let b = f k in omega (arith, W.elsewhere b.0 b.2);
        phase = ready (record { asked = W.asked; place = at_entry e; newest = λ _. e; away = λ _ k _. (f k).1 });
      }

  abbrev Next : Stepped → Type 0
  Next o = Inv X (seated s t o).next (said_by GO g t o.answer)

  by_cell : Cell s.control.dir s.control.mv s.arena c ((client_of g t).opened (hold_of x)) → Next (swap s.arena (own_row s t) c x)
  unfolding swap
  by_cell (unflagged d e p u f) =
      let back : header s.arena c / 2 ≡ d = omega arith in
      by_test Next (eqb (header s.arena c) (flagged c))
      (λ y. absurd (omega (arith, eqb-true (header s.arena c) (flagged c) y)))
      (λ _. reseat_row I t seat _
      (at_entry_now (old_header s) (target_of (header s.arena c)) (p ∙ sym back) (λ k. (k, λ z. (f k).0 (sym back ∙ z), (f k).1))))
  by_cell (flagged_cell e p u l o) =
      by_test Next (eqb (header s.arena c) (flagged c))
      (λ _. rw o (record {
        own = I.own;
        core = unflagged_core I.core l;
        eight = length-set s.table (pred t.who) _ ∙ I.eight;
        r7 = I.r7;
        small = I.small;
        rows = set_cases
            (λ j y. RowOk X s.control.dir s.control.mv g.kind
            (header (set s.arena (place s.control.mv.from 0) (plain s.control.mv.from)) s.control.mv.from)
            s.control.begun y (g.clients j))
            s.table (pred t.who) _ fresh_row (omega (arith, I.eight))
            (at_entry_now (header (set s.arena (place s.control.mv.from 0) (plain s.control.mv.from))
            s.control.mv.from) s.control.mv.from (rw (← o) p) (λ k. absurd (no_flag I.core l k)))
            (λ j _. reflag_row (λ k. absurd (no_flag I.core l k)) (I.rows j));
      }))
      (λ y. absurd (eqb-false (header s.arena c) (flagged c) y e))

  pub swap_inv : Next (swap s.arena (own_row s t) c x)
  swap_inv = by_cell (cell I.core (rw W.held (R.holds (hold_of x))) (λ z. W.asked.filled (sym W.held ∙ z)))
