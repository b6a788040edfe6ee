-- A move that ends, called off or given back, keeps the invariant: its other block goes back, and no row holds it. With this every
-- ADVANCE does. Assumes nothing.
use mathlib.Core.Path.{◌≡◌, refl, sym, ap, ◌∙◌}
use mathlib.Core.Logic.{◌≢◌}
use mathlib.Core.Bool.{true}
use mathlib.Core.List.{List}
use Prim.Native.Nat.{ℕ, suc, ◌+◌, ◌≤◌, ◌<◌}
use native.Mathlib.Omega.{arith}
use lib.Dec.{eqb}
use borrow.Author.Tests.{eqb-true, eqb-false}
use Rattle.model.specs.declared.Row.{Row}
use Rattle.model.specs.declared.Move.{Move}
use Rattle.model.specs.Arena.{cells, none, header, flagged, put_run}
use Rattle.model.specs.Rows.{all_passed}
use Rattle.model.specs.declared.Stage.{Stage}
use Rattle.model.specs.declared.Stage.TheVariants.{NoMove, FirstBarrier, Copying, SecondBarrier, ThirdBarrier}
use Rattle.model.specs.State.{stage_of, no_move, rise, entry, State, Outcome}
use Rattle.model.specs.KeeperSteps.{barrier, start_copying, settle, call_off, give_back, advance}
use Rattle.model.specs.Rules.{is_early}
use Rattle.model.specs.Steps.{Step, ADVANCE}
use Rattle.model.proofs.Choice.{by_test}
use Rattle.model.proofs.CellMap.{run_map}
use Rattle.model.proofs.Counts.{rise_is}
use Rattle.model.proofs.Readings.{FlagUp, HeaderRight, own_header, flag_header, Early, Late}
use Rattle.model.proofs.Says.{says_holds, one_yes, one_no}
use Rattle.demands.specs.Log.{Client, Account}
use Rattle.demands.proofs.Stages.{not_both}
use Rattle.demands.proofs.Owners.{repaint, repaint_cases, owns_keep, mapped_run}
use Rattle.demands.proofs.Inv.{HoldOk, empty, here, was, RowOk, Sides, early, late, Block, in_entry, in_other, Core, Inv}
use Rattle.demands.proofs.Blocks.{still, meter_lt, from_kind}
use Rattle.demands.proofs.Entries.{carry_entry}
use Rattle.demands.proofs.RowLaws.{carry_phase, passed_get}
use Rattle.demands.proofs.Keeping.{Good, Keeps, keeps}
use Rattle.demands.proofs.Copying.{first_inv, copy_inv}
use Rattle.demands.proofs.Commits.{commit_inv}

-- a move has one other block
one_side : {v : Move} {c d c' d' : ℕ} → Sides v c d → Sides v c' d' → d ≡ d'
one_side (early _) (early _) = refl
one_side {v} (early l) (late y) = absurd (not_both v l y)
one_side {v} (late y) (early l) = absurd (not_both v l y)
one_side (late _) (late _) = refl

module _ {X : Type 0} {dir map : List ℕ} {v : Move} {arena : List ℕ} {val : ℕ → ℕ → ℕ} {kind own : ℕ → ℕ}
    (C : Core X dir map v arena val kind own)
    (down : FlagUp v arena → ⊥) {c d : ℕ} (b : Sides v c d) where
  plain_head : {m : ℕ} → HeaderRight v m (entry dir m) (header arena (entry dir m))
      → HeaderRight no_move m (entry dir m) (header arena (entry dir m))
  plain_head (own_header p) = own_header p
  plain_head {m} (flag_header l p h) =
      let z : entry dir m ≡ v.from = ap (entry dir) p ∙ (C.sides (early l)).home in
      absurd (down (l, ap (header arena) (sym z) ∙ h ∙ ap flagged z))

  pub ended_core : Core X dir (put_run map d (cells (kind v.meter)) 0) no_move arena val kind
      (repaint own d (cells (kind v.meter)) none)
  ended_core =
      still C.entries256 C.words8192 (run_map map d n 0 C.is_map (omega arith))
      (λ m y. let E = C.entries m y in
      carry_entry E (owns_keep own d n none m (entry dir m) (cells (kind m))
      (λ x p q e. omega (arith, (C.sides b).owns x p q, meter_lt C m y)) E.owns) (plain_head E.head) (λ j _ _. refl))
      (mapped_run own map d n none 0 C.is_map (omega arith) refl C.mapped)
      (λ x. repaint_cases (λ (i : ℕ). i ≢ none → Block dir no_move kind x i) own d n none x (λ _ _ e. absurd (e refl))
      (λ o i. keep_block o (C.owned x i)))
    where
      n : ℕ
      n = cells (kind v.meter)

      keep_block : {x i : ℕ} → (d ≤ x → x < d + cells (kind v.meter) → ⊥) → Block dir v kind x i → Block dir no_move kind x i
      keep_block o (in_entry p q r) = in_entry p q r
      keep_block o (in_other b' _ q r) = let e = one_side b b' in absurd (o (omega arith) (omega arith))

pub ended_row : {X : Type 0} {dir : List ℕ} {v : Move} {kind : ℕ → ℕ} {h h' b : ℕ} {r : Row} {q : Client} → (Late v → r.passed ≡ true)
    → RowOk X dir v kind h b r q
    → RowOk X dir no_move kind h' b r q
ended_row {dir = dir} {v = v} pass R = record {
  four = R.four;
  holds = λ i. keep_hold (R.holds i) (λ l. R.passed l (pass l) i);
  detached = R.detached;
  passed = λ y. absurd y;
  le = R.le;
  lt = λ f. absurd f.0;
  phase = carry_phase (λ e. e)
      (λ c x _ W. record { asked = W.asked; place = W.place; newest = W.newest; away = λ _ f. absurd f.0 })
      (λ c x W. record { asked = W.asked; held = W.held; owes = W.owes; elsewhere = λ f. absurd f.0 })
      R.phase;
}
  where
    keep_hold : {h m : ℕ} → HoldOk dir v h m → (Late v → h ≢ v.from) → HoldOk dir no_move h m
    keep_hold (empty e) n = empty e
    keep_hold (here u e) n = here u e
    keep_hold (was l e _) n = absurd (n l e)

module _ {X : Type 0} (s : State) (g : Account) (I : Inv X s g) where
  abbrev v : Move
  v = s.control.mv

  call_off_inv : stage_of v.stage ≡ SecondBarrier → header s.arena v.from ≢ flagged v.from → Inv X (call_off s).next g
  call_off_inv e down =
      let l : Early v = rw e tt in
      let r7 = I.r7 in
      let now = one_yes (says_holds (is_early v)) l in
      let up : rise s.control.aborted ≡ suc s.control.aborted = rise_is s.control.aborted s.control.begun (omega arith)
      I.small in
      rw (from_kind I.core (early l)) (record {
        own = repaint I.own v.target (cells (g.kind v.meter)) none;
        core = ended_core I.core (λ f. down f.1) (early l);
        eight = I.eight;
        rows = λ i. ended_row (λ y. absurd (not_both v l y)) (I.rows i);
        r7 = omega arith;
        small = I.small;
      })

  give_back_inv : stage_of v.stage ≡ ThirdBarrier → all_passed s.table ≡ true → Inv X (give_back s).next g
  give_back_inv e p =
      let l : Late v = rw e tt in
      rw (from_kind I.core (late l)) (record {
        own = repaint I.own v.from (cells (g.kind v.meter)) none;
        core = ended_core I.core (λ f. not_both v f.0 l) (late l);
        eight = I.eight;
        rows = λ i. ended_row (λ _. passed_get s.table p i) (I.rows i);
        r7 = omega (arith, I.r7, one_no (says_holds (is_early v)) (λ y. not_both v y l));
        small = I.small;
      })

  module _ (t : Step) where
    beyond : (o : Outcome) → (all_passed s.table ≡ true → Good X ADVANCE g t o) → Good X ADVANCE g t (barrier s o)
    unfolding barrier
    beyond o f = by_test (Good X ADVANCE g t) (all_passed s.table) f (λ _. I)

    settled : stage_of v.stage ≡ SecondBarrier → Good X ADVANCE g t (settle s)
    unfolding settle
    settled e = by_test (Good X ADVANCE g t) (eqb (header s.arena v.from) (flagged v.from))
        (λ y. commit_inv s g I e (eqb-true (header s.arena v.from) (flagged v.from) y))
        (λ y. call_off_inv e (eqb-false (header s.arena v.from) (flagged v.from) y))

    by_stage : (n : Stage) → stage_of v.stage ≡ n → Good X ADVANCE g t (advance s n)
    by_stage NoMove e = I
    by_stage FirstBarrier e = beyond (start_copying s) (first_inv s g I e)
    by_stage Copying e = copy_inv s g I t e
    by_stage SecondBarrier e = beyond (settle s) (λ _. settled e)
    by_stage ThirdBarrier e = beyond (give_back s) (give_back_inv e)

    pub advance_inv : Keeps X ADVANCE s g t
    advance_inv = keeps ADVANCE s g t I (λ _. by_stage (stage_of v.stage) refl)
