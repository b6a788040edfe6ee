-- BEGIN keeps the invariant: the target is a free run, so nobody's; the flag is up, and of the rows only unattached ones
-- have passed. Assumes nothing.
use mathlib.Core.Path.{◌≡◌, refl, sym, ◌∙◌}
use mathlib.Core.Logic.{◌≢◌}
use mathlib.Core.List.{List}
use Prim.Native.Nat.{ℕ, suc, ◌<◌}
use native.Mathlib.Omega.{arith}
use lib.ListN.{set, length-set, length-map}
use borrow.Author.Tests.{eqb-false, leb-false, not-true}
use Rattle.model.specs.declared.Access.{Access}
use Rattle.model.specs.declared.Phase.TheVariants.{Resting, Ready}
use Rattle.model.specs.declared.Row.{Row}
use Rattle.model.specs.declared.Move.{Move}
use Rattle.model.specs.Arena.{cells, none, place, label, kind_of, flagged, lowest_run, put_run}
use Rattle.model.specs.Rows.{cleared, clear_marks}
use Rattle.model.specs.State.{with_move, with_begun, rise, entry, State, state}
use Rattle.model.specs.KeeperSteps.{taken, first_move}
use Rattle.model.specs.Rules.{is_early}
use Rattle.model.specs.Steps.{Step, BEGIN}
use Rattle.model.proofs.ByKind.{by_kind}
use Rattle.model.proofs.CellMap.{FreeRun, run_map, lowest_free}
use Rattle.model.proofs.Counts.{rise_is}
use Rattle.model.proofs.Readings.{HeaderRight, own_header, flag_header}
use Rattle.model.proofs.Says.{says_holds, one_no}
use Rattle.demands.specs.Log.{Client, Account}
use Rattle.demands.proofs.Stages.{Idle, idle_of, idle_early, idle_late}
use Rattle.demands.proofs.Owners.{other, repaint, repaint_cases, repaint_in, owns_keep, mapped_run, run_unowned}
use Rattle.demands.proofs.Inv.{HoldOk, empty, here, was, RowOk, Sides, early, late, SidesOk, Block, in_entry, in_other, Core, Inv}
use Rattle.demands.proofs.Blocks.{meter_lt, entry_range, held_kind}
use Rattle.demands.proofs.Entries.{stored_entry}
use Rattle.demands.proofs.RowLaws.{carry_phase, marked, cleared_passed, cleared_get}
use Rattle.demands.proofs.Keeping.{Keeps, keeps}

-- the move of meter a, at c, to target d
module _ {X : Type 0} {dir map : List ℕ} {v : Move} {arena : List ℕ} {val : ℕ → ℕ → ℕ} {kind own : ℕ → ℕ}
    (C : Core X dir map v arena val kind own)
    (quiet : Idle v) (a d : ℕ) (present : entry dir a ≢ none) (run : FreeRun map (cells (kind a)) d) where
  own' : ℕ → ℕ
  own' = repaint own d (cells (kind a)) other

  keep_head : {m c h : ℕ} → HeaderRight v m c h → HeaderRight (first_move a (entry dir a) d) m c h
  keep_head (own_header p) = own_header p
  keep_head (flag_header l _ _) = absurd (idle_early v quiet l)

  keep_block : {x i : ℕ} → Block dir v kind x i → Block dir (first_move a (entry dir a) d) kind x i
  keep_block (in_entry p q r) = in_entry p q r
  keep_block (in_other (early l) _ _ _) = absurd (idle_early v quiet l)
  keep_block (in_other (late l) _ _ _) = absurd (idle_late v quiet l)

  new_sides : {c e : ℕ} → Sides (first_move a (entry dir a) d) c e → SidesOk dir (first_move a (entry dir a) d) kind own' c e
  unfolding own'
  new_sides (early l) = record {
    home = refl;
    inside = entry_range C a present;
    range = run.within;
    owns = repaint_in own d (cells (kind a)) other;
  }
  new_sides (late l) = absurd l

  begun_core : Core X dir (put_run map d (cells (kind a)) 1) (first_move a (entry dir a) d)
      (set arena (place (entry dir a) 0) (flagged (entry dir a))) val kind own'
  unfolding own'
  begun_core = record {
    entries256 = C.entries256;
    words8192 = length-set arena (place (entry dir a) 0) (flagged (entry dir a)) ∙ C.words8192;
    is_map = run_map map d (cells (kind a)) 1 C.is_map (omega arith);
    entries = λ m n. stored_entry C a (entry dir a) refl (entry_range C a present) (flagged (entry dir a)) m n
        (owns_keep own d (cells (kind a)) other m (entry dir m) (cells (kind m))
        (λ x p q i. omega (arith, run_unowned own map (cells (kind a)) d C.mapped run x p q, meter_lt C m n)) (C.entries m n).owns)
        (λ _. flag_header tt refl refl) (λ _ k. keep_head k);
    mapped = mapped_run own map d (cells (kind a)) other 1 C.is_map (omega arith) refl C.mapped;
    owned = λ x. repaint_cases (λ (i : ℕ). i ≢ none → Block dir (first_move a (entry dir a) d) kind x i) own d (cells (kind a)) other x
        (λ p q _. in_other (early tt) refl p q) (λ _ i. keep_block (C.owned x i));
    idle = λ l. absurd l;
    sides = λ b. new_sides b;
    count = refl;
    old_head = λ l. absurd l;
    old_label = λ l. absurd l;
    replica_head = λ _ p. absurd (omega arith);
    replica_label = λ _ p. absurd (omega arith);
    replica = λ _ _ k p q. absurd (omega arith);
  }

  begun_row : {h h' b b' : ℕ} {r : Row} {q : Client} → suc b ≡ b' → RowOk X dir v kind h b r q
      → RowOk X dir (first_move a (entry dir a) d) kind h' b' (cleared r) q
  begun_row {r = r} {q = q} up R = record {
    four = R.four;
    holds = λ i. keep_hold (R.holds i);
    detached = marked r _ (cleared_passed r) R.detached;
    passed = λ l. absurd l;
    le = omega (arith, R.le);
    lt = λ _. omega (arith, R.le);
    phase = carry_phase (λ e. e)
        (λ c x e W. record {
          asked = W.asked;
          place = W.place;
          newest = W.newest;
          away = λ _ _ p. absurd (busy (sym e ∙ (R.detached (not-true r.attached (p tt))).rests));
        })
        (λ c x W. record { asked = W.asked; held = W.held; owes = omega (arith, W.owes); elsewhere = λ _ _. omega (arith, W.owes) })
        R.phase;
  }
    where
      keep_hold : {h m : ℕ} → HoldOk dir v h m → HoldOk dir (first_move a (entry dir a) d) h m
      keep_hold (empty e) = empty e
      keep_hold (here u e) = here u e
      keep_hold (was l _ _) = absurd (idle_late v quiet l)

      busy : {c : ℕ} {x : Access} → Ready c x ≡ Resting → ⊥
      busy e = let z : ◌≡◌ {A = ℕ} 0 1 = cc in omega arith

module _ {X : Type 0} (s : State) (g : Account) (t : Step) (I : Inv X s g) where
  abbrev c : ℕ
  c = entry s.control.dir t.a

  began : (d : ℕ) → Idle s.control.mv → c ≢ none → FreeRun s.control.map (cells (g.kind t.a)) d → s.control.begun ≢ 4294967295
      → Inv X (state (with_begun (with_move (taken s.control d (cells (g.kind t.a))) (first_move t.a c d))
      (rise s.control.begun))
      (set s.arena (place c 0) (flagged c)) (clear_marks s.table)) g
  began d quiet present run more =
      let up : rise s.control.begun ≡ suc s.control.begun = rise_is s.control.begun 4294967295 (omega (arith, I.small))
      (omega arith) in
      record {
        own = own' I.core quiet t.a d present run;
        core = begun_core I.core quiet t.a d present run;
        eight = length-map s.table cleared ∙ I.eight;
        rows = λ i. rw (cleared_get s.table i) (begun_row I.core quiet t.a d present run (sym up) (I.rows i));
        r7 = omega (arith, I.r7, one_no (says_holds (is_early s.control.mv)) (idle_early s.control.mv quiet));
        small = omega (arith, I.small);
      }

  pub begin_inv : Keeps X BEGIN s g t
  begin_inv = keeps BEGIN s g t I (λ k.
      let present : c ≢ none = eqb-false c none k.1.1.0 in
      let same : kind_of (label s.arena c) ≡ g.kind t.a = held_kind I.core {h = c} {m = t.a}
      (here (entry_range I.core t.a present) refl) present in
      let d : ℕ = lowest_run s.control.map (cells (g.kind t.a)) in
      let below : d < c = leb-false c d (rw same at k.1.1.1.0) in
      let z = by_kind (g.kind t.a) (I.core.entries t.a present).kinded in
      rw same (began d (idle_of s.control.mv k.1.0) present
      (lowest_free s.control.map (cells (g.kind t.a)) z.some (λ e. omega (arith, entry_range I.core t.a present)))
      (eqb-false s.control.begun 4294967295 k.1.1.1.1.0)))
