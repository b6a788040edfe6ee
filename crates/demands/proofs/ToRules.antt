-- The invariant gives R1 to R8 back. Assumes nothing.
use mathlib.Core.Path.{◌≡◌, refl, sym, ap, ◌∙◌, subst⁻¹}
use mathlib.Core.Logic.{◌≢◌, ◌⊎◌, inl, inr, ⊎_elim}
use mathlib.Core.Bool.{false, not, true}
use mathlib.Core.List.{List, [], ◌∷◌}
use Prim.Native.Nat.{ℕ, ◌+◌, ◌≤◌, ◌<◌}
use native.Mathlib.Omega.{arith}
use lib.Dec.{T}
use lib.ListN.{get_or, get_or-eq_default}
use Rattle.model.specs.declared.Access.{Access}
use Rattle.model.specs.declared.Phase.{Phase}
use Rattle.model.specs.declared.Row.{Row}
use Rattle.model.specs.declared.Move.{Move}
use Rattle.model.specs.Arena.{cells, words, none, header, target_of, cells_at, words_at, used}
use Rattle.model.specs.Rows.{hold_of, hold, fresh_row, FourHolds}
use Rattle.model.specs.declared.Stage.{Stage}
use Rattle.model.specs.declared.Stage.TheVariants.{NoMove, FirstBarrier, Copying, SecondBarrier, ThirdBarrier}
use Rattle.model.specs.State.{stage_of, in_hand, no_move, entry, State, Sizes}
use Rattle.model.specs.Rules.{covers, flag_up}
use Rattle.model.proofs.Choice.{clash, order}
use Rattle.model.proofs.Says.{says_eq, says_not, at_all}
use Rattle.model.proofs.Readings.{RecordsRight, MoveRight, CellsRight, HeadersRight, NumbersAt, HoldRight, hold_empty, hold_present}
use Rattle.model.proofs.Readings.{hold_old, AccessRight, PhaseRight, RowRight, SwapsAt, Owing, owed_le, says_flag, Sound}
use Rattle.model.proofs.Covers.{covers_in, other_over, other_early, other_late, other_by, Over, covers_is}
use Rattle.model.proofs.Wording.{InBlock, in_record, in_other as other_block, words_in_cells}
use Rattle.demands.specs.Log.{Client, Account}
use Rattle.demands.proofs.Owners.{other, bit_of, owner_bit}
use Rattle.demands.proofs.Inv.{HoldOk, empty, here, was, Place, at_entry, at_hold, Asked, PhaseOk, rests, ready, waits, RowOk, Sides}
use Rattle.demands.proofs.Inv.{early, late, Block, in_entry, in_other, Core, Inv}
use Rattle.demands.proofs.Blocks.{Cell, unflagged, flagged_cell, meter_lt, entry_range, home_in, home_entry, from_kind, held_kind}
use Rattle.demands.proofs.Blocks.{cell, numbers_same}

-- a number that is no stage counts as none in hand
stage_lt : (v : Move) → (T (not (in_hand (stage_of v.stage))) → v ≡ no_move) → v.stage < 5
stage_lt v f =
    ⊎_elim (λ h. h) (λ (h : 5 ≤ v.stage). absurd (omega (arith, ap (λ (w : Move). w.stage) (f (none_in_hand h))))) (order v.stage 5)
  where
    none_in_hand : 5 ≤ v.stage → T (not (in_hand (stage_of v.stage)))
    none_in_hand h =
        subst⁻¹ (λ (g : Stage). T (not (in_hand g)))
        (get_or-eq_default (NoMove ∷ FirstBarrier ∷ Copying ∷ SecondBarrier ∷ ThirdBarrier ∷ []) NoMove h) tt

module _ {X : Type 0} (s : State) (g : Account) (I : Inv X s g) where
  abbrev dir : List ℕ
  dir = s.control.dir

  abbrev v : Move
  v = s.control.mv

  abbrev arena : List ℕ
  arena = s.arena

  abbrev C : Core X dir s.control.map v arena g.last_written g.kind I.own
  C = I.core

  entry_cells : (m : ℕ) → entry dir m ≢ none → cells_at arena (entry dir m) ≡ cells (g.kind m)
  entry_cells m n = ap cells (held_kind C {h = entry dir m} {m = m} (here (entry_range C m n) refl) n)

  from_cells : {c d : ℕ} → Sides v c d → cells_at arena v.from ≡ cells (g.kind v.meter)
  from_cells b = ap cells (from_kind C b)

  from_words : {c d : ℕ} → Sides v c d → words_at arena v.from ≡ words (g.kind v.meter)
  from_words b = ap words (from_kind C b)

  rule1 : RecordsRight dir arena
  rule1 m b n =
      let E = C.entries m n in
      let k = entry_cells m n in
      record { meter = omega (arith, E.label, E.kinded); within = omega (arith, E.range) }

  rule2 : MoveRight dir v arena
  rule2 =
      record {
        stage = stage_lt v C.idle;
        early = λ l.
            let k = from_cells (early l) in
            record {
              present = home_in C (early l);
              old = (C.sides (early l)).home;
              within = omega (arith, (C.sides (early l)).range);
              replica_header = C.replica_head l;
              replica_label = λ p. C.replica_label l p ∙ sym (home_entry C (early l)).label;
            };
        late = λ l.
            let k = from_cells (late l) in
            record {
              present = home_in C (late l);
              new = (C.sides (late l)).home;
              same_label = C.old_label l ∙ sym (home_entry C (late l)).label;
              within = omega (arith, (C.sides (late l)).range);
            };
      }

  -- a record over a cell, or the other block, owns it; and a block that owns a cell lies over it
  record_own : (x m : ℕ) → Over arena x (entry dir m) → I.own x ≡ m
  record_own x m o = let k = entry_cells m o.present in (C.entries m o.present).owns x o.low (omega (arith, o.high))

  other_own : (x : ℕ) → other_over v arena x ≡ 1 → I.own x ≡ other
  other_own x =
      other_by v arena x (λ (n : ℕ). n ≡ 1 → I.own x ≡ other) (λ l. on (early l)) (λ l. on (late l)) (λ _ _ e. absurd (omega arith))
    where
      on : {c d : ℕ} → Sides v c d → covers d (cells_at arena v.from) x ≡ 1 → I.own x ≡ other
      on {c} {d} b e =
          let k = from_cells b in
          let o = covers_is d (cells_at arena v.from) x e in
          (C.sides b).owns x o.0 (omega (arith, o.1))

  other_on : (x : ℕ) {c d : ℕ} → Sides v c d → d ≤ x → x < d + cells (g.kind v.meter) → other_over v arena x ≡ 1
  other_on x (early l) p q =
      let k = from_cells (early l) in other_early v arena x l ∙ covers_in v.target (cells_at arena v.from) x p (omega arith)
  other_on x (late l) p q =
      let k = from_cells (late l) in other_late v arena x l ∙ covers_in v.from (cells_at arena v.from) x p (omega arith)

  block_in : {x i : ℕ} → Block dir v g.kind x i → InBlock dir v arena x
  block_in {x} {i} (in_entry n p q) =
      let k = entry_cells i n in
      in_record i (omega (arith, meter_lt C i n, C.entries256)) (record { present = n; low = p; high = omega arith })
  block_in {x} (in_other b e p q) = other_block (other_on x b p q)

  rule3 : CellsRight dir s.control.map v arena
  rule3 = words_in_cells dir s.control.map v arena (λ x h.
      record {
        used_only = λ e. block_in (C.owned x (λ z. omega (arith, C.mapped x h, ap bit_of z)));
        used_all = used_by x h;
        one_record = λ m n _ _ o q. sym (record_own x m o) ∙ record_own x n q;
        not_both = λ m b o e. omega (arith, record_own x m o, other_own x e, C.entries256);
      })
    where
      used_at : (x i : ℕ) → x < 1024 → I.own x ≡ i → i ≢ none → used s.control.map x ≡ 1
      used_at x i h e n = C.mapped x h ∙ ap bit_of e ∙ sym (owner_bit i n)

      used_by : (x : ℕ) → x < 1024 → InBlock dir v arena x → used s.control.map x ≡ 1
      used_by x h (in_record m b o) = used_at x m h (record_own x m o) (λ z. omega (arith, C.entries256))
      used_by x h (other_block e) = used_at x other h (other_own x e) (λ z. omega arith)

  rule4 : HeadersRight dir v arena
  rule4 = record { entries = λ m b n. (C.entries m n).head; old = C.old_head }

  rule5 : NumbersAt (stage_of v.stage) v (words_at arena v.from)
  rule5 =
      numbers_same (stage_of v.stage) v (words (g.kind v.meter)) (words_at arena v.from) (λ l. sym (from_words (early l)))
      (λ l. sym (from_words (late l))) C.count

  -- the rows
  abbrev RowOf : Row → Client → Type 0
  RowOf r q = RowOk X dir v g.kind (header arena v.from) s.control.begun r q

  hold_rule : {h m : ℕ} → HoldOk dir v h m → HoldRight dir v h
  hold_rule (empty e) = hold_empty e
  hold_rule {h} {m} (here b e) = hold_present m (omega (arith, meter_lt C m (λ z. omega arith), C.entries256)) e
  hold_rule (was l e f) = hold_old l e

  place_rule : {h m c : ℕ} → HoldOk dir v h m → h ≢ none → Place dir h m c → (c ≡ h) ⊎ (c ≡ target_of (header arena h))
  place_rule k n (at_hold e) = inl (sym e)
  place_rule {h} {m} {c} k n (at_entry e) = by (cell C k n)
    where
      by : Cell dir v arena h m → (c ≡ h) ⊎ (c ≡ target_of (header arena h))
      by (unflagged t p q _ _) = inr (omega arith)
      by (flagged_cell p q _ _ _) = inl (sym e ∙ q)

  row_rule : (r : Row) (q : Client) → RowOf r q → RowRight dir v arena r
  row_rule r q R =
      record {
        detached = λ e.
            let D = R.detached e in
            record { passed = D.passed; holds = at_all _ none r.holds (λ i _. D.empty i); rests = D.rests };
        holds = at_all (HoldRight dir v) none r.holds (λ i _. hold_rule (R.holds i));
        phase = by_phase R.phase;
        passed = λ l p. at_all _ none r.holds (λ i _. R.passed l p i);
      }
    where
      access : (x : Access) → Asked g.kind (hold r (hold_of x)) q x → AccessRight arena r x
      access x A = record { filled = A.filled; word = rw (held_kind C (R.holds (hold_of x)) A.filled) A.fits }

      by_phase : {p : Phase} → PhaseOk X dir v g.kind (header arena v.from) s.control.begun r q p → PhaseRight arena r p
      by_phase (rests e) = tt
      by_phase (ready {c} {x} W) =
          record { access = access x W.asked; at = place_rule (R.holds (hold_of x)) W.asked.filled W.place }
      by_phase (waits {c} {x} W) = record { access = access x W.asked; on = W.held }

  swaps_rule : (r : Row) (q : Client) → RowOf r q → SwapsAt (flag_up v arena) v.from s.control.begun r
  swaps_rule r q R = owed_le (flag_up v arena) v.from s.control.begun r.swaps r.phase (by_phase R.phase)
    where
      flag : flag_up v arena ≡ true → r.swaps < s.control.begun
      flag e = R.lt ((says_flag v arena).holds e)

      by_phase : {p : Phase} → PhaseOk X dir v g.kind (header arena v.from) s.control.begun r q p
          → Owing (flag_up v arena) v.from s.control.begun r.swaps p
      by_phase (rests _) =
          record { most = R.le; flagged = flag; elsewhere = λ _ w. clash false w refl; waiting = λ _ w. clash false w refl }
      by_phase (ready _) =
          record { most = R.le; flagged = flag; elsewhere = λ _ w. clash false w refl; waiting = λ _ w. clash false w refl }
      by_phase (waits {c} W) =
          record {
            most = R.le;
            flagged = flag;
            elsewhere = λ e w. omega (arith, W.elsewhere ((says_flag v arena).holds e) ((says_not (says_eq c v.from)).holds w));
            waiting = λ _ _. W.owes;
          }

  pub sound_of_inv : Sound s
  sound_of_inv =
      record {
        r1 = rule1;
        r2 = rule2;
        r3 = rule3;
        r4 = rule4;
        r5 = rule5;
        r6 = at_all (RowRight dir v arena) fresh_row s.table (λ i _. row_rule (get_or s.table i fresh_row) (g.clients i) (I.rows i));
        r7 = I.r7;
        r8 = at_all (SwapsAt (flag_up v arena) v.from s.control.begun) fresh_row s.table
            (λ i _. swaps_rule (get_or s.table i fresh_row) (g.clients i) (I.rows i));
      }

  pub sizes_of_inv : Sizes s
  sizes_of_inv =
      record {
        entries = C.entries256;
        map = C.is_map;
        begun = I.small;
        arena = C.words8192;
        rows = I.eight;
        holds = at_all FourHolds fresh_row s.table (λ i _. (I.rows i).four);
      }
