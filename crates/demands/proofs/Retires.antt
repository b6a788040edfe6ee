-- RETIRE keeps the invariant: with no move in hand, the cells of a record that no row holds go back. Assumes nothing.
use mathlib.Core.Path.{◌≡◌, refl, sym, ap, ◌∙◌}
use mathlib.Core.Logic.{◌≢◌, ⊎_elim}
use mathlib.Core.Bool.{false}
use mathlib.Core.List.{List}
use Prim.Native.Nat.{ℕ, ◌+◌, ◌≤◌, ◌<◌}
use native.Mathlib.Omega.{arith}
use lib.Dec.{eqb}
use lib.ListN.{get_or, set, length-set}
use lib.Seq.{get_or-set_other}
use borrow.Author.Tests.{eqb-false, ne_eqb}
use Rattle.model.specs.declared.Move.{Move}
use Rattle.model.specs.Arena.{cells, none, put_run}
use Rattle.model.specs.Rows.{hold, fresh_row}
use Rattle.model.specs.State.{entry, State, no_move}
use Rattle.model.specs.Refusals.{holds_cell}
use Rattle.model.specs.Steps.{Step, RETIRE}
use Rattle.model.proofs.Choice.{same_or_not}
use Rattle.model.proofs.CellMap.{run_map}
use Rattle.model.proofs.Says.{any_test}
use Rattle.demands.specs.Log.{Account}
use Rattle.demands.proofs.Stages.{Idle, idle_of, idle_late}
use Rattle.demands.proofs.Lists.{set_cases}
use Rattle.demands.proofs.Owners.{repaint, repaint_cases, owns_keep, mapped_run}
use Rattle.demands.proofs.Inv.{HoldOk, empty, here, was, EntryOk, early, late, Block, in_entry, in_other, Core, Inv}
use Rattle.demands.proofs.Blocks.{meter_lt, entry_range, held_kind, still}
use Rattle.demands.proofs.Entries.{carry_entry}
use Rattle.demands.proofs.Keeping.{Keeps, keeps}
use Rattle.demands.proofs.RowLaws.{redirected_row}

-- RETIRE of meter a, with no move in hand
module _ {X : Type 0} {dir map arena : List ℕ} {val : ℕ → ℕ → ℕ} {kind own : ℕ → ℕ}
    (C : Core X dir map no_move arena val kind own) (a : ℕ) (present : entry dir a ≢ none) where
  abbrev n : ℕ
  n = cells (kind a)

  keep_block : {x i : ℕ} → (entry dir a ≤ x → x < entry dir a + n → ⊥) → Block dir no_move kind x i → Block (set dir a none) no_move kind x i
  keep_block {x} {i} o (in_entry p q r) =
      ⊎_elim (λ (e : i ≡ a). absurd (o (rw e at q) (rw e at r)))
      (λ (ne : i ≢ a). let u = get_or-set_other dir a i none none ne in in_entry (λ y. p (sym u ∙ y)) (omega arith) (omega arith))
      (same_or_not i a)
  keep_block o (in_other (early l) _ _ _) = absurd l
  keep_block o (in_other (late l) _ _ _) = absurd l

  retired_core : Core X (set dir a none) (put_run map (entry dir a) n 0) no_move arena val kind (repaint own (entry dir a) n none)
  retired_core =
      let Y = C.entries a present in
      still (length-set dir a none ∙ C.entries256) C.words8192 (run_map map (entry dir a) n 0 C.is_map (omega arith))
      (set_cases (λ m c. c ≢ none → EntryOk X no_move arena val kind (repaint own (entry dir a) n none) m c) dir a none none
      (omega (arith, meter_lt C a present, C.entries256)) (λ z. absurd (z refl))
      (λ m ne y. let E = C.entries m y in
      carry_entry E (owns_keep own (entry dir a) n none m (entry dir m) (cells (kind m)) (λ x p q e. ne (sym e ∙ Y.owns x p q))
      E.owns) E.head (λ j _ _. refl)))
      (mapped_run own map (entry dir a) n none 0 C.is_map (omega arith) refl C.mapped)
      (λ x. repaint_cases (λ (i : ℕ). i ≢ none → Block (set dir a none) no_move kind x i) own (entry dir a) n none x
      (λ _ _ e. absurd (e refl)) (λ o i. keep_block o (C.owned x i)))

retired : {X : Type 0} {dir map : List ℕ} {v : Move} {arena : List ℕ} {val : ℕ → ℕ → ℕ} {kind own : ℕ → ℕ} → v ≡ no_move
    → Core X dir map v arena val kind own → (a : ℕ) → entry dir a ≢ none
    → Core X (set dir a none) (put_run map (entry dir a) (cells (kind a)) 0) v arena val kind
    (repaint own (entry dir a) (cells (kind a)) none)
retired e C a present = rw e (retired_core (rw e at C) a present)

-- a hold of another cell was opened on another meter
held_other : {dir : List ℕ} {v : Move} {h m a : ℕ} → Idle v → HoldOk dir v h m → h ≢ none → h ≢ entry dir a → m ≢ a
held_other q (empty e) z w = absurd (z e)
held_other {dir = dir} q (here u e) z w = λ i. w (sym e ∙ ap (entry dir) i)
held_other {v = v} q (was l _ _) z w = absurd (idle_late v q l)

pub retire_inv : {X : Type 0} (s : State) (g : Account) (t : Step) → Inv X s g → Keeps X RETIRE s g t
retire_inv {X} s g t I =
    keeps RETIRE s g t I (λ k.
    let c : ℕ = entry s.control.dir t.a in
    let quiet = idle_of s.control.mv k.1.0 in
    let present : c ≢ none = eqb-false c none k.1.1.0 in
    let free : (i j : ℕ) → hold (get_or s.table i fresh_row) j ≢ c =
    λ i j e. eqb-false c (hold (get_or s.table i fresh_row) j)
    (any_test (eqb c) (get_or s.table i fresh_row).holds j
    (any_test (holds_cell c) s.table i k.1.1.1.0 (none_fresh c present)) (ne_eqb c none present)) (sym e) in
    rw (held_kind I.core {h = c} {m = t.a} (here (entry_range I.core t.a present) refl) present)
    (record {
      own = repaint I.own c (cells (g.kind t.a)) none;
      core = retired (I.core.idle quiet) I.core t.a present;
      eight = I.eight;
      r7 = I.r7;
      small = I.small;
      rows = λ i. redirected_row t.a none (λ j z. held_other quiet ((I.rows i).holds j) z (free i j))
          (λ m _. refl) (I.rows i);
    }))
  where
    none_fresh : (c : ℕ) → c ≢ none → holds_cell c fresh_row ≡ false
    none_fresh c n = rw (ne_eqb c none n) refl
