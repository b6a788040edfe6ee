-- GO of a ready client keeps the invariant: the access goes to the meter's own record, or, in the third barrier and of no concern to
-- demand 2, to the old block; a write is then the last one to its word. A read that finishes gives the last value written.
-- Assumes nothing.
use mathlib.Core.Path.{◌≡◌, refl, sym, ap, ◌∙◌}
use mathlib.Core.Logic.{◌≢◌}
use mathlib.Core.Bool.{true, false, not}
use mathlib.Core.List.{List}
use Prim.Native.Nat.{ℕ, pred, ◌+◌, ◌*◌, ◌≤◌, ◌<◌}
use native.Mathlib.Omega.{arith}
use lib.Dec.{eqb}
use lib.ListN.{get_or, set, length-set}
use borrow.Author.Tests.{eqb-true, eqb-false, not-false}
use Rattle.model.specs.declared.Access.{Access}
use Rattle.model.specs.declared.Access.TheVariants.{Read, Write}
use Rattle.model.specs.declared.Phase.{Phase}
use Rattle.model.specs.declared.Phase.TheVariants.{Resting}
use Rattle.model.specs.declared.Move.{Move}
use Rattle.model.specs.declared.Stepped.{Stepped}
use Rattle.model.specs.Arena.{cells, payload, none, place, word, header}
use Rattle.model.specs.Rows.{hold_of, word_of, busy, fresh_row, with_phase}
use Rattle.model.specs.State.{State, entry}
use Rattle.model.specs.ClientSteps.{finish, go}
use Rattle.model.specs.Steps.{Step, GO, own_row, seated}
use Rattle.model.proofs.Choice.{by_test, clash}
use Rattle.model.proofs.ByKind.{by_kind}
use Rattle.model.proofs.Readings.{Flag, FlagUp, Early, Late}
use Rattle.demands.specs.Log.{no_access, Account, update, client_of, with_pending, said_by}
use Rattle.demands.proofs.Stages.{not_both}
use Rattle.demands.proofs.Lists.{set_both}
use Rattle.demands.proofs.Owners.{other, Owns}
use Rattle.demands.proofs.Words.{put_at, put_else}
use Rattle.demands.proofs.Inv.{HoldOk, empty, here, was, Place, at_entry, at_hold, rests, ready, waits, RowOk, EntryOk, early, late}
use Rattle.demands.proofs.Inv.{Core, Inv}
use Rattle.demands.proofs.Blocks.{meter_lt, home_in, home_entry, home_real, side_apart, copied_fit, first_uncopied, held_in}
use Rattle.demands.proofs.Keeping.{Keeps, keeps}
use Rattle.demands.proofs.RowLaws.{old_header, PhaseIn, ReadyIn, RowIn, reflag_row, row_in, with_rows}
use Rattle.demands.proofs.Swaps.{swap_inv}

-- the block that an access to meter m goes to: owner i's, at cell c
pub record Spot (X : Type 0) (dir : List ℕ) (v : Move) (kind own : ℕ → ℕ) (i m c : ℕ) : Type 0 where
  pub kinded : kind m < 4
  pub owns : Owns own i c (cells (kind m))
  pub room : c + cells (kind m) ≤ 1024
  pub entry : (n : ℕ) → entry dir n ≢ none → i ≡ n → c ≡ entry dir n
  pub side : i ≡ other → Late v × (c ≡ v.from)
  pub mine : X → i ≡ m

module _ {X : Type 0} {dir map : List ℕ} {v : Move} {arena : List ℕ} {val : ℕ → ℕ → ℕ} {kind own : ℕ → ℕ}
    (C : Core X dir map v arena val kind own) where
  own_spot : {m c : ℕ} → entry dir m ≡ c → c ≢ none → Spot X dir v kind own m m c
  own_spot {m} {c} e n =
      let E : EntryOk X v arena val kind own m c = rw e at (C.entries m (λ z. n (sym e ∙ z))) in
      let b = meter_lt C m (λ z. n (sym e ∙ z)) in
      record {
        kinded = E.kinded;
        owns = E.owns;
        room = E.range;
        entry = λ n z y. sym e ∙ ap (entry dir) y;
        side = λ y. absurd (omega arith);
        mine = λ _. refl;
      }

  pub spot : {h m c : ℕ} → HoldOk dir v h m → h ≢ none → Place dir h m c → (X → entry dir m ≡ c) → (i : ℕ) × Spot X dir v kind own i m c
  spot {h} {m} k n (at_entry e) f = (m, own_spot e (λ z. held_in C k n (e ∙ z)))
  spot (empty e) n (at_hold y) f = absurd (n e)
  spot {h} {m} (here r e) n (at_hold y) f = (m, own_spot (e ∙ y) (λ z. n (y ∙ z)))
  spot {h} {m} {c} (was l e q) n (at_hold y) f =
      let S = C.sides (late l) in (
        other,
        record {
          kinded = rw q (home_entry C (late l)).kinded;
          owns = rw (q, ← y, e) S.owns;
          room = rw (q, ← y, e) S.range;
          entry = λ n z w. absurd (omega (arith, meter_lt C n z));
          side = λ _. (l, sym y ∙ e);
          mine = λ x. absurd (side_apart C (late l) m (f x ∙ sym y ∙ e));
        },
      )

-- what a finished write does to the words: the heart of demand 2
module _ {X : Type 0} {dir map : List ℕ} {v : Move} {arena : List ℕ} {val : ℕ → ℕ → ℕ} {kind own : ℕ → ℕ}
    (C : Core X dir map v arena val kind own)
    (i m c w u : ℕ) (S : Spot X dir v kind own i m c) (fits : w < payload (kind m)) where
  abbrev arena' : List ℕ
  arena' = set arena (place c (2 + w)) u

  -- the words of other blocks, and the other words of this one
  else : (i' d n j : ℕ) → Owns own i' d n → j < 8 * n → (i ≡ i' → (c ≡ d) × (j ≢ 2 + w)) → word arena' d j ≡ word arena d j
  else i' d n j o b f =
      let z = by_kind (kind m) S.kinded in
      put_else own arena i c (cells (kind m)) (2 + w) u i' d n j S.owns o (omega arith) b f

  pub home_head : Early v → header arena' v.from ≡ header arena v.from
  home_head l =
      let z = home_real C (early l) in
      else v.meter v.from (cells (kind v.meter)) 0 (home_entry C (early l)).owns (omega arith)
      (λ y. (S.entry v.meter (home_in C (early l)) y ∙ (C.sides (early l)).home, λ k. omega arith))

  target_word : Early v → (k : ℕ) → k < 8 * cells (kind v.meter) → word arena' v.target k ≡ word arena v.target k
  target_word l k b = else other v.target (cells (kind v.meter)) k (C.sides (early l)).owns b
      (λ y. absurd (not_both v l (S.side y).0))

  from_word : (l : Late v) (k : ℕ) → k < 2 → word arena' v.from k ≡ word arena v.from k
  from_word l k b =
      let z = home_real C (late l) in
      else other v.from (cells (kind v.meter)) k (C.sides (late l)).owns (omega arith) (λ y. ((S.side y).1, λ e. omega arith))

  written_entry : (n : ℕ) → entry dir n ≢ none → EntryOk X v arena' (update val m (update (val m) w u)) kind own n (entry dir n)
  written_entry n y =
      let E = C.entries n y in
      let z = by_kind (kind n) E.kinded in
      let same : (j : ℕ) → j < 8 * cells (kind n) → (i ≡ n → j ≢ 2 + w) → word arena' (entry dir n) j ≡ word arena (entry dir n) j =
      λ j b f. else n (entry dir n) (cells (kind n)) j E.owns b (λ e. (S.entry n y e, f e)) in
      record {
        kinded = E.kinded;
        range = E.range;
        label = same 1 (omega arith) (λ _ e. omega arith) ∙ E.label;
        owns = E.owns;
        head = rw (same 0 (omega arith) (λ _ e. omega arith)) E.head;
        vals = λ x j b.
            by_test (λ (f : ℕ → ℕ). word arena' (entry dir n) (2 + j) ≡ f j) (eqb n m)
            (λ p. let nm = eqb-true n m p in
            by_test (λ (b : ℕ). word arena' (entry dir n) (2 + j) ≡ b) (eqb j w)
            (λ q. let sz = by_kind (kind m) S.kinded in
            ap (λ (k : ℕ). word arena' (entry dir n) (2 + k)) (eqb-true j w q)
            ∙ ap (λ (k : ℕ). word arena' k (2 + w)) (sym (S.entry n y (S.mine x ∙ sym nm)))
            ∙ put_at arena c (2 + w) u (cells (kind m)) C.words8192 S.room (omega arith))
            (λ q. same (2 + j) (omega arith) (λ _ e. eqb-false j w q (omega arith)) ∙ E.vals x j b ∙ ap (λ (k : ℕ). val k j) nm))
            (λ p. same (2 + j) (omega arith) (λ e. absurd (eqb-false n m p (sym e ∙ S.mine x))) ∙ E.vals x j b);
      }

  pub written_core : (X → FlagUp v arena → 0 < v.copied → c ≢ v.from)
      → Core X dir map v arena' (update val m (update (val m) w u)) kind own
  written_core away = record {
    entries256 = C.entries256;
    words8192 = length-set arena (place c (2 + w)) u ∙ C.words8192;
    is_map = C.is_map;
    entries = written_entry;
    mapped = C.mapped;
    owned = C.owned;
    idle = C.idle;
    sides = C.sides;
    count = C.count;
    old_head = λ l. from_word l 0 (omega arith) ∙ C.old_head l;
    old_label = λ l. from_word l 1 (omega arith) ∙ C.old_label l;
    replica_head = λ l p. let z = home_real C (early l) in target_word l 0 (omega arith) ∙ C.replica_head l p;
    replica_label = λ l p. let z = home_real C (early l) in target_word l 1 (omega arith) ∙ C.replica_label l p;
    replica = λ x f k p q.
        let l = f.0 in
        let f' : FlagUp v arena = (l, sym (home_head l) ∙ f.1) in
        let b : k < 8 * cells (kind v.meter) = omega (arith, copied_fit C l) in
        target_word l k b ∙ C.replica x f' k p q
        ∙ sym (else v.meter v.from (cells (kind v.meter)) k (home_entry C (early l)).owns b
        (λ y. absurd (away x f' (omega arith) (S.entry v.meter (home_in C (early l)) y ∙ (C.sides (early l)).home))));
  }

module _ {X : Type 0} (s : State) (g : Account) (t : Step) (I : Inv X s g) (seat : pred t.who < 8) where
  R : RowIn X s g (own_row s t) (client_of g t)
  R = row_in I t

  abbrev Next : Stepped → Type 0
  Next o = Inv X (seated s t o).next (said_by GO g t o.answer)

  module _ (c : ℕ) (x : Access) (W : ReadyIn X s g t c x) where
    pub spot_of : (i : ℕ) × Spot X s.control.dir s.control.mv g.kind I.own i ((client_of g t).opened (hold_of x)) c
    spot_of = spot I.core (R.holds (hold_of x)) W.asked.filled W.place W.newest

    -- the rows when the access is done, where the old header is h
    rested : (h : ℕ) → (Early s.control.mv → h ≡ old_header s) → (i : ℕ)
        → RowOk X s.control.dir s.control.mv g.kind h s.control.begun
        (get_or (set s.table (pred t.who) (with_phase (own_row s t) Resting)) i fresh_row)
        (update g.clients (pred t.who) (with_pending (client_of g t) no_access) i)
    rested h e i =
        reflag_row (λ f. (f.0, sym (e f.0) ∙ f.1))
        (set_both (RowIn X s g) s.table g.clients (pred t.who) (with_phase (own_row s t) Resting)
        (with_pending (client_of g t) no_access) fresh_row (omega (arith, I.eight))
        (record {
          four = R.four;
          holds = R.holds;
          detached = λ z. let D = R.detached z in record { passed = D.passed; empty = D.empty; rests = refl };
          passed = R.passed;
          le = R.le;
          lt = R.lt;
          phase = rests refl;
        })
        I.rows i)

    away : X → Flag s.control.mv (old_header s) → 0 < s.control.mv.copied → c ≢ s.control.mv.from
    away y f p = W.away y f (λ z. absurd (omega (arith, first_uncopied I.core z)))

  finish_inv : (c : ℕ) (x : Access) → ReadyIn X s g t c x
      → Next (finish s.arena (own_row s t) c x)
  finish_inv c (Read h w) W =
      rw W.asked.pending
      (with_rows I _ _ (length-set s.table (pred t.who) _ ∙ I.eight) (rested c (Read h w) W (old_header s) (λ _. refl)))
  finish_inv c (Write h w u) W = rw W.asked.pending (let S = spot_of c (Write h w u) W in record {
    own = I.own;
    eight = length-set s.table (pred t.who) _ ∙ I.eight;
    r7 = I.r7;
    small = I.small;
    core = written_core I.core S.0 ((client_of g t).opened h) c w u S.1 W.asked.fits (away c (Write h w u) W);
    rows = rested c (Write h w u) W (header (set s.arena (place c (2 + w)) u) s.control.mv.from)
        (home_head I.core S.0 ((client_of g t).opened h) c w u S.1 W.asked.fits);
  })

  by_phase : {p : Phase} → PhaseIn X s g t p
      → not (own_row s t).attached ≡ false → not (busy p) ≡ false → Next (go s.arena (own_row s t) p)
  by_phase (rests e) a b = clash true refl b
  by_phase (ready {c = c} {x = x} W) a b = finish_inv c x W
  by_phase (waits {c = c} {x = x} W) a b = swap_inv s g t I seat (not-false (own_row s t).attached a) c x W

  pub go_inv : Keeps X GO s g t
  go_inv = keeps GO s g t I (λ k. by_phase R.phase k.0 k.1.0)

  -- demand 2, at the step that finishes a read
  pub read_right : {c : ℕ} {x : Access} → X
      → ReadyIn X s g t c x
      → word s.arena c (2 + word_of x) ≡ g.last_written ((client_of g t).opened (hold_of x)) (word_of x)
  read_right {c} {x} y W =
      let e = W.newest y in
      rw (← e) ((I.core.entries ((client_of g t).opened (hold_of x)) (held_in I.core (R.holds (hold_of x)) W.asked.filled)).vals y
      (word_of x) W.asked.fits)
