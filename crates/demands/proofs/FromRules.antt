-- A sound state of the right sizes has the invariant, without what demand 2 adds: the log's part is read off the state itself.
-- Assumes nothing.
use mathlib.Core.Path.{◌≡◌, refl, sym, ap, ◌∙◌}
use mathlib.Core.Logic.{◌≢◌, ◌⊎◌, inl, inr, ⊎_elim}
use mathlib.Core.Bool.{not}
use mathlib.Core.List.{List}
use Prim.Native.Nat.{ℕ, ◌+◌, ◌≤◌, ◌<◌}
use native.Mathlib.Omega.{arith}
use lib.Dec.{T}
use lib.ListN.{get_or}
use Rattle.model.specs.declared.Access.{Access}
use Rattle.model.specs.declared.Phase.{Phase}
use Rattle.model.specs.declared.Phase.TheVariants.{Resting, Ready, Waiting}
use Rattle.model.specs.declared.Row.{Row}
use Rattle.model.specs.declared.Move.{Move}
use Rattle.model.specs.Arena.{cells, words, none, header, target_of, label, label_of, meter_of, kind_of, cells_at, words_at}
use Rattle.model.specs.Rows.{hold_of, hold, fresh_row, FourHolds}
use Rattle.model.specs.declared.Stage.{Stage}
use Rattle.model.specs.declared.Stage.TheVariants.{NoMove, FirstBarrier, Copying, SecondBarrier, ThirdBarrier}
use Rattle.model.specs.State.{stage_of, in_hand, no_move, entry, State, Sizes}
use Rattle.model.specs.Choice.{every}
use Rattle.model.specs.Rules.{is_early, covers, flag_up}
use Rattle.model.proofs.Choice.{same_or_not}
use Rattle.model.proofs.ByKind.{by_kind}
use Rattle.model.proofs.Says.{says_eq, says_holds, says_not, says_when, says_every, all_get, one_yes}
use Rattle.model.proofs.Readings.{present_lt, Sound, NumbersAt, HoldRight, hold_empty, hold_present, hold_old, AccessRight, PhaseRight}
use Rattle.model.proofs.Readings.{RowRight, SwapsAt, Owing, owed_words, waiting_owes, says_flag}
use Rattle.model.proofs.Covers.{covers_in, covers_is, other_over, other_early, other_late, other_by}
use Rattle.model.proofs.Fresh.{fresh_row_lem, fresh_swaps}
use Rattle.demands.specs.Log.{Pending, no_access, access_to, Client, Account}
use Rattle.demands.proofs.Owners.{other, Owns}
use Rattle.demands.proofs.Inv.{HoldOk, empty, here, was, Place, at_entry, at_hold, Asked, PhaseOk, rests, ready, waits, RowOk, Sides}
use Rattle.demands.proofs.Inv.{early, late, SidesOk, Block, in_entry, in_other, Core, Inv}
use Rattle.demands.proofs.Blocks.{Cell, unflagged, flagged_cell, held_kind, cell, numbers_same}
use Rattle.demands.proofs.Cover.{owner, Owner, beyond, nobody, the_other, a_record, owner_is, owner_record, owner_other}
use Rattle.demands.proofs.Cover.{owner_mapped}

-- what a state alone says of kinds, of the meters held and of the accesses begun
abbrev pub kind_in : State → ℕ → ℕ
kind_in s m = kind_of (label s.arena (entry s.control.dir m))

abbrev pub row_in : State → ℕ → Row
row_in s i = get_or s.table i fresh_row

abbrev pub pending_of : (ℕ → ℕ) → Phase → Pending
pending_of opened Resting = no_access
pending_of opened (Ready c x) = access_to (opened (hold_of x)) x
pending_of opened (Waiting c x) = access_to (opened (hold_of x)) x

abbrev pub opened_by : List ℕ → Row → ℕ → ℕ
opened_by arena r i = meter_of (label arena (hold r i))

abbrev pub client_in : List ℕ → Row → Phase → Client
client_in arena r p = record { opened = opened_by arena r; pending = pending_of (opened_by arena r) p }

abbrev pub account_of : State → Account
account_of s =
    record {
      last_written = λ m w. 0;
      kind = kind_in s;
      clients = λ i. client_in s.arena (row_in s i) (row_in s i).phase;
    }

-- a move at stage 0 with no numbers is none
no_move_lem : (v : Move) (n : ℕ) (g : Stage) → T (not (in_hand g)) → NumbersAt g v n → v.stage ≡ 0 → v ≡ no_move
no_move_lem v n NoMove i r e = λ j. record { stage = e j; meter = r.meter j; from = r.from j; target = r.target j; copied = r.copied j }
no_move_lem v n FirstBarrier i r e = absurd i
no_move_lem v n Copying i r e = absurd i
no_move_lem v n SecondBarrier i r e = absurd i
no_move_lem v n ThirdBarrier i r e = absurd i

idle_zero : (n : ℕ) → n < 5 → T (not (in_hand (stage_of n))) → n ≡ 0
unfolding every
idle_zero = (says_every 5 _ _ (λ n. says_when (says_holds (not (in_hand (stage_of n)))) (says_eq n 0))).holds refl

module _ (s : State) (Z : Sizes s) (S : Sound s) where
  abbrev dir : List ℕ
  dir = s.control.dir

  abbrev v : Move
  v = s.control.mv

  abbrev arena : List ℕ
  arena = s.arena

  abbrev own : ℕ → ℕ
  own = owner dir s.control.map v arena S.r3 Z.entries

  meter_lt : (m : ℕ) → entry dir m ≢ none → m < 256
  meter_lt = present_lt dir Z.entries

  kind_lt : (m : ℕ) → kind_in s m < 4
  kind_lt m = omega arith

  label_is : (m : ℕ) → entry dir m ≢ none → label arena (entry dir m) ≡ label_of m (kind_in s m)
  label_is m n = omega (arith, (S.r1 m (meter_lt m n) n).meter)

  entry_lt : (m : ℕ) → entry dir m ≢ none → entry dir m < 1024
  entry_lt m n = omega (arith, (S.r1 m (meter_lt m n) n).within, (by_kind (kind_in s m) (kind_lt m)).some)

  -- the old block's label is the moved record's
  from_label : {c d : ℕ} → Sides v c d → label arena v.from ≡ label arena (entry dir v.meter)
  from_label (early l) = ap (label arena) (sym (S.r2.early l).old)
  from_label (late l) = (S.r2.late l).same_label ∙ ap (label arena) (sym (S.r2.late l).new)

  from_cells : {c d : ℕ} → Sides v c d → cells_at arena v.from ≡ cells (kind_in s v.meter)
  from_cells b = ap (λ (w : ℕ). cells (kind_of w)) (from_label b)

  from_words : {c d : ℕ} → Sides v c d → words_at arena v.from ≡ words (kind_in s v.meter)
  from_words b = ap (λ (w : ℕ). words (kind_of w)) (from_label b)

  -- the owners
  own_entry : (m : ℕ) → entry dir m ≢ none → Owns own m (entry dir m) (cells (kind_in s m))
  own_entry m n x p q =
      let h = meter_lt m n in
      owner_record dir s.control.map v arena S.r3 Z.entries x m (omega (arith, (S.r1 m h n).within)) (omega (arith, Z.entries))
      (record { present = n; low = p; high = q })

  own_other : {d : ℕ} → d + cells (kind_in s v.meter) ≤ 1024 → ((x : ℕ) → other_over v arena x ≡ covers d (cells (kind_in s v.meter)) x)
      → Owns own other d (cells (kind_in s v.meter))
  own_other {d} h e x p q =
      owner_other dir s.control.map v arena S.r3 Z.entries x (omega arith) (e x ∙ covers_in d (cells (kind_in s v.meter)) x p q)

  side_right : {c d : ℕ} → Sides v c d → entry dir v.meter ≢ none → entry dir v.meter ≡ c → d + cells_at arena v.from ≤ 1024
      → ((x : ℕ) → other_over v arena x ≡ covers d (cells_at arena v.from) x) → SidesOk dir v (kind_in s) own c d
  side_right {c} {d} b present home within over =
      let k = from_cells b in
      let h : d + cells (kind_in s v.meter) ≤ 1024 = omega arith in
      record {
        home = home;
        inside = omega (arith, entry_lt v.meter present);
        range = h;
        owns = own_other h (λ x. over x ∙ ap (λ (n : ℕ). covers d n x) k);
      }

  sides_of : {c d : ℕ} → Sides v c d → SidesOk dir v (kind_in s) own c d
  sides_of (early l) = let E = S.r2.early l in side_right (early l) E.present E.old E.within (λ x. other_early v arena x l)
  sides_of (late l) = let L = S.r2.late l in side_right (late l) L.present L.new L.within (λ x. other_late v arena x l)

  block_of : (x : ℕ) {i : ℕ} → Owner dir s.control.map v arena x i → i ≢ none → Block dir v (kind_in s) x i
  block_of x (beyond p) n = absurd (n refl)
  block_of x (nobody h p) n = absurd (n refl)
  block_of x (a_record h p o) n = in_entry o.present o.low o.high
  block_of x (the_other h p) n =
      other_by v arena x (λ (n : ℕ). n ≡ 1 → Block dir v (kind_in s) x other) (λ l. side (early l)) (λ l. side (late l))
      (λ _ _ e. absurd (omega arith)) p
    where
      side : {c d : ℕ} → Sides v c d → covers d (cells_at arena v.from) x ≡ 1 → Block dir v (kind_in s) x other
      side {c} {d} b e = let o = covers_is d (cells_at arena v.from) x e in in_other b refl o.0 (omega (arith, o.1, from_cells b))

  core_of : Core ⊥ dir s.control.map v arena (λ m w. 0) (kind_in s) own
  core_of =
      record {
        entries256 = Z.entries;
        words8192 = Z.arena;
        is_map = Z.map;
        entries = λ m n.
            record {
              kinded = kind_lt m;
              range = (S.r1 m (meter_lt m n) n).within;
              label = label_is m n;
              owns = own_entry m n;
              head = S.r4.entries m (meter_lt m n) n;
              vals = λ x. absurd x;
            };
        mapped = owner_mapped dir s.control.map v arena S.r3 Z.entries;
        owned = λ x. block_of x (owner_is dir s.control.map v arena S.r3 Z.entries x);
        idle = λ i. no_move_lem v (words_at arena v.from) (stage_of v.stage) i S.r5 (idle_zero v.stage S.r2.stage i);
        sides = sides_of;
        count =
            numbers_same (stage_of v.stage) v (words_at arena v.from) (words (kind_in s v.meter)) (λ l. from_words (early l))
            (λ l. from_words (late l)) S.r5;
        old_head = S.r4.old;
        old_label = λ l. from_label (late l) ∙ label_is v.meter (S.r2.late l).present;
        replica_head = λ l. (S.r2.early l).replica_header;
        replica_label = λ l p. (S.r2.early l).replica_label p ∙ from_label (early l) ∙ label_is v.meter (S.r2.early l).present;
        replica = λ x. absurd x;
      }

  -- the rows
  hold_of_lem : (h : ℕ) → HoldRight dir v h → HoldOk dir v h (meter_of (label arena h))
  hold_of_lem h (hold_empty e) = empty e
  hold_of_lem h (hold_present m b e) = ⊎_elim empty (λ (n : h ≢ none). there (λ z. n (sym e ∙ z))) (same_or_not h none)
    where
      there : entry dir m ≢ none → HoldOk dir v h (meter_of (label arena h))
      there n =
          let k : meter_of (label arena h) ≡ m = ap (λ (c : ℕ). meter_of (label arena c)) (sym e) ∙ (S.r1 m (meter_lt m n) n).meter in
          here (omega (arith, entry_lt m n)) (ap (entry dir) k ∙ e)
  hold_of_lem h (hold_old l e) =
      let n = (S.r2.late l).present in
      let k = (S.r1 v.meter (meter_lt v.meter n) n).meter in
      was l e (ap (λ (c : ℕ). meter_of (label arena c)) e ∙ ap meter_of (from_label (late l)) ∙ k)

  place_of : {h m c : ℕ} → HoldOk dir v h m → h ≢ none → (c ≡ h) ⊎ (c ≡ target_of (header arena h)) → Place dir h m c
  place_of k n (inl e) = at_hold (sym e)
  place_of {h} {m} {c} k n (inr e) = by (cell core_of k n)
    where
      by : Cell dir v arena h m → Place dir h m c
      by (unflagged t p q _ _) = at_entry (q ∙ sym (e ∙ omega arith))
      by (flagged_cell p _ _ _ _) = at_hold (sym (e ∙ omega arith))

  row_of : (r : Row) → FourHolds r → RowRight dir v arena r → SwapsAt (flag_up v arena) v.from s.control.begun r
      → RowOk ⊥ dir v (kind_in s) (header arena v.from) s.control.begun r (client_in arena r r.phase)
  row_of r f R W =
      let o = owed_words (flag_up v arena) v.from s.control.begun r.swaps r.phase W in
      record {
        four = f;
        holds = held;
        detached = λ e.
            let D = R.detached e in
            record { passed = D.passed; empty = λ i. all_get _ r.holds i D.holds refl; rests = D.rests };
        passed = λ l p i. all_get _ r.holds i (R.passed l p) (λ z. omega (arith, (S.r2.late l).within));
        le = o.most;
        lt = λ f. o.flagged ((says_flag v arena).test f);
        phase = by_phase r.phase R.phase o;
      }
    where
      held : (i : ℕ) → HoldOk dir v (hold r i) (opened_by arena r i)
      held i = hold_of_lem (hold r i) (all_get (HoldRight dir v) r.holds i R.holds (hold_empty refl))

      asked : (c : ℕ) (x : Access) → AccessRight arena r x → Asked (kind_in s) (hold r (hold_of x)) (client_in arena r (Ready c x)) x
      asked c x A = record { pending = refl; fits = rw (held_kind core_of (held (hold_of x)) A.filled) at A.word; filled = A.filled }

      by_phase : (p : Phase) → PhaseRight arena r p → Owing (flag_up v arena) v.from s.control.begun r.swaps p
          → PhaseOk ⊥ dir v (kind_in s) (header arena v.from) s.control.begun r (client_in arena r p) p
      by_phase Resting P o = rests refl
      by_phase (Ready c x) P o =
          ready
          (record {
            asked = asked c x P.access;
            place = place_of (held (hold_of x)) P.access.filled P.at;
            newest = λ y. absurd y;
            away = λ y. absurd y;
          })
      by_phase (Waiting c x) P o =
          waits
          (record {
            asked = asked c x P.access;
            held = P.on;
            owes = waiting_owes (flag_up v arena) o refl;
            elsewhere = λ f n. omega (arith, o.elsewhere ((says_flag v arena).test f) ((says_not (says_eq c v.from)).test n));
          })

  -- a row past the table's end is a fresh one, and breaks no rule either
  row_right_lem : (i : ℕ) → RowRight dir v arena (row_in s i)
  row_right_lem i =
      all_get (RowRight dir v arena) s.table i S.r6 (fresh_row_lem dir v arena (λ l z. omega (arith, (S.r2.late l).within)))

  swaps_right_lem : (i : ℕ) → SwapsAt (flag_up v arena) v.from s.control.begun (row_in s i)
  swaps_right_lem i =
      all_get (SwapsAt (flag_up v arena) v.from s.control.begun) s.table i S.r8
      (fresh_swaps (flag_up v arena) v.from s.control.begun (λ e. begun_some ((says_flag v arena).holds e).0))
    where
      begun_some : T (is_early v) → 0 < s.control.begun
      begun_some l = omega (arith, S.r7, one_yes (says_holds (is_early v)) l)

  pub inv_of : Inv ⊥ s (account_of s)
  inv_of =
      record {
        own = own;
        core = core_of;
        eight = Z.rows;
        rows = λ i. row_of (row_in s i) (all_get FourHolds s.table i Z.holds refl) (row_right_lem i) (swaps_right_lem i);
        r7 = S.r7;
        small = Z.begun;
      }
