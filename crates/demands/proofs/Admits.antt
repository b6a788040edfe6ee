-- ADMIT keeps the invariant, during a move too: its cells were free, and no row speaks of its meter. Assumes nothing.
use mathlib.Core.Path.{◌≡◌, refl, sym, ap, ◌∙◌}
use mathlib.Core.Logic.{◌≢◌}
use mathlib.Core.List.{List}
use Prim.Native.Nat.{ℕ, ◌+◌, ◌*◌, ◌≤◌, ◌<◌}
use native.Mathlib.Omega.{arith}
use lib.Dec.{eqb}
use lib.ListN.{length, get_or, set, length-set}
use lib.Seq.{get_or-set_same, get_or-set_other}
use borrow.Author.Tests.{eqb-true, eqb-false, eq-eqb, ne_eqb, ltb-false, not-false}
use Rattle.model.specs.declared.Row.{Row}
use Rattle.model.specs.declared.Move.{Move}
use Rattle.model.specs.Arena.{cells, words, none, start, word, header, new_record, laid, lowest_run, put_run}
use Rattle.model.specs.State.{stage_of, entry, State}
use Rattle.model.specs.Steps.{Step, ADMIT, refusals}
use Rattle.model.proofs.ByKind.{by_kind}
use Rattle.model.proofs.CellMap.{FreeRun, run_map, lowest_free}
use Rattle.model.proofs.Records.{length_laid, laid_in, new_length, new_zero}
use Rattle.model.proofs.Readings.{own_header}
use Rattle.model.proofs.Refusals.{Passed}
use Rattle.demands.specs.Log.{Client, Account, update}
use Rattle.demands.proofs.Lists.{set_cases}
use Rattle.demands.proofs.Owners.{other, Owns, repaint, repaint_cases, repaint_in, owns_keep, mapped_run, run_unowned}
use Rattle.demands.proofs.Words.{laid_else}
use Rattle.demands.proofs.Inv.{RowOk, EntryOk, Sides, early, late, SidesOk, Block, in_entry, in_other, Core, Inv}
use Rattle.demands.proofs.Blocks.{meter_lt, home_in, home_lt, home_entry, home_real, copied_fit, held_in, numbers_same}
use Rattle.demands.proofs.Entries.{carry_entry, same_account}
use Rattle.demands.proofs.RowLaws.{reflag_row, redirected_row}
use Rattle.demands.proofs.Keeping.{Keeps, keeps}

-- ADMIT of meter a, of kind k, at the free cells from c on
module _ {X : Type 0} {dir map : List ℕ} {v : Move} {arena : List ℕ} {val : ℕ → ℕ → ℕ} {kind own : ℕ → ℕ}
    (C : Core X dir map v arena val kind own)
    (a k c : ℕ) (ha : a ≤ 255) (hk : k < 4) (absent : entry dir a ≡ none) (run : FreeRun map (cells k) c) where
  abbrev kind' : ℕ → ℕ
  kind' = update kind a k

  abbrev val' : ℕ → ℕ → ℕ
  val' = update val a (λ w. 0)

  abbrev own' : ℕ → ℕ
  own' = repaint own c (cells k) a

  abbrev arena' : List ℕ
  arena' = laid arena (start c) (new_record c a k)

  present_other : (m : ℕ) → entry dir m ≢ none → m ≢ a
  present_other m n e = n (ap (entry dir) e ∙ absent)

  pub same_kind : (m : ℕ) → m ≢ a → kind' m ≡ kind m
  same_kind m n = rw (ne_eqb m a n)

  in_dir : a < length dir
  in_dir = omega (arith, C.entries256)

  new_entry : entry (set dir a c) a ≡ c
  new_entry = get_or-set_same dir a c none in_dir

  old_entry : (m : ℕ) → m ≢ a → entry (set dir a c) m ≡ entry dir m
  old_entry m n = get_or-set_other dir a m c none n

  -- the blocks that stood keep their words and owners
  pub old_word : (i d z j : ℕ) → i ≢ none → Owns own i d z → j < 8 * z → word arena' d j ≡ word arena d j
  old_word i d z j n o b = laid_else own arena none c (cells k) (new_record c a k) i d z j
      (run_unowned own map (cells k) c C.mapped run) o (new_length c a k hk) b (λ e. n (sym e))

  old_owns : (i d z : ℕ) → i ≢ none → Owns own i d z → Owns own' i d z
  old_owns i d z n o = owns_keep own c (cells k) a i d z (λ x p q e. n (sym e ∙ run_unowned own map (cells k) c C.mapped run x p q)) o

  new_word : (j : ℕ) → j < 8 * cells k → word arena' c j ≡ get_or (new_record c a k) j 0
  new_word j b = laid_in arena (start c) (new_record c a k) (start c + j) j refl (omega (arith, new_length c a k hk))
      (omega (arith, C.words8192, run.within))

  admitted : EntryOk X v arena' val' kind' own' a c
  admitted =
      let z = by_kind k hk in
      same_account {val = λ _ _. 0} {kind = λ _. k} (rw (eq-eqb a a refl)) (rw (eq-eqb a a refl)) (record {
        kinded = hk;
        range = run.within;
        label = new_word 1 (omega arith);
        owns = repaint_in own c (cells k) a;
        head = own_header (new_word 0 (omega arith));
        vals = λ _ w b. new_word (2 + w) (omega arith) ∙ new_zero c a k w;
      })

  stood : (m : ℕ) → m ≢ a → entry dir m ≢ none → EntryOk X v arena' val' kind' own' m (entry dir m)
  stood m ne y =
      let E = C.entries m y in
      let z = by_kind (kind m) E.kinded in
      let i : m ≢ none = λ e. omega (arith, meter_lt C m y) in
      let same : (j : ℕ) → j < 8 * cells (kind m) → word arena' (entry dir m) j ≡ word arena (entry dir m) j =
      λ j b. old_word m (entry dir m) (cells (kind m)) j i E.owns b in
      same_account (same_kind m ne) (rw (ne_eqb m a ne))
      (carry_entry E (old_owns m (entry dir m) (cells (kind m)) i E.owns) (rw (same 0 (omega arith)) E.head) (λ j _ b. same j b))

  keep_block : {x i : ℕ} → Block dir v kind x i → Block (set dir a c) v kind' x i
  keep_block {x} {i} (in_entry p q r) =
      let ne = present_other i p in
      let u = old_entry i ne in
      in_entry (λ y. p (sym u ∙ y)) (omega arith) (rw (u, ne_eqb i a ne) r)
  keep_block (in_other b e q r) = in_other b e q (rw (ne_eqb v.meter a (present_other v.meter (home_in C b))) r)

  moved_kind : {d e : ℕ} → Sides v d e → kind' v.meter ≡ kind v.meter
  moved_kind b = same_kind v.meter (present_other v.meter (home_in C b))

  keep_sides : {d e : ℕ} → Sides v d e → SidesOk (set dir a c) v kind' own' d e
  keep_sides {d} {e} b =
      let S = C.sides b in
      let ne = present_other v.meter (home_in C b) in
      record {
        home = old_entry v.meter ne ∙ S.home;
        inside = S.inside;
        range = rw (moved_kind b) S.range;
        owns = rw (moved_kind b) (old_owns other e (cells (kind v.meter)) (λ z. omega arith) S.owns);
      }

  -- the words of the move's two blocks
  pub side_word : {d e : ℕ} → Sides v d e → (j : ℕ) → j < 8 * cells (kind v.meter) → (word arena' d j ≡ word arena d j)
      × (word arena' e j ≡ word arena e j)
  side_word {d} {e} b j h = (
    old_word v.meter d (cells (kind v.meter)) j (λ z. omega (arith, home_lt C b)) (home_entry C b).owns h,
    old_word other e (cells (kind v.meter)) j (λ z. omega arith) (C.sides b).owns h,
  )

  pub admitted_core : Core X (set dir a c) (put_run map c (cells k) 1) v arena' val' kind' own'
  admitted_core = record {
    entries256 = length-set dir a c ∙ C.entries256;
    words8192 = length_laid arena (start c) (new_record c a k) ∙ C.words8192;
    is_map = run_map map c (cells k) 1 C.is_map (omega arith);
    entries = set_cases (λ m d. d ≢ none → EntryOk X v arena' val' kind' own' m d) dir a c none in_dir (λ _. admitted) stood;
    mapped = mapped_run own map c (cells k) a 1 C.is_map (omega arith) (rw (ne_eqb a none (λ e. omega arith)) refl)
        C.mapped;
    owned = λ x. repaint_cases (λ (i : ℕ). i ≢ none → Block (set dir a c) v kind' x i) own c (cells k) a x (λ p q _. new_block p q)
        (λ _ i. keep_block (C.owned x i));
    idle = C.idle;
    sides = λ b. keep_sides b;
    count = numbers_same (stage_of v.stage) v (words (kind v.meter)) (words (kind' v.meter))
        (λ l. ap words (sym (moved_kind (early l)))) (λ l. ap words (sym (moved_kind (late l)))) C.count;
    old_head = λ l. let z = home_real C (late l) in (side_word (late l) 0 (omega arith)).1 ∙ C.old_head l;
    old_label = λ l. let z = home_real C (late l) in rw (moved_kind (late l)) ((side_word (late l) 1 (omega arith)).1 ∙ C.old_label l);
    replica_head = λ l p. let z = home_real C (early l) in (side_word (early l) 0 (omega arith)).1 ∙ C.replica_head l p;
    replica_label = λ l p. let z = home_real C (early l) in
        rw (moved_kind (early l)) ((side_word (early l) 1 (omega arith)).1 ∙ C.replica_label l p);
    replica = λ x f j p q.
        let b = early f.0 in
        let z = home_real C b in
        let h : j < 8 * cells (kind v.meter) = omega (arith, copied_fit C f.0) in
        (side_word b j h).1 ∙ C.replica x (f.0, sym (side_word b 0 (omega arith)).0 ∙ f.1) j p q ∙ sym (side_word b j h).0;
  }
    where
      new_block : {x : ℕ} → c ≤ x → x < c + cells k → Block (set dir a c) v kind' x a
      new_block {x} p q = in_entry (λ z. omega (arith, new_entry, run.within)) (rw new_entry p) (rw (new_entry, eq-eqb a a refl) q)

  pub admitted_row : {b : ℕ} {r : Row} {q : Client} → RowOk X dir v kind (header arena v.from) b r q
      → RowOk X (set dir a c) v kind' (header arena' v.from) b r q
  admitted_row R =
      redirected_row a c (λ i n. present_other _ (held_in C (R.holds i) n)) same_kind
      (reflag_row (λ f. let z = home_real C (early f.0) in (f.0, sym (side_word (early f.0) 0 (omega arith)).0 ∙ f.1)) R)

-- what an ADMIT that is not refused asked for
pub record Admission (s : State) (t : Step) : Type 0 where
  pub meter : t.a ≤ 255
  pub kind : t.b < 4
  pub absent : entry s.control.dir t.a ≡ none
  pub run : FreeRun s.control.map (cells t.b) (lowest_run s.control.map (cells t.b))

pub admission : (s : State) (t : Step) → Passed (refusals ADMIT s t) → Admission s t
admission s t k =
    let small = ltb-false 3 t.b k.1.0 in
    let hk : t.b < 4 = omega arith in
    record {
      meter = ltb-false 255 t.a k.0;
      kind = hk;
      absent = eqb-true (entry s.control.dir t.a) none (not-false (eqb (entry s.control.dir t.a) none) k.1.1.0);
      run = lowest_free s.control.map (cells t.b) (by_kind t.b hk).some
          (eqb-false (lowest_run s.control.map (cells t.b)) none k.1.1.1.0);
    }

pub admit_inv : {X : Type 0} (s : State) (g : Account) (t : Step) → Inv X s g → Keeps X ADMIT s g t
admit_inv {X} s g t I =
    keeps ADMIT s g t I (λ k.
    let c : ℕ = lowest_run s.control.map (cells t.b) in
    let A = admission s t k in
    record {
      own = repaint I.own c (cells t.b) t.a;
      core = admitted_core I.core t.a t.b c A.meter A.kind A.absent A.run;
      eight = I.eight;
      r7 = I.r7;
      small = I.small;
      rows = λ i. admitted_row I.core t.a t.b c A.meter A.kind A.absent A.run (I.rows i);
    })
