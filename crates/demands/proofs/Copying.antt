-- ADVANCE at the first barrier and while copying keeps the invariant: the move goes on among its first three stages, and only words of
-- the replica change. Assumes nothing.
use mathlib.Core.Path.{◌≡◌, refl, sym, ap, ◌∙◌, subst}
use mathlib.Core.Logic.{◌≢◌, ⊎_elim}
use mathlib.Core.Bool.{Bool, true, false, not}
use mathlib.Core.List.{List}
use Prim.Native.Nat.{ℕ, suc, ◌+◌, ◌*◌, ◌≤◌, ◌<◌}
use native.Mathlib.Omega.{arith}
use lib.Dec.{T, eqb}
use lib.ListN.{length, get_or, set, length-set, length-map}
use borrow.Author.Tests.{eqb-true, eqb-false, eq-eqb}
use Rattle.model.specs.declared.Row.{Row}
use Rattle.model.specs.declared.Move.{Move}
use Rattle.model.specs.Choice.{one}
use Rattle.model.specs.Arena.{cells, words, place, word, header, plain, label, label_of, words_at}
use Rattle.model.specs.Rows.{fresh_row, with_passed, cleared, all_passed}
use Rattle.model.specs.declared.Stage.{Stage}
use Rattle.model.specs.declared.Stage.TheVariants.{FirstBarrier, Copying}
use Rattle.model.specs.State.{stage_of, in_hand, rise, entry, State}
use Rattle.model.specs.KeeperSteps.{start_copying, replica_word, copy_word}
use Rattle.model.specs.Steps.{Step, ADVANCE}
use Rattle.model.specs.Rules as rules
use Rattle.model.proofs.Choice.{by_test, same_or_not}
use Rattle.model.proofs.Records.{replica_copies}
use Rattle.model.proofs.ByKind.{by_kind}
use Rattle.model.proofs.Counts.{rise_is}
use Rattle.model.proofs.Readings.{Flag, FlagUp, HeaderRight, own_header, flag_header, Early, Late, NumbersAt}
use Rattle.model.proofs.Says.{says_holds, one_yes}
use Rattle.demands.specs.Log.{Client, Account}
use Rattle.demands.proofs.Stages.{never, First, at_stage, not_both}
use Rattle.demands.proofs.Owners.{other, Owns}
use Rattle.demands.proofs.Words.{put_at, put_else}
use Rattle.demands.proofs.Inv.{HoldOk, empty, here, was, RowOk, Sides, early, late, SidesOk, Block, in_entry, in_other, Core, Inv}
use Rattle.demands.proofs.Blocks.{meter_lt, home_lt, home_entry, home_real, copied_le, from_kind}
use Rattle.demands.proofs.Entries.{carry_entry}
use Rattle.demands.proofs.RowLaws.{carry_phase, marked, cleared_passed, cleared_get, passed_get}
use Rattle.demands.proofs.Keeping.{Good}

-- the move at the stage of number k, with n words copied
abbrev pub restaged : Move → ℕ → ℕ → Move
restaged v k n = record { stage = k; meter = v.meter; from = v.from; target = v.target; copied = n }

module _ {X : Type 0} {dir map : List ℕ} {v : Move} {arena : List ℕ} {val : ℕ → ℕ → ℕ} {kind own : ℕ → ℕ}
    (C : Core X dir map v arena val kind own)
    (l : Early v) (k n : ℕ) (on : T (rules.early (stage_of k))) where
  keep_head : {m c h : ℕ} → HeaderRight v m c h → HeaderRight (restaged v k n) m c h
  keep_head (own_header p) = own_header p
  keep_head (flag_header _ p q) = flag_header on p q

  keep_block : {x i : ℕ} → Block dir v kind x i → Block dir (restaged v k n) kind x i
  keep_block (in_entry p q r) = in_entry p q r
  keep_block (in_other (early _) p q r) = in_other (early on) p q r
  keep_block (in_other (late y) _ _ _) = absurd (not_both v l y)

  not_late : Late (restaged v k n) → ⊥
  not_late = not_both (restaged v k n) on

  keep_sides : {c d : ℕ} → Sides (restaged v k n) c d → SidesOk dir (restaged v k n) kind own c d
  keep_sides (early _) = let S = C.sides (early l) in record { home = S.home; inside = S.inside; range = S.range; owns = S.owns }
  keep_sides (late y) = absurd (not_late y)

  -- the arena may change in words that no meter owns
  goes_on : (arena' : List ℕ) → length arena' ≡ 8192
      → ((i d z j : ℕ) → i < 256 → Owns own i d z → j < 8 * z → word arena' d j ≡ word arena d j)
      → NumbersAt (stage_of k) (restaged v k n) (words (kind v.meter)) → (0 < n → header arena' v.target ≡ plain v.target)
      → (1 < n → label arena' v.target ≡ label_of v.meter (kind v.meter))
      → (X → FlagUp v arena → (j : ℕ) → 0 < j → j < n → word arena' v.target j ≡ word arena v.from j)
      → Core X dir map (restaged v k n) arena' val kind own
  goes_on arena' len same count head lab replica = record {
    entries256 = C.entries256;
    words8192 = len;
    is_map = C.is_map;
    entries = λ m y.
        let E = C.entries m y in
        let z = by_kind (kind m) E.kinded in
        let o = meter_lt C m y in
        carry_entry E E.owns (rw (same m (entry dir m) (cells (kind m)) 0 o E.owns (omega arith)) (keep_head E.head))
        (λ j _ q. same m (entry dir m) (cells (kind m)) j o E.owns q);
    mapped = C.mapped;
    owned = λ x i. keep_block (C.owned x i);
    idle = λ y. absurd (at_stage (λ g. not (in_hand g)) rules.early never tt k y on);
    sides = λ b. keep_sides b;
    count = count;
    old_head = λ y. absurd (not_late y);
    old_label = λ y. absurd (not_late y);
    replica_head = λ _. head;
    replica_label = λ _. lab;
    replica = λ x f j p q.
        let E = home_entry C (early l) in
        let z = home_real C (early l) in
        let from : (j : ℕ) → j < 8 * cells (kind v.meter) → word arena' v.from j ≡ word arena v.from j =
        λ j b. same v.meter v.from (cells (kind v.meter)) j (home_lt C (early l)) E.owns b in
        replica x (l, sym (from 0 (omega arith)) ∙ f.1) j p q
        ∙ sym (from j (omega (arith, copied_le (stage_of k) (restaged v k n) (words (kind v.meter)) on count)));
  }

-- a row at another of the first three stages, with another mark, which it passed the first barrier to get
pub goes_on_row : {X : Type 0} {dir : List ℕ} {v : Move} {kind : ℕ → ℕ} {h h' b : ℕ} {r : Row} {q : Client} (k n : ℕ) (p : Bool)
    → Early v → T (rules.early (stage_of k)) → h ≡ h'
    → (r.attached ≡ false → p ≡ true) → (First v → r.passed ≡ true) → RowOk X dir v kind h b r q
    → RowOk X dir (restaged v k n) kind h' b (with_passed r p) q
goes_on_row {dir = dir} {v = v} {h = h} {h' = h'} {r = r} k n p l on e gone pass R = record {
  four = R.four;
  holds = λ i. keep_hold (R.holds i);
  detached = marked r p gone R.detached;
  passed = λ y. absurd (not_both (restaged v k n) on y);
  le = R.le;
  lt = λ f. R.lt (back f);
  phase = carry_phase (λ e. e)
      (λ c x _ W. record { asked = W.asked; place = W.place; newest = W.newest; away = λ y f _. W.away y (back f) pass })
      (λ c x W. record { asked = W.asked; held = W.held; owes = W.owes; elsewhere = λ f. W.elsewhere (back f) })
      R.phase;
}
  where
    back : Flag (restaged v k n) h' → Flag v h
    back f = (l, e ∙ f.1)

    keep_hold : {c m : ℕ} → HoldOk dir v c m → HoldOk dir (restaged v k n) c m
    keep_hold (empty e) = empty e
    keep_hold (here u e) = here u e
    keep_hold (was y _ _) = absurd (not_both v l y)

-- the word that is written, where it is the first
first_word : (arena : List ℕ) (v : Move) → v.copied ≡ 0 → replica_word arena v ≡ plain v.target
unfolding replica_word
first_word arena v e = rw (eq-eqb v.copied 0 e)

-- one word more
module _ {X : Type 0} {dir map : List ℕ} {v : Move} {arena : List ℕ} {val : ℕ → ℕ → ℕ} {kind own : ℕ → ℕ}
    (C : Core X dir map v arena val kind own)
    (l : Early v) (more : v.copied < 8 * cells (kind v.meter)) where
  abbrev arena' : List ℕ
  arena' = set arena (place v.target v.copied) (replica_word arena v)

  meter_word : (i d z j : ℕ) → i < 256 → Owns own i d z → j < 8 * z → word arena' d j ≡ word arena d j
  meter_word i d z j b o h =
      put_else own arena other v.target (cells (kind v.meter)) v.copied (replica_word arena v) i d z j
      (C.sides (early l)).owns o more h (λ y. absurd (omega arith))

  pub from_word : (j : ℕ) → j < 8 * cells (kind v.meter) → word arena' v.from j ≡ word arena v.from j
  from_word j b = meter_word v.meter v.from (cells (kind v.meter)) j (home_lt C (early l)) (home_entry C (early l)).owns b

  target_word : (j : ℕ) → j < 8 * cells (kind v.meter) → j ≢ v.copied → word arena' v.target j ≡ word arena v.target j
  target_word j b n =
      let S = C.sides (early l) in
      put_else own arena other v.target (cells (kind v.meter)) v.copied (replica_word arena v) other v.target
      (cells (kind v.meter)) j S.owns S.owns more b (λ _. (refl, n))

  new_word : word arena' v.target v.copied ≡ replica_word arena v
  new_word =
      put_at arena v.target v.copied (replica_word arena v) (cells (kind v.meter)) C.words8192 (C.sides (early l)).range more

  -- word j of the replica: the new one, or one that stood there
  replica_cases : (P : ℕ → ℕ → Type 0) (j : ℕ) → j ≤ v.copied → P v.copied (replica_word arena v)
      → (j < v.copied → P j (word arena v.target j)) → P j (word arena' v.target j)
  replica_cases P j b new old =
      ⊎_elim (λ (e : j ≡ v.copied). rw (e, new_word) new) (λ (n : j ≢ v.copied). rw (target_word j (omega arith) n) (old (omega arith)))
      (same_or_not j v.copied)

  copied_core : (k n : ℕ) → T (rules.early (stage_of k)) → n ≡ suc v.copied
      → NumbersAt (stage_of k) (restaged v k n) (words (kind v.meter))
      → Core X dir map (restaged v k n) arena' val kind own
  copied_core k n on e count =
      goes_on C l k n on arena' (length-set arena (place v.target v.copied) (replica_word arena v) ∙ C.words8192) meter_word count
      (λ _. replica_cases (λ i x. i ≡ 0 → x ≡ plain v.target) 0 (omega arith) (λ z. first_word arena v z)
      (λ p _. C.replica_head l p) refl)
      (λ two. replica_cases (λ i x. i ≡ 1 → x ≡ label_of v.meter (kind v.meter)) 1 (omega arith)
      (λ z. replica_copies arena v (λ y. omega arith) ∙ ap (word arena v.from) z ∙ (home_entry C (early l)).label)
      (λ p _. C.replica_label l p) refl)
      (λ x f j p q. replica_cases (λ i y. 0 < i → y ≡ word arena v.from i) j (omega arith)
      (λ i. replica_copies arena v (λ y. omega arith)) (λ b i. C.replica x f j i b) p)

module _ {X : Type 0} (s : State) (g : Account) (I : Inv X s g) where
  abbrev v : Move
  v = s.control.mv

  pub count_at : (n : Stage) → stage_of s.control.mv.stage ≡ n → NumbersAt n s.control.mv (words (g.kind s.control.mv.meter))
  count_at n e = subst (λ (x : Stage). NumbersAt x s.control.mv (words (g.kind s.control.mv.meter))) e I.core.count

  r7_on : Early s.control.mv → (k : ℕ) → T (rules.early (stage_of k))
      → s.control.begun ≡ s.control.committed + s.control.aborted + one (rules.early (stage_of k))
  r7_on l k on =
      omega (arith, I.r7, one_yes (says_holds (rules.is_early s.control.mv)) l, one_yes (says_holds (rules.early (stage_of k))) on)

  pub first_inv : stage_of s.control.mv.stage ≡ FirstBarrier → all_passed s.table ≡ true → Inv X (start_copying s).next g
  first_inv e p =
      let l : Early s.control.mv = rw e tt in
      let none_yet : s.control.mv.copied ≡ 0 = count_at FirstBarrier e in
      let z = home_real I.core (early l) in
      record {
        own = I.own;
        eight = I.eight;
        small = I.small;
        r7 = r7_on l 2 tt;
        core = goes_on I.core l 2 s.control.mv.copied tt s.arena I.core.words8192 (λ i d z j _ _ _. refl) (omega arith)
            (λ q. absurd (omega arith)) (λ q. absurd (omega arith)) (λ _ _ j a b. absurd (omega arith));
        rows = λ i. goes_on_row 2 s.control.mv.copied _ l tt refl (λ y. ((I.rows i).detached y).passed)
            (λ _. passed_get s.table p i) (I.rows i);
      }

  pub copy_inv : (t : Step) → stage_of s.control.mv.stage ≡ Copying → Good X ADVANCE g t (copy_word s)
  unfolding copy_word
  copy_inv t e =
      let l : Early v = rw e tt in
      let z = home_real I.core (early l) in
      let more : v.copied < 8 * cells (g.kind v.meter) = omega (arith, count_at Copying e) in
      let up : rise v.copied ≡ suc v.copied = rise_is v.copied 64 (omega arith) (omega arith) in
      let size : words_at s.arena v.from ≡ words (g.kind v.meter) = ap words (from_kind I.core (early l)) in
      let core : (k : ℕ) → T (rules.early (stage_of k))
      → NumbersAt (stage_of k) (restaged v k (rise v.copied)) (words (g.kind v.meter))
      → Core X _ _ (restaged v k (rise v.copied)) _ _ _ _ =
      λ k on count. copied_core I.core l more k (rise v.copied) on up count in
      let same = sym (from_word I.core l more 0 (omega arith)) in
      let beyond : First v → ⊥ = λ y. rw e at y in
      by_test (Good X ADVANCE g t) (eqb (rise v.copied) (words_at s.arena v.from))
      (λ y. record {
        own = I.own;
        eight = length-map s.table cleared ∙ I.eight;
        small = I.small;
        r7 = r7_on l 3 tt;
        core = core 3 tt (eqb-true (rise v.copied) (words_at s.arena v.from) y ∙ size);
        rows = λ i. rw (cleared_get s.table i)
            (goes_on_row 3 (rise v.copied) _ l tt same (cleared_passed (get_or s.table i fresh_row)) (λ y. absurd (beyond y))
            (I.rows i));
      })
      (λ y. record {
        own = I.own;
        eight = I.eight;
        small = I.small;
        r7 = r7_on l 2 tt;
        core = core 2 tt (let n = eqb-false (rise v.copied) (words_at s.arena v.from) y in omega arith);
        rows = λ i. goes_on_row 2 (rise v.copied) _ l tt same (λ y. ((I.rows i).detached y).passed) (λ y. absurd (beyond y)) (I.rows i);
      })
