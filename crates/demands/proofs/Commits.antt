-- The commit keeps the invariant: the replica has every word of the record, its owner and the old block's change places, and, for what
-- demand 2 adds, no row is ready at the old block. Assumes nothing.
use mathlib.Core.Path.{◌≡◌, refl, sym, ap, ◌∙◌}
use mathlib.Core.Logic.{◌≢◌, ⊎_elim}
use mathlib.Core.List.{List}
use Prim.Native.Nat.{ℕ, suc, ◌+◌, ◌*◌, ◌<◌}
use native.Mathlib.Omega.{arith}
use lib.ListN.{length, set, length-set, length-map}
use lib.Seq.{get_or-set_same, get_or-set_other}
use borrow.Author.Tests.{not-true}
use Rattle.model.specs.declared.Row.{Row}
use Rattle.model.specs.declared.Move.{Move}
use Rattle.model.specs.Arena.{cells, none, place, word, header, plain, flagged}
use Rattle.model.specs.Rows.{cleared}
use Rattle.model.specs.declared.Stage.TheVariants.{SecondBarrier}
use Rattle.model.specs.State.{stage_of, rise, entry, State}
use Rattle.model.specs.KeeperSteps.{commit}
use Rattle.model.specs.Rules.{is_early}
use Rattle.model.proofs.Choice.{same_or_not}
use Rattle.model.proofs.Counts.{rise_is}
use Rattle.model.proofs.Readings.{HeaderRight, own_header, flag_header, Early}
use Rattle.model.proofs.Says.{says_holds, one_yes}
use Rattle.demands.specs.Log.{Client, Account}
use Rattle.demands.proofs.Stages.{First, not_both}
use Rattle.demands.proofs.Lists.{set_cases}
use Rattle.demands.proofs.Owners.{other, Owns, exchange, exchange_cases, mapped_exchange}
use Rattle.demands.proofs.Inv.{HoldOk, empty, here, was, Place, at_entry, at_hold, RowOk, EntryOk, Sides, early, late, SidesOk}
use Rattle.demands.proofs.Inv.{Block, in_entry, in_other, Core, Inv}
use Rattle.demands.proofs.Blocks.{meter_lt, home_lt, home_entry, home_real, side_lt}
use Rattle.demands.proofs.Entries.{stored_head, stored_else, stored_entry}
use Rattle.demands.proofs.RowLaws.{carry_phase, marked, cleared_passed, cleared_get}
use Rattle.demands.proofs.Copying.{restaged, count_at}

module _ {X : Type 0} {dir map : List ℕ} {v : Move} {arena : List ℕ} {val : ℕ → ℕ → ℕ} {kind own : ℕ → ℕ}
    (C : Core X dir map v arena val kind own)
    (l : Early v) (all : v.copied ≡ 8 * cells (kind v.meter)) (flag : header arena v.from ≡ flagged v.from) where
  abbrev v' : Move
  v' = restaged v 4 v.copied

  abbrev dir' : List ℕ
  dir' = set dir v.meter v.target

  abbrev arena' : List ℕ
  arena' = set arena (place v.from 0) (plain v.target)

  abbrev own' : ℕ → ℕ
  own' x = exchange v.meter other (own x)

  S : SidesOk dir v kind own v.from v.target
  S = C.sides (early l)

  Y : EntryOk X v arena val kind own v.meter v.from
  Y = home_entry C (early l)

  in_dir : v.meter < length dir
  in_dir = omega (arith, home_lt C (early l), C.entries256)

  new_entry : entry dir' v.meter ≡ v.target
  new_entry = get_or-set_same dir v.meter v.target none in_dir

  old_entry : (m : ℕ) → m ≢ v.meter → entry dir' m ≡ entry dir m
  old_entry m n = get_or-set_other dir v.meter m v.target none n

  -- whose block keeps its owner, and whose changes
  owns_as : (i j c n : ℕ) → exchange v.meter other i ≡ j → Owns own i c n → Owns own' j c n
  owns_as i j c n e o x p q = ap (exchange v.meter other) (o x p q) ∙ e

  other_owner : (m : ℕ) → m ≢ v.meter → m < 256 → exchange v.meter other m ≡ m
  other_owner m n b = exchange_cases (λ i j. j ≡ i) v.meter other m (λ e. absurd (n e)) (λ e. absurd (omega arith)) (λ _ _. refl)

  home_owner : exchange v.meter other v.meter ≡ other
  home_owner = exchange_cases (λ i j. j ≡ other) v.meter other v.meter (λ _. refl) (λ e. e) (λ n _. absurd (n refl))

  side_owner : exchange v.meter other other ≡ v.meter
  side_owner = exchange_cases (λ i j. j ≡ v.meter) v.meter other other (λ e. e) (λ _. refl) (λ _ n. absurd (n refl))

  target_word : (k : ℕ) → k < 8 * cells (kind v.meter) → word arena' v.target k ≡ word arena v.target k
  target_word k b =
      stored_else C v.meter v.from S.home S.inside (plain v.target) other v.target (cells (kind v.meter)) k S.owns b
      (λ e. absurd (omega (arith, home_lt C (early l))))

  moved : EntryOk X v' arena' val kind own' v.meter v.target
  moved =
      let z = home_real C (early l) in
      record {
        kinded = Y.kinded;
        range = S.range;
        label = target_word 1 (omega arith) ∙ C.replica_label l (omega arith);
        owns = owns_as other v.meter v.target (cells (kind v.meter)) side_owner S.owns;
        head = own_header (target_word 0 (omega arith) ∙ C.replica_head l (omega arith));
        vals = λ x w b. target_word (2 + w) (omega arith) ∙ C.replica x (l, flag) (2 + w) (omega arith) (omega arith) ∙ Y.vals x w b;
      }

  unmoved : (m : ℕ) → m ≢ v.meter → entry dir m ≢ none → EntryOk X v' arena' val kind own' m (entry dir m)
  unmoved m n y =
      stored_entry C v.meter v.from S.home S.inside (plain v.target) m y
      (owns_as m m (entry dir m) (cells (kind m)) (other_owner m n (meter_lt C m y)) (C.entries m y).owns) (λ e. absurd (n e))
      (λ _ k. keep k)
    where
      keep : {c h : ℕ} → HeaderRight v m c h → HeaderRight v' m c h
      keep (own_header p) = own_header p
      keep (flag_header _ p _) = absurd (n p)

  new_block : {x i : ℕ} → Block dir v kind x i → Block dir' v' kind x (exchange v.meter other i)
  new_block {x} {i} (in_entry p q r) =
      ⊎_elim
      (λ (e : i ≡ v.meter). rw (e, home_owner) (in_other (late tt) refl (rw (e, S.home) at q) (rw (e, S.home) at r)))
      (λ (n : i ≢ v.meter). rw (other_owner i n (meter_lt C i p))
      (let u = old_entry i n in in_entry (λ z. p (sym u ∙ z)) (omega arith) (omega arith)))
      (same_or_not i v.meter)
  new_block {x} {i} (in_other (early _) e q r) =
      rw (e, side_owner) (let u = new_entry in in_entry (λ z. omega (arith, side_lt C (early l))) (omega arith) (omega arith))
  new_block (in_other (late y) _ _ _) = absurd (not_both v l y)

  new_sides : {c d : ℕ} → Sides v' c d → SidesOk dir' v' kind own' c d
  new_sides (early y) = absurd y
  new_sides (late y) = record {
    home = new_entry;
    inside = side_lt C (early l);
    range = Y.range;
    owns = owns_as v.meter other v.from (cells (kind v.meter)) home_owner Y.owns;
  }

  pub committed_core : Core X dir' map v' arena' val kind own'
  committed_core =
      let z = home_real C (early l) in
      record {
        entries256 = length-set dir v.meter v.target ∙ C.entries256;
        words8192 = length-set arena (place v.from 0) (plain v.target) ∙ C.words8192;
        is_map = C.is_map;
        entries = set_cases (λ m c. c ≢ none → EntryOk X v' arena' val kind own' m c) dir v.meter v.target none in_dir
            (λ _. moved) unmoved;
        mapped = mapped_exchange own map v.meter other (λ e. omega (arith, home_lt C (early l))) (λ e. omega arith) C.mapped;
        owned = λ x n. new_block (C.owned x (λ e. n (ap (exchange v.meter other) e ∙ nobody)));
        idle = λ y. absurd y;
        sides = λ b. new_sides b;
        count = omega arith;
        old_head = λ _. stored_head C v.meter v.from S.home S.inside (plain v.target);
        old_label = λ _. stored_else C v.meter v.from S.home S.inside (plain v.target) v.meter v.from
            (cells (kind v.meter)) 1 Y.owns (omega arith) (λ _. (refl, λ e. omega arith)) ∙ Y.label;
        replica_head = λ y. absurd y;
        replica_label = λ y. absurd y;
        replica = λ _ f. absurd f.0;
      }
    where
      nobody : exchange v.meter other none ≡ none
      nobody = exchange_cases (λ i j. j ≡ i) v.meter other none (λ e. absurd (omega (arith, home_lt C (early l))))
          (λ e. absurd (omega arith)) (λ _ _. refl)

  pub committed_row : {h b : ℕ} {r : Row} {q : Client} → (First v → ⊥) → RowOk X dir v kind (header arena v.from) b r q
      → RowOk X dir' v' kind h b (cleared r) q
  committed_row {r = r} {q = q} beyond R = record {
    four = R.four;
    holds = λ i. new_hold (R.holds i);
    detached = marked r _ (cleared_passed r) R.detached;
    passed = λ _ p i z. omega (arith, (R.detached (not-true r.attached p)).empty i, S.inside);
    le = R.le;
    lt = λ f. absurd f.0;
    phase = carry_phase (λ e. e)
        (λ c x _ W. record {
          asked = W.asked;
          place = new_place (R.holds _) W.asked.filled W.place;
          away = λ _ f. absurd f.0;
          newest = λ y. old_entry _ (λ z. W.away y (l, flag) (λ k. absurd (beyond k)) (sym (W.newest y) ∙ ap (entry dir) z ∙ S.home))
              ∙ W.newest y;
        })
        (λ c x W. record { asked = W.asked; held = W.held; owes = W.owes; elsewhere = λ f. absurd f.0 })
        R.phase;
  }
    where
      new_hold : {h m : ℕ} → HoldOk dir v h m → HoldOk dir' v' h m
      new_hold (empty e) = empty e
      new_hold {h} {m} (here u e) =
          ⊎_elim (λ (z : m ≡ v.meter). was tt (sym e ∙ ap (entry dir) z ∙ S.home) z) (λ (n : m ≢ v.meter). here u (old_entry m n ∙ e))
          (same_or_not m v.meter)
      new_hold (was y _ _) = absurd (not_both v l y)

      -- a row ready at the moved record stays at the old block, its hold's
      new_place : {h m c : ℕ} → HoldOk dir v h m → h ≢ none → Place dir h m c → Place dir' h m c
      new_place k n (at_hold e) = at_hold e
      new_place (empty z) n (at_entry e) = absurd (n z)
      new_place {h} {m} {c} (here u z) n (at_entry e) = ⊎_elim (λ (y : m ≡ v.meter). at_hold (sym z ∙ e))
          (λ (y : m ≢ v.meter). at_entry (old_entry m y ∙ e)) (same_or_not m v.meter)
      new_place (was y _ _) n (at_entry e) = absurd (not_both v l y)

pub commit_inv : {X : Type 0} (s : State) (g : Account) → Inv X s g → stage_of s.control.mv.stage ≡ SecondBarrier
    → header s.arena s.control.mv.from ≡ flagged s.control.mv.from → Inv X (commit s).next g
commit_inv {X} s g I e flag =
    let v = s.control.mv in
    let l : Early v = rw e tt in
    let z = home_real I.core (early l) in
    let all : v.copied ≡ 8 * cells (g.kind v.meter) = omega (arith, count_at s g I SecondBarrier e) in
    let beyond : First v → ⊥ = λ y. rw e at y in
    let r7 = I.r7 in
    let now = one_yes (says_holds (is_early v)) l in
    let up : rise s.control.committed ≡ suc s.control.committed = rise_is s.control.committed s.control.begun
    (omega arith) I.small in
    record {
      own = own' I.core l all flag;
      core = committed_core I.core l all flag;
      eight = length-map s.table cleared ∙ I.eight;
      rows = λ i. rw (cleared_get s.table i) (committed_row I.core l all flag beyond (I.rows i));
      r7 = omega arith;
      small = I.small;
    }
