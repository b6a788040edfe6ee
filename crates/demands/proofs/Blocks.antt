-- What the invariant says of the records, of the move's two blocks and of a held cell. Assumes nothing.
use mathlib.Core.Path.{◌≡◌, refl, sym, ap, ◌∙◌}
use mathlib.Core.Logic.{◌≢◌}
use mathlib.Core.List.{List}
use Prim.Native.Nat.{ℕ, ◌*◌, ◌≤◌, ◌<◌}
use native.Mathlib.Omega.{arith}
use lib.Dec.{T}
use lib.ListN.{length}
use Rattle.model.specs.declared.Move.{Move}
use Rattle.model.specs.Arena.{cells, words, none, header, plain, flagged, label, kind_of, IsMap}
use Rattle.model.specs.declared.Stage.{Stage}
use Rattle.model.specs.declared.Stage.TheVariants.{NoMove, FirstBarrier, Copying, SecondBarrier, ThirdBarrier}
use Rattle.model.specs.State.{stage_of, no_move, entry}
use Rattle.model.specs.Rules as rules
use Rattle.model.proofs.ByKind.{Real, by_kind}
use Rattle.demands.proofs.Stages.{first, First, not_both}
use Rattle.model.proofs.Readings.{present_lt, FlagUp, HeaderRight, own_header, flag_header, Early, NumbersAt}
use Rattle.demands.proofs.Owners.{other, Mapped}
use Rattle.demands.proofs.Inv.{HoldOk, empty, here, was, EntryOk, Sides, early, late, Block, Core}

-- R5 of a move v at stage g whose record has z words
pub copied_le : (g : Stage) (v : Move) (z : ℕ) → T (rules.early g) → NumbersAt g v z → v.copied ≤ z
copied_le NoMove v z l k = absurd l
copied_le FirstBarrier v z l k = omega arith
copied_le Copying v z l k = omega arith
copied_le SecondBarrier v z l k = omega arith
copied_le ThirdBarrier v z l k = absurd l

first_none : (g : Stage) (v : Move) (z : ℕ) → T (first g) → NumbersAt g v z → v.copied ≡ 0
first_none NoMove v z l k = absurd l
first_none FirstBarrier v z l k = k
first_none Copying v z l k = absurd l
first_none SecondBarrier v z l k = absurd l
first_none ThirdBarrier v z l k = absurd l

-- the words of a record matter only while a move is in hand
pub numbers_same : (g : Stage) (v : Move) (z z' : ℕ) → (T (rules.early g) → z ≡ z') → (T (rules.late g) → z ≡ z') → NumbersAt g v z
    → NumbersAt g v z'
numbers_same NoMove v z z' e f k = k
numbers_same FirstBarrier v z z' e f k = k
numbers_same Copying v z z' e f k = omega (arith, e tt)
numbers_same SecondBarrier v z z' e f k = k ∙ e tt
numbers_same ThirdBarrier v z z' e f k = k ∙ f tt

-- with no move in hand only the records and the map say something
pub still : {X : Type 0} {dir map arena : List ℕ} {val : ℕ → ℕ → ℕ} {kind own : ℕ → ℕ} → length dir ≡ 256 → length arena ≡ 8192 → IsMap map
    → ((m : ℕ) → entry dir m ≢ none → EntryOk X no_move arena val kind own m (entry dir m)) → Mapped own map
    → ((x : ℕ) → own x ≢ none → Block dir no_move kind x (own x)) → Core X dir map no_move arena val kind own
still d a m entries mapped owned = record {
  entries256 = d;
  words8192 = a;
  is_map = m;
  entries = entries;
  mapped = mapped;
  owned = owned;
  idle = λ _. refl;
  sides = λ b. absurd (no_sides b);
  count = record { meter = refl; from = refl; target = refl; copied = refl };
  old_head = λ l. absurd l;
  old_label = λ l. absurd l;
  replica_head = λ l. absurd l;
  replica_label = λ l. absurd l;
  replica = λ _ f. absurd f.0;
}
  where
    no_sides : {c d : ℕ} → Sides no_move c d → ⊥
    no_sides (early l) = l
    no_sides (late l) = l

-- a filled hold's cell: its header is plain and names the meter's entry t, or it is the moved record's, flagged
pub data Cell (dir : List ℕ) (v : Move) (arena : List ℕ) (h m : ℕ) : Type 0 where
  unflagged : (t : ℕ) → header arena h ≡ plain t → entry dir m ≡ t → t < 1024
      → (FlagUp v arena → (t ≢ v.from) × (h ≢ v.from)) → Cell dir v arena h m
  flagged_cell : header arena h ≡ flagged h → entry dir m ≡ h → h < 1024 → Early v → h ≡ v.from → Cell dir v arena h m

module _ {X : Type 0} {dir map : List ℕ} {v : Move} {arena : List ℕ} {val : ℕ → ℕ → ℕ} {kind own : ℕ → ℕ}
    (C : Core X dir map v arena val kind own) where
  pub meter_lt : (m : ℕ) → entry dir m ≢ none → m < 256
  meter_lt = present_lt dir C.entries256

  pub entry_range : (m : ℕ) → entry dir m ≢ none → entry dir m < 1024
  entry_range m n = let E = C.entries m n in let z = by_kind (kind m) E.kinded in omega (arith, E.range)

  -- the owner of an entry's first cell
  pub entry_own : (m : ℕ) → entry dir m ≢ none → own (entry dir m) ≡ m
  entry_own m n = let E = C.entries m n in let z = by_kind (kind m) E.kinded in E.owns (entry dir m) (omega arith) (omega arith)

  -- the moved meter's record, at c, and the other block, at d
  module _ {c d : ℕ} (b : Sides v c d) where
    pub home_in : entry dir v.meter ≢ none
    home_in z = omega (arith, (C.sides b).home, (C.sides b).inside)

    pub home_lt : v.meter < 256
    home_lt = meter_lt v.meter home_in

    pub home_entry : EntryOk X v arena val kind own v.meter c
    home_entry = rw (C.sides b).home at (C.entries v.meter home_in)

    pub home_real : Real (kind v.meter)
    home_real = by_kind (kind v.meter) home_entry.kinded

    pub side_lt : d < 1024
    side_lt = let z = home_real in omega (arith, (C.sides b).range)

    pub side_own : own d ≡ other
    side_own = let z = home_real in (C.sides b).owns d (omega arith) (omega arith)

    pub side_apart : (m : ℕ) → entry dir m ≢ d
    side_apart m z =
        let n : entry dir m ≢ none = λ y. omega (arith, side_lt) in
        omega (arith, entry_own m n, ap own z, side_own, meter_lt m n)

  -- no more words are copied than the record has
  pub copied_fit : Early v → v.copied ≤ 8 * cells (kind v.meter)
  copied_fit l =
      let z = home_real (early l) in
      omega (arith, copied_le (stage_of v.stage) v (words (kind v.meter)) l C.count)

  pub first_uncopied : First v → v.copied ≡ 0
  first_uncopied l = first_none (stage_of v.stage) v (words (kind v.meter)) l C.count

  -- the kind in the label of the moved record, at its old cell
  pub from_kind : {c d : ℕ} → Sides v c d → kind_of (label arena v.from) ≡ kind v.meter
  from_kind (early l) = let E = home_entry (early l) in omega (arith, E.label, E.kinded)
  from_kind (late l) = omega (arith, C.old_label l, (home_entry (late l)).kinded)

  -- a filled hold stands for a present meter, and has its kind
  pub held_in : {h m : ℕ} → HoldOk dir v h m → h ≢ none → entry dir m ≢ none
  held_in (empty e) n = absurd (n e)
  held_in (here r e) n = λ z. n (sym e ∙ z)
  held_in (was l e f) n = rw f (home_in (late l))

  pub held_kind : {h m : ℕ} → HoldOk dir v h m → h ≢ none → kind_of (label arena h) ≡ kind m
  held_kind (empty e) n = absurd (n e)
  held_kind {h} {m} (here r e) n =
      let E : EntryOk X v arena val kind own m h = rw e at (C.entries m (rw e n)) in
      omega (arith, E.label, E.kinded)
  held_kind (was l e f) n = rw (e, f) (from_kind (late l))

  pub cell : {h m : ℕ} → HoldOk dir v h m → h ≢ none → Cell dir v arena h m
  cell (empty e) n = absurd (n e)
  cell {h} {m} (here r e) n = from E.head
    where
      E : EntryOk X v arena val kind own m h
      E = rw e at (C.entries m (rw e n))

      from : HeaderRight v m h (header arena h) → Cell dir v arena h m
      from (own_header p) =
          let apart : FlagUp v arena → h ≢ v.from = λ f z. omega (arith, f.1, ap (header arena) z) in
          unflagged h p e r (λ f. (apart f, apart f))
      from (flag_header l p o) = flagged_cell o e r l (sym e ∙ ap (entry dir) p ∙ (C.sides (early l)).home)
  cell {h} {m} (was l e f) n =
      let S = C.sides (late l) in
      unflagged v.target (rw e (C.old_head l)) (rw f S.home) S.inside (λ k. absurd (not_both v k.0 l))
