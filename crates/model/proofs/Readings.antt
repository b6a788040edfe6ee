-- What each rule says, in plain words, and that its test says it; a sound state is one of which all eight hold. Assumes nothing.
use mathlib.Core.Path.{◌≡◌, refl, sym, ◌∙◌}
use mathlib.Core.Logic.{◌≢◌, ◌⊎◌, inl, inr, ⊎_elim}
use mathlib.Core.Bool.{Bool, true, false, not}
use mathlib.Core.List.{List, [], ◌∷◌}
use Prim.Native.Nat.{ℕ, zero, suc, ◌+◌, ◌≤◌, ◌<◌}
use native.Mathlib.Omega.{arith}
use lib.Dec.{T, eqb}
use lib.ListN.{length, get_or, get_or-eq_default}
use Rattle.model.specs.declared.Access.{Access}
use Rattle.model.specs.declared.Phase.{Phase}
use Rattle.model.specs.declared.Phase.TheVariants.{Resting, Ready, Waiting}
use Rattle.model.specs.declared.Row.{Row}
use Rattle.model.specs.declared.Move.{Move}
use Rattle.model.specs.Choice.{pick, one, All}
use Rattle.model.specs.Arena.{none, header, plain, flagged, target_of, label, meter_of, cells_at, words_at, payload_at, used}
use Rattle.model.specs.Rows.{hold_of, word_of, busy, hold}
use Rattle.model.specs.declared.Stage.{Stage}
use Rattle.model.specs.declared.Stage.TheVariants.{NoMove, FirstBarrier, Copying, SecondBarrier, ThirdBarrier}
use Rattle.model.specs.State.{stage_of, entry, State}
use Rattle.model.specs.Rules.{is_cell, is_early, is_late, record_right, R1, replica_right, early_right, late_right, R2, blocks_over}
use Rattle.model.specs.Rules.{cell_right, R3, header_right, R4, numbers_right, R5, detached_right, hold_right, access_right, phase_right}
use Rattle.model.specs.Rules.{passed_right, row_right, R6, R7, flag_up, waits, waits_elsewhere, swaps_right, R8, first_false, first_broken}
use Rattle.model.proofs.Choice.{clash, by_test, order}
use Rattle.model.proofs.Says.{Says, says_eq, says_lt, says_le, says_is, says_isnt, says_holds, says_yes, says_as, says_not, says_and}
use Rattle.model.proofs.Says.{says_or, says_when, says_every, Somewhere, says_all, says_none, says_any}

abbrev pub Present : List ℕ → ℕ → Type 0
Present dir m = entry dir m ≢ none

-- a meter past the directory's end is absent
pub present_lt : (dir : List ℕ) → length dir ≡ 256 → (m : ℕ) → Present dir m → m < 256
present_lt dir l m n =
    ⊎_elim (λ p. p) (λ (p : 256 ≤ m). absurd (n (get_or-eq_default dir none (omega arith)))) (order m 256)

-- "its first three stages"; "the third barrier"
abbrev pub Early : Move → Type 0
Early v = T (is_early v)

abbrev pub Late : Move → Type 0
Late v = T (is_late v)

says_cell : (c : ℕ) → Says (is_cell c) (c ≢ none)
says_cell c = says_not (says_eq c none)

-- the other way round
says_qe : (x y : ℕ) → Says (eqb x y) (y ≡ x)
says_qe x y = says_as sym sym (says_eq x y)

-- R1 "Each present entry c: label matches its meter, kind read from it, record within 1,024 cells."
pub record RecordRight (dir arena : List ℕ) (m : ℕ) : Type 0 where
  pub meter : meter_of (label arena (entry dir m)) ≡ m
  pub within : entry dir m + cells_at arena (entry dir m) ≤ 1024

abbrev pub RecordsRight : List ℕ → List ℕ → Type 0
RecordsRight dir arena = (m : ℕ) → m < 256 → Present dir m → RecordRight dir arena m

pub says_record : (dir arena : List ℕ) (m : ℕ) → Says (record_right dir arena m) (Present dir m → RecordRight dir arena m)
unfolding record_right
says_record dir arena m =
    says_when (says_cell (entry dir m))
    (says_as (λ k. record { meter = k.0; within = k.1 }) (λ r. (r.meter, r.within)) (says_and (says_eq _ _) (says_le _ _)))

pub says_r1 : (dir arena : List ℕ) → Says (R1 dir arena) (RecordsRight dir arena)
unfolding R1
says_r1 dir arena = says_every 256 (record_right dir arena) _ (says_record dir arena)

-- R2 "A move in its first three stages names a present meter whose entry is the old cell, and a target block of its length within
-- the arena;" .. "Replica words 0 and 1 are right once copied."
pub record EarlyRight (dir : List ℕ) (v : Move) (arena : List ℕ) : Type 0 where
  pub present : Present dir v.meter
  pub old : entry dir v.meter ≡ v.from
  pub within : v.target + cells_at arena v.from ≤ 1024
  pub replica_header : 0 < v.copied → header arena v.target ≡ plain v.target
  pub replica_label : 1 < v.copied → label arena v.target ≡ label arena v.from

-- .. "in the third barrier the entry is the target, and the old block has the same label and lies within the arena."
pub record LateRight (dir : List ℕ) (v : Move) (arena : List ℕ) : Type 0 where
  pub present : Present dir v.meter
  pub new : entry dir v.meter ≡ v.target
  pub same_label : label arena v.from ≡ label arena v.target
  pub within : v.from + cells_at arena v.from ≤ 1024

pub record MoveRight (dir : List ℕ) (v : Move) (arena : List ℕ) : Type 0 where
  pub stage : v.stage < 5
  pub early : Early v → EarlyRight dir v arena
  pub late : Late v → LateRight dir v arena

pub says_early_right : (dir : List ℕ) (v : Move) (arena : List ℕ) → Says (early_right dir v arena) (EarlyRight dir v arena)
unfolding early_right replica_right
says_early_right dir v arena =
    says_as
    (λ k. record { present = k.0; old = k.1.0; within = k.1.1.0; replica_header = k.1.1.1.0; replica_label = k.1.1.1.1 })
    (λ r. (r.present, (r.old, (r.within, (r.replica_header, r.replica_label)))))
    (says_and (says_cell (entry dir v.meter))
    (says_and (says_eq _ _)
    (says_and (says_le _ _)
    (says_and (says_when (says_lt _ _) (says_eq _ _)) (says_when (says_lt _ _) (says_eq _ _))))))

pub says_late_right : (dir : List ℕ) (v : Move) (arena : List ℕ) → Says (late_right dir v arena) (LateRight dir v arena)
unfolding late_right
says_late_right dir v arena =
    says_as
    (λ k. record { present = k.0; new = k.1.0; same_label = k.1.1.0; within = k.1.1.1 })
    (λ r. (r.present, (r.new, (r.same_label, r.within))))
    (says_and (says_cell (entry dir v.meter)) (says_and (says_eq _ _) (says_and (says_eq _ _) (says_le _ _))))

pub says_r2 : (dir : List ℕ) (v : Move) (arena : List ℕ) → Says (R2 dir v arena) (MoveRight dir v arena)
unfolding R2
says_r2 dir v arena =
    says_as (λ k. record { stage = k.0; early = k.1.0; late = k.1.1 }) (λ r. (r.stage, (r.early, r.late)))
    (says_and (says_lt _ _)
    (says_and (says_when (says_holds (is_early v)) (says_early_right dir v arena))
    (says_when (says_holds (is_late v)) (says_late_right dir v arena))))

-- R3 "Used cells are exactly those of present records and of the move's other block; none lies in two."
abbrev pub CellsRight : List ℕ → List ℕ → Move → List ℕ → Type 0
CellsRight dir map v arena = (x : ℕ) → x < 1024 → blocks_over dir v arena x ≡ used map x

pub says_r3 : (dir map : List ℕ) (v : Move) (arena : List ℕ) → Says (R3 dir map v arena) (CellsRight dir map v arena)
unfolding R3 cell_right
says_r3 dir map v arena = says_every 1024 (cell_right dir map v arena) _ (λ x. says_eq _ _)

-- R4 "Headers of present records are 2c; in the first three stages the moved one may be 2c + 1." : h is the header of meter m's
-- record at cell c
pub data HeaderRight (v : Move) (m c h : ℕ) : Type 0 where
  own_header : h ≡ plain c → HeaderRight v m c h
  flag_header : Early v → m ≡ v.meter → h ≡ flagged c → HeaderRight v m c h

-- .. "In the third barrier the old header is 2 × new."
pub record HeadersRight (dir : List ℕ) (v : Move) (arena : List ℕ) : Type 0 where
  pub entries : (m : ℕ) → m < 256 → Present dir m → HeaderRight v m (entry dir m) (header arena (entry dir m))
  pub old : Late v → header arena v.from ≡ plain v.target

pub says_header : (dir : List ℕ) (v : Move) (arena : List ℕ) (m : ℕ)
    → Says (header_right dir v arena m) (Present dir m → HeaderRight v m (entry dir m) (header arena (entry dir m)))
unfolding header_right
says_header dir v arena m =
    says_when (says_cell (entry dir m))
    (says_as to from (says_or (says_eq _ _) (says_and (says_holds (is_early v)) (says_and (says_eq _ _) (says_eq _ _)))))
  where
    to : {c h : ℕ} → (h ≡ plain c) ⊎ (Early v × ((m ≡ v.meter) × (h ≡ flagged c))) → HeaderRight v m c h
    to (inl e) = own_header e
    to (inr k) = flag_header k.0 k.1.0 k.1.1

    from : {c h : ℕ} → HeaderRight v m c h → (h ≡ plain c) ⊎ (Early v × ((m ≡ v.meter) × (h ≡ flagged c)))
    from (own_header e) = inl e
    from (flag_header l n e) = inr (l, (n, e))

pub says_r4 : (dir : List ℕ) (v : Move) (arena : List ℕ) → Says (R4 dir v arena) (HeadersRight dir v arena)
unfolding R4
says_r4 dir v arena =
    says_as (λ k. record { entries = k.0; old = k.1 }) (λ r. (r.entries, r.old))
    (says_and (says_every 256 (header_right dir v arena) _ (says_header dir v arena)) (says_when (says_holds (is_late v)) (says_eq _ _)))

-- R5 "Words copied is below the record's words while copying; at the other stages, and with no move in hand, the move's numbers are
-- as said above." : n is the record's words
pub record NoNumbers (v : Move) : Type 0 where
  pub meter : v.meter ≡ 0
  pub from : v.from ≡ 0
  pub target : v.target ≡ 0
  pub copied : v.copied ≡ 0

abbrev pub NumbersAt : Stage → Move → ℕ → Type 0
NumbersAt NoMove v n = NoNumbers v
NumbersAt FirstBarrier v n = v.copied ≡ 0
NumbersAt Copying v n = v.copied < n
NumbersAt SecondBarrier v n = v.copied ≡ n
NumbersAt ThirdBarrier v n = v.copied ≡ n

abbrev pub NumbersRight : Move → List ℕ → Type 0
NumbersRight v arena = NumbersAt (stage_of v.stage) v (words_at arena v.from)

says_numbers : (g : Stage) (v : Move) (n : ℕ) → Says (numbers_right g v n) (NumbersAt g v n)
says_numbers NoMove v n =
    says_as
    (λ k. record { meter = k.0; from = k.1.0; target = k.1.1.0; copied = k.1.1.1 })
    (λ r. (r.meter, (r.from, (r.target, r.copied))))
    (says_and (says_eq _ _) (says_and (says_eq _ _) (says_and (says_eq _ _) (says_eq _ _))))
says_numbers FirstBarrier v n = says_eq _ _
says_numbers Copying v n = says_lt _ _
says_numbers SecondBarrier v n = says_eq _ _
says_numbers ThirdBarrier v n = says_eq _ _

pub says_r5 : (v : Move) (arena : List ℕ) → Says (R5 v arena) (NumbersRight v arena)
unfolding R5
says_r5 v arena = says_numbers (stage_of v.stage) v (words_at arena v.from)

-- R6 "Unattached rows are as after DETACH." ..
pub record DetachedRight (r : Row) : Type 0 where
  pub passed : r.passed ≡ true
  pub holds : All (λ h. h ≡ none) r.holds
  pub rests : r.phase ≡ Resting

-- .. "A hold is empty, a present record, or the old block." ..
pub data HoldRight (dir : List ℕ) (v : Move) (h : ℕ) : Type 0 where
  hold_empty : h ≡ none → HoldRight dir v h
  hold_present : (m : ℕ) → m < length dir → entry dir m ≡ h → HoldRight dir v h
  hold_old : Late v → h ≡ v.from → HoldRight dir v h

-- .. "A busy row's hold is filled, its word within the payload, a read's value 0;" ..
pub record AccessRight (arena : List ℕ) (r : Row) (x : Access) : Type 0 where
  pub filled : hold r (hold_of x) ≢ none
  pub word : word_of x < payload_at arena (hold r (hold_of x))

-- .. "waiting is on its hold's cell; ready is at its hold's cell or that header's target." ..
pub record ReadyRight (arena : List ℕ) (r : Row) (c : ℕ) (x : Access) : Type 0 where
  pub access : AccessRight arena r x
  pub at : (c ≡ hold r (hold_of x)) ⊎ (c ≡ target_of (header arena (hold r (hold_of x))))

pub record WaitingRight (arena : List ℕ) (r : Row) (c : ℕ) (x : Access) : Type 0 where
  pub access : AccessRight arena r x
  pub on : c ≡ hold r (hold_of x)

abbrev pub PhaseRight : List ℕ → Row → Phase → Type 0
PhaseRight arena r Resting = Unit {0}
PhaseRight arena r (Ready c x) = ReadyRight arena r c x
PhaseRight arena r (Waiting c x) = WaitingRight arena r c x

-- .. "In the third barrier a passed row holds no old block."
pub record RowRight (dir : List ℕ) (v : Move) (arena : List ℕ) (r : Row) : Type 0 where
  pub detached : r.attached ≡ false → DetachedRight r
  pub holds : All (HoldRight dir v) r.holds
  pub phase : PhaseRight arena r r.phase
  pub passed : Late v → r.passed ≡ true → All (λ h. h ≢ v.from) r.holds

abbrev pub RowsRight : List ℕ → Move → List ℕ → List Row → Type 0
RowsRight dir v arena table = All (RowRight dir v arena) table

says_rests : (p : Phase) → Says (not (busy p)) (p ≡ Resting)
says_rests p = record { holds = to p; test = λ e. rw e refl }
  where
    to : (p : Phase) → not (busy p) ≡ true → p ≡ Resting
    to Resting e = refl
    to (Ready c x) e = clash false e refl
    to (Waiting c x) e = clash false e refl

says_detached : (r : Row) → Says (detached_right r) (r.attached ≡ false → DetachedRight r)
unfolding detached_right
says_detached r =
    says_when (says_isnt r.attached)
    (says_as (λ k. record { passed = k.0; holds = k.1.0; rests = k.1.1 }) (λ d. (d.passed, (d.holds, d.rests)))
    (says_and (says_is r.passed)
    (says_and (says_all (eqb none) (λ h. h ≡ none) (says_qe none) r.holds) (says_rests r.phase))))

pub says_hold : (dir : List ℕ) (v : Move) (h : ℕ) → Says (hold_right dir v h) (HoldRight dir v h)
unfolding hold_right
says_hold dir v h =
    says_as to from
    (says_or (says_eq h none)
    (says_or (says_any (eqb h) (λ c. c ≡ h) (says_qe h) none dir) (says_and (says_holds (is_late v)) (says_eq h v.from))))
  where
    to : (h ≡ none) ⊎ (Somewhere (λ c. c ≡ h) none dir ⊎ (Late v × (h ≡ v.from))) → HoldRight dir v h
    to (inl e) = hold_empty e
    to (inr (inl k)) = hold_present k.at k.low k.holds
    to (inr (inr k)) = hold_old k.0 k.1

    from : HoldRight dir v h → (h ≡ none) ⊎ (Somewhere (λ c. c ≡ h) none dir ⊎ (Late v × (h ≡ v.from)))
    from (hold_empty e) = inl e
    from (hold_present m l e) = inr (inl (record { at = m; low = l; holds = e }))
    from (hold_old l e) = inr (inr (l, e))

pub says_access : (arena : List ℕ) (r : Row) (x : Access) → Says (access_right arena r x) (AccessRight arena r x)
unfolding access_right
says_access arena r x =
    says_as (λ k. record { filled = k.0; word = k.1 }) (λ a. (a.filled, a.word))
    (says_and (says_cell (hold r (hold_of x))) (says_lt _ _))

pub says_phase : (arena : List ℕ) (r : Row) (p : Phase) → Says (phase_right arena r p) (PhaseRight arena r p)
says_phase arena r Resting = says_yes
says_phase arena r (Ready c x) =
    says_as (λ k. record { access = k.0; at = k.1 }) (λ p. (p.access, p.at))
    (says_and (says_access arena r x) (says_or (says_eq _ _) (says_eq _ _)))
says_phase arena r (Waiting c x) =
    says_as (λ k. record { access = k.0; on = k.1 }) (λ p. (p.access, p.on)) (says_and (says_access arena r x) (says_eq _ _))

says_passed : (v : Move) (r : Row)
    → Says (passed_right v r) (Late v → r.passed ≡ true → All (λ h. h ≢ v.from) r.holds)
unfolding passed_right
says_passed v r =
    says_when (says_holds (is_late v))
    (says_when (says_is r.passed) (says_none (eqb v.from) (λ h. h ≡ v.from) (says_qe v.from) r.holds))

pub says_row : (dir : List ℕ) (v : Move) (arena : List ℕ) (r : Row) → Says (row_right dir v arena r) (RowRight dir v arena r)
unfolding row_right
says_row dir v arena r =
    says_as
    (λ k. record { detached = k.0; holds = k.1.0; phase = k.1.1.0; passed = k.1.1.1 })
    (λ w. (w.detached, (w.holds, (w.phase, w.passed))))
    (says_and (says_detached r)
    (says_and (says_all (hold_right dir v) (HoldRight dir v) (says_hold dir v) r.holds)
    (says_and (says_phase arena r r.phase) (says_passed v r))))

pub says_r6 : (dir : List ℕ) (v : Move) (arena : List ℕ) (table : List Row) → Says (R6 dir v arena table) (RowsRight dir v arena table)
unfolding R6
says_r6 dir v arena table = says_all (row_right dir v arena) (RowRight dir v arena) (says_row dir v arena) table

-- R7 "begun = committed + aborted, plus 1 during the first three stages."
abbrev pub CountsRight : Move → ℕ → ℕ → ℕ → Type 0
CountsRight v begun committed aborted = begun ≡ committed + aborted + one (is_early v)

pub says_r7 : (v : Move) (begun committed aborted : ℕ) → Says (R7 v begun committed aborted) (CountsRight v begun committed aborted)
unfolding R7
says_r7 v begun committed aborted = says_eq _ _

-- R8 "Swaps ≤ begun. While a header is flagged, swaps < begun, and a row waiting on another record has swaps + 1 < begun. While none
-- is flagged, a waiting row has swaps < begun." : what a row still owes is 0, 1 or 2
abbrev pub owed : Bool → ℕ → Phase → ℕ
owed flag from Resting = one flag
owed flag from (Ready c x) = one flag
owed true from (Waiting c x) = pick (eqb c from) 1 2
owed false from (Waiting c x) = 1

abbrev pub SwapsAt : Bool → ℕ → ℕ → Row → Type 0
SwapsAt flag from begun r = r.swaps + owed flag from r.phase ≤ begun

abbrev pub SwapsRight : Move → ℕ → List ℕ → List Row → Type 0
SwapsRight v begun arena table = All (SwapsAt (flag_up v arena) v.from begun) table

-- in the rule's own words: n is the row's swaps, p its phase
pub record Owing (flag : Bool) (from begun n : ℕ) (p : Phase) : Type 0 where
  pub most : n ≤ begun
  pub flagged : flag ≡ true → n < begun
  pub elsewhere : flag ≡ true → waits_elsewhere from p ≡ true → n + 1 < begun
  pub waiting : flag ≡ false → waits p ≡ true → n < begun

pub owed_le : (flag : Bool) (from begun n : ℕ) (p : Phase) → Owing flag from begun n p → n + owed flag from p ≤ begun
owed_le true from begun n Resting k = omega (arith, k.flagged refl)
owed_le true from begun n (Ready c x) k = omega (arith, k.flagged refl)
owed_le true from begun n (Waiting c x) k = by (eqb c from) (k.flagged refl) (k.elsewhere refl)
  where
    by : (t : Bool) → n < begun → (not t ≡ true → n + 1 < begun) → n + pick t 1 2 ≤ begun
    by true p q = omega arith
    by false p q = omega (arith, q refl)
owed_le false from begun n Resting k = omega (arith, k.most)
owed_le false from begun n (Ready c x) k = omega (arith, k.most)
owed_le false from begun n (Waiting c x) k = omega (arith, k.waiting refl refl)

pub owed_words : (flag : Bool) (from begun n : ℕ) (p : Phase) → n + owed flag from p ≤ begun → Owing flag from begun n p
owed_words flag from begun n p h =
    record { most = omega arith; flagged = one_owed flag p h; elsewhere = two_owed flag p h; waiting = wait_owed flag p h }
  where
    one_owed : (flag : Bool) (p : Phase) → n + owed flag from p ≤ begun → flag ≡ true → n < begun
    one_owed true Resting h e = omega arith
    one_owed true (Ready c x) h e = omega arith
    one_owed true (Waiting c x) h e =
        by_test (λ (k : ℕ). n + k ≤ begun → n < begun) (eqb c from) (λ _ h. omega arith) (λ _ h. omega arith) h
    one_owed false p h e = clash false e refl

    two_owed : (flag : Bool) (p : Phase) → n + owed flag from p ≤ begun → flag ≡ true → waits_elsewhere from p ≡ true → n + 1 < begun
    two_owed true Resting h e w = clash false w refl
    two_owed true (Ready c x) h e w = clash false w refl
    two_owed true (Waiting c x) h e w = by (eqb c from) h w
      where
        by : (t : Bool) → n + pick t 1 2 ≤ begun → not t ≡ true → n + 1 < begun
        by true h w = clash false w refl
        by false h w = omega arith
    two_owed false p h e w = clash false e refl

    wait_owed : (flag : Bool) (p : Phase) → n + owed flag from p ≤ begun → flag ≡ false → waits p ≡ true → n < begun
    wait_owed true p h e w = clash true refl e
    wait_owed false Resting h e w = clash false w refl
    wait_owed false (Ready c x) h e w = clash false w refl
    wait_owed false (Waiting c x) h e w = omega arith

-- a waiting row owes one at least
pub waiting_owes : {from begun n : ℕ} {p : Phase} (flag : Bool) → Owing flag from begun n p → waits p ≡ true → n < begun
waiting_owes true o w = o.flagged refl
waiting_owes false o w = o.waiting refl w

pub says_swaps : (flag : Bool) (from begun : ℕ) (r : Row) → Says (swaps_right flag from begun r) (SwapsAt flag from begun r)
unfolding swaps_right
says_swaps flag from begun r =
    says_as
    (λ k. owed_le flag from begun r.swaps r.phase
    (record { most = k.0; flagged = λ e. (k.1.0 e).0; elsewhere = λ e. (k.1.0 e).1; waiting = k.1.1 }))
    (λ h. let w = owed_words flag from begun r.swaps r.phase h in
    (w.most, ((λ e. (w.flagged e, w.elsewhere e)), w.waiting)))
    (says_and (says_le _ _)
    (says_and (says_when (says_is flag) (says_and (says_lt _ _) (says_when (says_is (waits_elsewhere from r.phase)) (says_lt _ _))))
    (says_when (says_isnt flag) (says_when (says_is (waits r.phase)) (says_lt _ _)))))

-- the moved record's header, h, is flagged
abbrev pub Flag : Move → ℕ → Type 0
Flag v h = Early v × (h ≡ flagged v.from)

abbrev pub FlagUp : Move → List ℕ → Type 0
FlagUp v arena = Flag v (header arena v.from)

pub says_flag : (v : Move) (arena : List ℕ) → Says (flag_up v arena) (FlagUp v arena)
unfolding flag_up
says_flag v arena = says_and (says_holds (is_early v)) (says_eq _ _)

pub says_r8 : (v : Move) (begun : ℕ) (arena : List ℕ) (table : List Row) → Says (R8 v begun arena table) (SwapsRight v begun arena table)
unfolding R8
says_r8 v begun arena table =
    says_all (swaps_right (flag_up v arena) v.from begun) (SwapsAt (flag_up v arena) v.from begun)
    (says_swaps (flag_up v arena) v.from begun) table

-- A sound state: all eight
pub record Sound (s : State) : Type 0 where
  pub r1 : RecordsRight s.control.dir s.arena
  pub r2 : MoveRight s.control.dir s.control.mv s.arena
  pub r3 : CellsRight s.control.dir s.control.map s.control.mv s.arena
  pub r4 : HeadersRight s.control.dir s.control.mv s.arena
  pub r5 : NumbersRight s.control.mv s.arena
  pub r6 : RowsRight s.control.dir s.control.mv s.arena s.table
  pub r7 : CountsRight s.control.mv s.control.begun s.control.committed s.control.aborted
  pub r8 : SwapsRight s.control.mv s.control.begun s.arena s.table

-- the eight tests in order
abbrev pub rules : State → List Bool
rules s =
    let c = s.control in
    let a = s.arena in
    R1 c.dir a ∷ R2 c.dir c.mv a ∷ R3 c.dir c.map c.mv a ∷ R4 c.dir c.mv a ∷ R5 c.mv a
    ∷ R6 c.dir c.mv a s.table ∷ R7 c.mv c.begun c.committed c.aborted ∷ R8 c.mv c.begun a s.table ∷ []

-- element n of a list of tests is the first that fails
pub record IsFirst (l : List Bool) (n : ℕ) : Type 0 where
  pub before : (i : ℕ) → i < n → get_or l i true ≡ true
  pub fails : get_or l n true ≡ false

later : (l : List Bool) (n : ℕ) → IsFirst l n → IsFirst (true ∷ l) (suc n)
later l n f = record { before = at; fails = f.fails }
  where
    at : (i : ℕ) → i < suc n → get_or (true ∷ l) i true ≡ true
    at zero h = refl
    at (suc i) h = f.before i (omega arith)

first_false_lem : (k : ℕ) (l : List Bool) (n : ℕ) → IsFirst l n → first_false k l ≡ suc (k + n)
first_false_lem k [] n f = clash true refl f.fails
first_false_lem k (true ∷ l) zero f = clash true refl f.fails
first_false_lem k (false ∷ l) zero f = omega arith
first_false_lem k (true ∷ l) (suc n) f =
    first_false_lem (suc k) l n (record { before = λ i h. f.before (suc i) (omega arith); fails = f.fails }) ∙ omega arith
first_false_lem k (false ∷ l) (suc n) f = clash false (f.before 0 (omega arith)) refl

above : (k : ℕ) (l : List Bool) (n : ℕ) → first_false k l ≡ suc n → k ≤ n
above k [] n e = absurd (omega arith)
above k (true ∷ l) n e = let h = above (suc k) l n e in omega arith
above k (false ∷ l) n e = omega arith

false_first : (k : ℕ) (l : List Bool) (n : ℕ) → first_false k l ≡ suc (k + n) → IsFirst l n
false_first k [] n e = absurd (omega arith)
false_first k (true ∷ l) zero e = absurd (omega (arith, above (suc k) l (k + 0) e))
false_first k (true ∷ l) (suc n) e = later l n (false_first (suc k) l n (e ∙ omega arith))
false_first k (false ∷ l) zero e = record { before = λ i h. absurd (omega arith); fails = refl }
false_first k (false ∷ l) (suc n) e = absurd (omega arith)

none_fails : (k : ℕ) (l : List Bool) → first_false k l ≡ 0 → All (λ b. b ≡ true) l
none_fails k [] e = tt
none_fails k (true ∷ l) e = (refl, none_fails (suc k) l e)
none_fails k (false ∷ l) e = absurd (omega arith)

all_hold : (k : ℕ) (l : List Bool) → All (λ b. b ≡ true) l → first_false k l ≡ 0
all_hold k [] h = refl
all_hold k (true ∷ l) h = all_hold (suc k) l h.1
all_hold k (false ∷ l) h = clash false h.0 refl

-- the audit's value is n + 1 just where the n rules before hold and the next does not; it is 0 just where all eight hold
pub first_broken_lem : (s : State) (n : ℕ) → IsFirst (rules s) n → first_broken s ≡ suc n
unfolding first_broken
first_broken_lem s n f = first_false_lem 0 (rules s) n f ∙ omega arith

pub broken_first : (s : State) (n : ℕ) → first_broken s ≡ suc n → IsFirst (rules s) n
unfolding first_broken
broken_first s n e = false_first 0 (rules s) n (e ∙ omega arith)

pub sound_of : (s : State) → first_broken s ≡ 0 → Sound s
unfolding first_broken
sound_of s e = from (none_fails 0 (rules s) e)
  where
    from : All (λ b. b ≡ true) (rules s) → Sound s
    from k =
        let c = s.control in
        let a = s.arena in
        record {
          r1 = (says_r1 c.dir a).holds k.0;
          r2 = (says_r2 c.dir c.mv a).holds k.1.0;
          r3 = (says_r3 c.dir c.map c.mv a).holds k.1.1.0;
          r4 = (says_r4 c.dir c.mv a).holds k.1.1.1.0;
          r5 = (says_r5 c.mv a).holds k.1.1.1.1.0;
          r6 = (says_r6 c.dir c.mv a s.table).holds k.1.1.1.1.1.0;
          r7 = (says_r7 c.mv c.begun c.committed c.aborted).holds k.1.1.1.1.1.1.0;
          r8 = (says_r8 c.mv c.begun a s.table).holds k.1.1.1.1.1.1.1.0;
        }

pub sound_test : (s : State) → Sound s → first_broken s ≡ 0
unfolding first_broken
sound_test s S =
    let c = s.control in
    let a = s.arena in
    all_hold 0 (rules s) (
      (says_r1 c.dir a).test S.r1,
      (
        (says_r2 c.dir c.mv a).test S.r2,
        (
          (says_r3 c.dir c.map c.mv a).test S.r3,
          (
            (says_r4 c.dir c.mv a).test S.r4,
            (
              (says_r5 c.mv a).test S.r5,
              (
                (says_r6 c.dir c.mv a s.table).test S.r6,
                (
                  (says_r7 c.mv c.begun c.committed c.aborted).test S.r7,
                  ((says_r8 c.mv c.begun a s.table).test S.r8, tt),
                ),
              ),
            ),
          ),
        ),
      ),
    )
