-- 01, "A sound state": R1 to R8, each a test that computes, and the first that is broken.
use Rattle.std.specs.Prelude.{Bool, true, false, not, List, [], ◌∷◌, ℕ, suc, ◌+◌, eqb, ltb, leb}
use Rattle.model.specs.declared.Access.{Access}
use Rattle.model.specs.declared.Phase.{Phase}
use Rattle.model.specs.declared.Phase.TheVariants.{Resting, Ready, Waiting}
use Rattle.model.specs.declared.Row.{Row}
use Rattle.model.specs.declared.Move.{Move}
use Rattle.model.specs.Choice.{pick, ◌and◌, ◌or◌, ◌⇒◌, one, every, all, any, total}
use Rattle.model.specs.Arena.{none, header, plain, flagged, target_of, label, meter_of, cells_at, words_at, payload_at, used}
use Rattle.model.specs.Rows.{hold_of, word_of, busy, hold}
use Rattle.model.specs.declared.Stage.{Stage}
use Rattle.model.specs.declared.Stage.TheVariants.{NoMove, FirstBarrier, Copying, SecondBarrier, ThirdBarrier}
use Rattle.model.specs.State.{stage_of, entry, State}

-- an entry, or a hold, that names a cell
abbrev pub is_cell : ℕ → Bool
is_cell c = not (eqb c none)

-- "its first three stages"; "the third barrier"
abbrev pub early : Stage → Bool
early NoMove = false
early FirstBarrier = true
early Copying = true
early SecondBarrier = true
early ThirdBarrier = false

abbrev pub late : Stage → Bool
late NoMove = false
late FirstBarrier = false
late Copying = false
late SecondBarrier = false
late ThirdBarrier = true

abbrev pub is_early : Move → Bool
is_early v = early (stage_of v.stage)

abbrev pub is_late : Move → Bool
is_late v = late (stage_of v.stage)

-- R1 "Each present entry c: label matches its meter, kind read from it, record within 1,024 cells."
unfoldable pub record_right : List ℕ → List ℕ → ℕ → Bool
record_right dir arena m =
    is_cell (entry dir m)
    ⇒ (eqb (meter_of (label arena (entry dir m))) m and leb (entry dir m + cells_at arena (entry dir m)) 1024)

unfoldable pub R1 : List ℕ → List ℕ → Bool
R1 dir arena = every 256 (record_right dir arena)

-- R2 "A move in its first three stages names a present meter whose entry is the old cell, and a target block of its length within
-- the arena;" .. "Replica words 0 and 1 are right once copied."
unfoldable pub replica_right : Move → List ℕ → Bool
replica_right v arena =
    (ltb 0 v.copied ⇒ eqb (header arena v.target) (plain v.target))
    and (ltb 1 v.copied ⇒ eqb (label arena v.target) (label arena v.from))

unfoldable pub early_right : List ℕ → Move → List ℕ → Bool
early_right dir v arena =
    is_cell (entry dir v.meter)
    and eqb (entry dir v.meter) v.from
    and leb (v.target + cells_at arena v.from) 1024
    and replica_right v arena

-- .. "in the third barrier the entry is the target, and the old block has the same label and lies within the arena."
unfoldable pub late_right : List ℕ → Move → List ℕ → Bool
late_right dir v arena =
    is_cell (entry dir v.meter)
    and eqb (entry dir v.meter) v.target
    and eqb (label arena v.from) (label arena v.target)
    and leb (v.from + cells_at arena v.from) 1024

-- "a stage that is none" breaks R2 too
unfoldable pub R2 : List ℕ → Move → List ℕ → Bool
R2 dir v arena = ltb v.stage 5 and (is_early v ⇒ early_right dir v arena) and (is_late v ⇒ late_right dir v arena)

-- R3 "Used cells are exactly those of present records and of the move's other block; none lies in two.": each cell is covered by
-- as many blocks as its bit says.
-- 1 where cell x is one of the n cells from c on
unfoldable pub covers : ℕ → ℕ → ℕ → ℕ
covers c n x = one (leb c x and ltb x (c + n))

-- 1 where cell x lies in the record of an entry
unfoldable pub record_covers : List ℕ → ℕ → ℕ → ℕ
record_covers arena x c = pick (is_cell c) (covers c (cells_at arena c) x) 0

-- "the move's other block": the target in the first three stages, the old one in the third barrier
abbrev pub other_covers : Stage → Move → List ℕ → ℕ → ℕ
other_covers NoMove v arena x = 0
other_covers FirstBarrier v arena x = covers v.target (cells_at arena v.from) x
other_covers Copying v arena x = covers v.target (cells_at arena v.from) x
other_covers SecondBarrier v arena x = covers v.target (cells_at arena v.from) x
other_covers ThirdBarrier v arena x = covers v.from (cells_at arena v.from) x

unfoldable pub blocks_over : List ℕ → Move → List ℕ → ℕ → ℕ
blocks_over dir v arena x = total (record_covers arena x) dir + other_covers (stage_of v.stage) v arena x

unfoldable pub cell_right : List ℕ → List ℕ → Move → List ℕ → ℕ → Bool
cell_right dir map v arena x = eqb (blocks_over dir v arena x) (used map x)

unfoldable pub R3 : List ℕ → List ℕ → Move → List ℕ → Bool
R3 dir map v arena = every 1024 (cell_right dir map v arena)

-- R4 "Headers of present records are 2c; in the first three stages the moved one may be 2c + 1." ..
unfoldable pub header_right : List ℕ → Move → List ℕ → ℕ → Bool
header_right dir v arena m =
    is_cell (entry dir m)
    ⇒ (eqb (header arena (entry dir m)) (plain (entry dir m))
    or (is_early v and eqb m v.meter and eqb (header arena (entry dir m)) (flagged (entry dir m))))

-- .. "In the third barrier the old header is 2 × new."
unfoldable pub R4 : List ℕ → Move → List ℕ → Bool
R4 dir v arena = every 256 (header_right dir v arena) and (is_late v ⇒ eqb (header arena v.from) (plain v.target))

-- R5 "Words copied is below the record's words while copying; at the other stages, and with no move in hand, the move's numbers are
-- as said above."
abbrev pub numbers_right : Stage → Move → ℕ → Bool
numbers_right NoMove v n = eqb v.meter 0 and eqb v.from 0 and eqb v.target 0 and eqb v.copied 0
numbers_right FirstBarrier v n = eqb v.copied 0
numbers_right Copying v n = ltb v.copied n
numbers_right SecondBarrier v n = eqb v.copied n
numbers_right ThirdBarrier v n = eqb v.copied n

unfoldable pub R5 : Move → List ℕ → Bool
R5 v arena = numbers_right (stage_of v.stage) v (words_at arena v.from)

-- R6 "Unattached rows are as after DETACH." ..
unfoldable pub detached_right : Row → Bool
detached_right r = not r.attached ⇒ (r.passed and all (eqb none) r.holds and not (busy r.phase))

-- .. "A hold is empty, a present record, or the old block." ..
unfoldable pub hold_right : List ℕ → Move → ℕ → Bool
hold_right dir v h = eqb h none or any (eqb h) dir or (is_late v and eqb h v.from)

-- .. "A busy row's hold is filled, its word within the payload, a read's value 0;" (a read has no value) ..
unfoldable pub access_right : List ℕ → Row → Access → Bool
access_right arena r x = is_cell (hold r (hold_of x)) and ltb (word_of x) (payload_at arena (hold r (hold_of x)))

-- .. "waiting is on its hold's cell; ready is at its hold's cell or that header's target." ..
abbrev pub phase_right : List ℕ → Row → Phase → Bool
phase_right arena r Resting = true
phase_right arena r (Ready c x) =
    access_right arena r x and (eqb c (hold r (hold_of x)) or eqb c (target_of (header arena (hold r (hold_of x)))))
phase_right arena r (Waiting c x) = access_right arena r x and eqb c (hold r (hold_of x))

-- .. "In the third barrier a passed row holds no old block."
unfoldable pub passed_right : Move → Row → Bool
passed_right v r = is_late v ⇒ r.passed ⇒ not (any (eqb v.from) r.holds)

unfoldable pub row_right : List ℕ → Move → List ℕ → Row → Bool
row_right dir v arena r =
    detached_right r and all (hold_right dir v) r.holds and phase_right arena r r.phase and passed_right v r

unfoldable pub R6 : List ℕ → Move → List ℕ → List Row → Bool
R6 dir v arena table = all (row_right dir v arena) table

-- R7 "begun = committed + aborted, plus 1 during the first three stages."
unfoldable pub R7 : Move → ℕ → ℕ → ℕ → Bool
R7 v begun committed aborted = eqb begun (committed + aborted + one (is_early v))

-- R8 "Swaps ≤ begun. While a header is flagged, swaps < begun, and a row waiting on another record has swaps + 1 < begun. While none
-- is flagged, a waiting row has swaps < begun." By R4 the only header that can be flagged is the moved record's.
unfoldable pub flag_up : Move → List ℕ → Bool
flag_up v arena = is_early v and eqb (header arena v.from) (flagged v.from)

abbrev pub waits : Phase → Bool
waits Resting = false
waits (Ready c x) = false
waits (Waiting c x) = true

abbrev pub waits_elsewhere : ℕ → Phase → Bool
waits_elsewhere from Resting = false
waits_elsewhere from (Ready c x) = false
waits_elsewhere from (Waiting c x) = not (eqb c from)

unfoldable pub swaps_right : Bool → ℕ → ℕ → Row → Bool
swaps_right flag from begun r =
    leb r.swaps begun
    and (flag ⇒ ltb r.swaps begun and (waits_elsewhere from r.phase ⇒ ltb (r.swaps + 1) begun))
    and (not flag ⇒ waits r.phase ⇒ ltb r.swaps begun)

unfoldable pub R8 : Move → ℕ → List ℕ → List Row → Bool
R8 v begun arena table = all (swaps_right (flag_up v arena) v.from begun) table

-- "0 or the number of the first broken rule": a rule is asked only after those before it hold, n of them so far
abbrev pub first_false : ℕ → List Bool → ℕ
first_false n [] = 0
first_false n (right ∷ l) = pick right (first_false (suc n) l) (suc n)

unfoldable pub first_broken : State → ℕ
first_broken s =
    let c = s.control in
    let a = s.arena in
    first_false 0
    (R1 c.dir a ∷ R2 c.dir c.mv a ∷ R3 c.dir c.map c.mv a ∷ R4 c.dir c.mv a ∷ R5 c.mv a
    ∷ R6 c.dir c.mv a s.table ∷ R7 c.mv c.begun c.committed c.aborted ∷ R8 c.mv c.begun a s.table ∷ [])
