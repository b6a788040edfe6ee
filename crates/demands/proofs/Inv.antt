-- The invariant: the state against what the log says. Clauses `X → ..` are what demand 2 needs beyond R1 to R8: with X = Unit the
-- invariant gives demand 2, with X = ⊥ it is R1 to R8.
use mathlib.Core.Path.{◌≡◌}
use mathlib.Core.Logic.{◌≢◌}
use mathlib.Core.Bool.{true, false}
use mathlib.Core.List.{List}
use Prim.Native.Nat.{ℕ, suc, ◌+◌, ◌^◌, ◌≤◌, ◌<◌}
use lib.ListN.{length, get_or}
use Rattle.model.specs.declared.Access.{Access}
use Rattle.model.specs.declared.Phase.{Phase}
use Rattle.model.specs.declared.Phase.TheVariants.{Resting, Ready, Waiting}
use Rattle.model.specs.declared.Row.{Row}
use Rattle.model.specs.declared.Move.{Move}
use Rattle.model.specs.Choice.{one}
use Rattle.model.specs.Arena.{cells, words, payload, none, word, header, plain, label, label_of, IsMap}
use Rattle.model.specs.Rows.{hold_of, word_of, hold, fresh_row}
use Rattle.model.specs.State.{stage_of, no_move, entry, State}
use Rattle.model.specs.Rules.{is_early}
use Rattle.model.proofs.Readings.{Flag, FlagUp, HeaderRight, Early, Late, NumbersAt}
use Rattle.demands.specs.Log.{no_access, access_to, Client, Account}
use Rattle.demands.proofs.Stages.{Idle, First}
use Rattle.demands.proofs.Owners.{other, Owns, Mapped}

-- R6: a hold is empty, a present record, or the old block; h is its cell, m the meter that it was opened on
pub data HoldOk (dir : List ℕ) (v : Move) (h m : ℕ) : Type 0 where
  empty : h ≡ none → HoldOk dir v h m
  here : h < 1024 → entry dir m ≡ h → HoldOk dir v h m
  was : Late v → h ≡ v.from → m ≡ v.meter → HoldOk dir v h m

-- a ready row stands at the meter's entry, or at its hold's cell
pub data Place (dir : List ℕ) (h m c : ℕ) : Type 0 where
  at_entry : entry dir m ≡ c → Place dir h m c
  at_hold : h ≡ c → Place dir h m c

-- the access of a busy row: it is the log's, and fits the record; its hold's cell is h
pub record Asked (kind : ℕ → ℕ) (h : ℕ) (q : Client) (x : Access) : Type 0 where
  pub pending : q.pending ≡ access_to (q.opened (hold_of x)) x
  pub fits : word_of x < payload (kind (q.opened (hold_of x)))
  pub filled : h ≢ none

-- once the first barrier is passed and while the header is flagged, no row is ready at the old block
pub record ReadyOk (X : Type 0) (dir : List ℕ) (v : Move) (kind : ℕ → ℕ) (h : ℕ) (r : Row) (q : Client) (c : ℕ) (x : Access) : Type 0 where
  pub asked : Asked kind (hold r (hold_of x)) q x
  pub place : Place dir (hold r (hold_of x)) (q.opened (hold_of x)) c
  pub newest : X → entry dir (q.opened (hold_of x)) ≡ c
  pub away : X → Flag v h → (First v → r.passed ≡ true) → c ≢ v.from

pub record WaitingOk (v : Move) (kind : ℕ → ℕ) (h begun : ℕ) (r : Row) (q : Client) (c : ℕ) (x : Access) : Type 0 where
  pub asked : Asked kind (hold r (hold_of x)) q x
  pub held : c ≡ hold r (hold_of x)
  pub owes : r.swaps < begun
  pub elsewhere : Flag v h → c ≢ v.from → suc r.swaps < begun

pub data PhaseOk (X : Type 0) (dir : List ℕ) (v : Move) (kind : ℕ → ℕ) (h begun : ℕ) (r : Row) (q : Client) : Phase → Type 0 where
  rests : q.pending ≡ no_access → PhaseOk X dir v kind h begun r q Resting
  ready : {c : ℕ} {x : Access} → ReadyOk X dir v kind h r q c x → PhaseOk X dir v kind h begun r q (Ready c x)
  waits : {c : ℕ} {x : Access} → WaitingOk v kind h begun r q c x → PhaseOk X dir v kind h begun r q (Waiting c x)

-- R6: "Unattached rows are as after DETACH."
pub record Detached (r : Row) : Type 0 where
  pub passed : r.passed ≡ true
  pub empty : (i : ℕ) → hold r i ≡ none
  pub rests : r.phase ≡ Resting

-- R6 and R8 for one row; h is the header of the old block
pub record RowOk (X : Type 0) (dir : List ℕ) (v : Move) (kind : ℕ → ℕ) (h begun : ℕ) (r : Row) (q : Client) : Type 0 where
  pub four : length r.holds ≡ 4
  pub holds : (i : ℕ) → HoldOk dir v (hold r i) (q.opened i)
  pub detached : r.attached ≡ false → Detached r
  pub passed : Late v → r.passed ≡ true → (i : ℕ) → hold r i ≢ v.from
  pub le : r.swaps ≤ begun
  pub lt : Flag v h → r.swaps < begun
  pub phase : PhaseOk X dir v kind h begun r q r.phase

-- R1, R4 and demand 2 for one record: meter m's, at cell c
pub record EntryOk (X : Type 0) (v : Move) (arena : List ℕ) (val : ℕ → ℕ → ℕ) (kind own : ℕ → ℕ) (m c : ℕ) : Type 0 where
  pub kinded : kind m < 4
  pub range : c + cells (kind m) ≤ 1024
  pub label : label arena c ≡ label_of m (kind m)
  pub owns : Owns own m c (cells (kind m))
  pub head : HeaderRight v m c (header arena c)
  pub vals : X → (w : ℕ) → w < payload (kind m) → word arena c (2 + w) ≡ val m w

-- the two blocks of a move: the moved meter's entry, and "the move's other block"
pub data Sides (v : Move) : ℕ → ℕ → Type 0 where
  early : Early v → Sides v v.from v.target
  late : Late v → Sides v v.target v.from

-- R2: the entry is c, the other block lies at d
pub record SidesOk (dir : List ℕ) (v : Move) (kind own : ℕ → ℕ) (c d : ℕ) : Type 0 where
  pub home : entry dir v.meter ≡ c
  pub inside : c < 1024
  pub range : d + cells (kind v.meter) ≤ 1024
  pub owns : Owns own other d (cells (kind v.meter))

-- R3: the block that cell x lies in, i being its owner
pub data Block (dir : List ℕ) (v : Move) (kind : ℕ → ℕ) (x i : ℕ) : Type 0 where
  in_entry : entry dir i ≢ none → entry dir i ≤ x → x < entry dir i + cells (kind i) → Block dir v kind x i
  in_other : {c d : ℕ} → Sides v c d → i ≡ other → d ≤ x → x < d + cells (kind v.meter) → Block dir v kind x i

-- R1 to R5
pub record Core (X : Type 0) (dir map : List ℕ) (v : Move) (arena : List ℕ) (val : ℕ → ℕ → ℕ) (kind own : ℕ → ℕ) : Type 0 where
  pub entries256 : length dir ≡ 256
  pub words8192 : length arena ≡ 8192
  pub is_map : IsMap map
  pub entries : (m : ℕ) → entry dir m ≢ none → EntryOk X v arena val kind own m (entry dir m)
  pub mapped : Mapped own map
  pub owned : (x : ℕ) → own x ≢ none → Block dir v kind x (own x)
  pub idle : Idle v → v ≡ no_move
  pub sides : {c d : ℕ} → Sides v c d → SidesOk dir v kind own c d
  pub count : NumbersAt (stage_of v.stage) v (words (kind v.meter))
  pub old_head : Late v → header arena v.from ≡ plain v.target
  pub old_label : Late v → label arena v.from ≡ label_of v.meter (kind v.meter)
  pub replica_head : Early v → 0 < v.copied → header arena v.target ≡ plain v.target
  pub replica_label : Early v → 1 < v.copied → label arena v.target ≡ label_of v.meter (kind v.meter)
  pub replica : X → FlagUp v arena → (k : ℕ) → 0 < k → k < v.copied → word arena v.target k ≡ word arena v.from k

-- the row at place i of the table, against the log's client i
abbrev pub Rows : Type 0 → List ℕ → Move → (ℕ → ℕ) → ℕ → ℕ → List Row → (ℕ → Client) → Type 0
Rows X dir v kind h begun table clients = (i : ℕ) → RowOk X dir v kind h begun (get_or table i fresh_row) (clients i)

pub record Inv (X : Type 0) (s : State) (g : Account) : Type 0 where
  pub own : ℕ → ℕ
  pub core : Core X s.control.dir s.control.map s.control.mv s.arena g.last_written g.kind own
  pub eight : length s.table ≡ 8
  pub rows : Rows X s.control.dir s.control.mv g.kind (header s.arena s.control.mv.from) s.control.begun
      s.table g.clients
  pub r7 : s.control.begun ≡ s.control.committed + s.control.aborted + one (is_early s.control.mv)
  pub small : s.control.begun < 2 ^ 32
