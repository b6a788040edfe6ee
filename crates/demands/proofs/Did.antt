-- The ways a step can go, found once; each count and promise is then read off them. Assumes nothing.
use mathlib.Core.Path.{◌≡◌, refl}
use mathlib.Core.Logic.{◌≢◌}
use mathlib.Core.Bool.{true, false, not}
use mathlib.Core.List.{List}
use Prim.Native.Nat.{ℕ, suc, pred, ◌+◌, ◌*◌, ◌≤◌, ◌<◌}
use native.Mathlib.Omega.{arith}
use lib.Dec.{T, eqb, ltb}
use lib.ListN.{set, get_or}
use borrow.Author.Tests.{eqb-false, ltb-true}
use Rattle.model.specs.declared.Access.{Access}
use Rattle.model.specs.declared.Access.TheVariants.{Read, Write}
use Rattle.model.specs.declared.Answer.{Answer}
use Rattle.model.specs.declared.Answer.TheVariants.{Admitted, Begun, BarrierOpen, CopyingStarts, Copied, Committed, CalledOff, GivenBack}
use Rattle.model.specs.declared.Answer.TheVariants.{Done, Got, Written}
use Rattle.model.specs.declared.Phase.{Phase}
use Rattle.model.specs.declared.Phase.TheVariants.{Resting, Ready, Waiting}
use Rattle.model.specs.declared.Row.{Row}
use Rattle.model.specs.declared.Move.{Move}
use Rattle.model.specs.declared.Stepped.{Stepped}
use Rattle.model.specs.Arena.{cells, none, place, word, header, flagged, flag_of, cells_at, words_at, lowest_run}
use Rattle.model.specs.Rows.{hold_of, word_of, is_write, busy, hold, clear_marks, all_passed, fresh_row}
use Rattle.model.specs.declared.Stage.{Stage}
use Rattle.model.specs.declared.Stage.TheVariants.{NoMove, FirstBarrier, Copying, SecondBarrier, ThirdBarrier}
use Rattle.model.specs.State.{stage_of, rise, entry, State, with_arena}
use Rattle.model.specs.State.{with_row, number, value, Outcome, outcome}
use Rattle.model.specs.KeeperSteps.{admit, retire, begin, barrier, start_copying, copied, copy_word, commit, call_off, settle, give_back}
use Rattle.model.specs.KeeperSteps.{advance}
use Rattle.model.specs.ClientSteps.{at_header, load_header, swap, finish, go}
use Rattle.model.specs.Rules.{is_early}
use Rattle.model.specs.Choice.{Refusal, refuse}
use Rattle.model.specs.Steps.{Step, Name, ADMIT, RETIRE, BEGIN, ADVANCE, ATTACH, DETACH, OPEN, DROP, READ, WRITE, GO, REST, UNKNOWN, NOBODY}
use Rattle.model.specs.Steps.{name_of, own_row, refusals, seated, effect, refused, act}
use Rattle.model.proofs.Choice.{by_test, clash}
use Rattle.model.proofs.Parties.{of_keeper, of_client, keeper_who, client_who}
use Rattle.model.proofs.Counts.{rise_is}
use Rattle.model.proofs.Refusals.{Passed, numbers, each, by_refusals}
use Rattle.model.proofs.Readings.{Early}
use Rattle.model.proofs.Says.{says_holds, one_yes}
use Rattle.demands.specs.Log.{access_to, Account, client_of, after, log, said}
use Rattle.demands.proofs.Stages.{Idle, idle_of}
use Rattle.demands.proofs.Inv.{rests, ready, waits, Inv, early}
use Rattle.demands.proofs.Blocks.{entry_range, home_real}
use Rattle.demands.proofs.RowLaws.{old_header, PhaseIn, ReadyIn, phase_rests, row_in, cleared_get}
use Rattle.demands.proofs.Entries.{stored_head}
use Rattle.demands.proofs.Finishes.{home_head, spot_of, read_right}
use Rattle.demands.proofs.Copying.{count_at, from_word}
use Rattle.demands.proofs.Admits.{side_word, admission}
use Rattle.demands.proofs.Always.{always}

-- a client's row r before its step, the answer x, and the row r' then; `Right` is what is said of the answer that ends an access
pub data Turn (Right : Answer → Type 0) (r : Row) (x : Answer) (r' : Row) : Type 0 where
  handles : number x ≡ 30 → r'.swaps ≡ r.swaps → r'.phase ≡ Resting → Turn Right r x r'
  readies : {c : ℕ} {y : Access} → number x ≡ 31 → r'.swaps ≡ r.swaps → r'.phase ≡ Ready c y → Turn Right r x r'
  waits_on : {c : ℕ} {y : Access} → number x ≡ 32 → r'.swaps ≡ r.swaps → r'.phase ≡ Waiting c y → Turn Right r x r'
  swaps : {c d : ℕ} {y : Access} → number x ≡ 33 → r'.swaps ≡ suc r.swaps → r.phase ≡ Waiting c y → r'.phase ≡ Ready d y
      → Turn Right r x r'
  ends : {c : ℕ} {y : Access} → 34 ≤ number x → number x ≤ 35 → r'.swaps ≡ r.swaps → r.phase ≡ Ready c y → r'.phase ≡ Resting
      → Right x → Turn Right r x r'

-- the keeper's accepted steps that are not answered 22
pub data Kept (s : State) (t : Step) : Answer → State → Type 0 where
  admits : (m k c : ℕ) → (Early s.control.mv → header (admit s m k c).next.arena s.control.mv.from ≡ old_header s)
      → Kept s t (Admitted c) (admit s m k c).next
  retires : (m c : ℕ) → Kept s t (Done 0) (retire s m c).next
  begins : (c d : ℕ) → Idle s.control.mv → rise s.control.begun ≡ suc s.control.begun
      → header (set s.arena (place c 0) (flagged c)) c ≡ flagged c → Kept s t (Begun d) (begin s t.a c d).next
  starts : stage_of s.control.mv.stage ≡ FirstBarrier → s.control.mv.copied ≡ 0 → Kept s t CopyingStarts (start_copying s).next
  copies : stage_of s.control.mv.stage ≡ Copying → rise s.control.mv.copied ≡ suc s.control.mv.copied
      → header (copied s Copying s.table).next.arena s.control.mv.from ≡ old_header s
      → Kept s t (Copied (rise s.control.mv.copied)) (copied s Copying s.table).next
  fills : stage_of s.control.mv.stage ≡ Copying → rise s.control.mv.copied ≡ suc s.control.mv.copied
      → header (copied s Copying s.table).next.arena s.control.mv.from ≡ old_header s
      → Kept s t (Copied (rise s.control.mv.copied)) (copied s SecondBarrier (clear_marks s.table)).next
  commits : stage_of s.control.mv.stage ≡ SecondBarrier → rise s.control.committed ≡ suc s.control.committed
      → Kept s t (Committed s.control.mv.target) (commit s).next
  calls_off : stage_of s.control.mv.stage ≡ SecondBarrier → rise s.control.aborted ≡ suc s.control.aborted
      → old_header s ≢ flagged s.control.mv.from → Kept s t CalledOff (call_off s).next
  gives_back : stage_of s.control.mv.stage ≡ ThirdBarrier → Kept s t GivenBack (give_back s).next

-- the rows stay, or their marks are cleared
pub data SameRows (k : List Row) : List Row → Type 0 where
  same : SameRows k k
  cleared : SameRows k (clear_marks k)

-- what they keep of a row
pub record SameRow (r r' : Row) : Type 0 where
  pub swaps : r'.swaps ≡ r.swaps
  pub phase : r'.phase ≡ r.phase

pub same_row : {k k' : List Row} → SameRows k k' → (i : ℕ) → SameRow (get_or k i fresh_row) (get_or k' i fresh_row)
same_row same i = record { swaps = refl; phase = refl }
same_row {k} cleared i = rw (cleared_get k i) (record { swaps = refl; phase = refl })

pub data Did (Right : Answer → Type 0) (s : State) (t : Step) : Outcome → Type 0 where
  refuses : {n : ℕ} → n < 20 → Did Right s t (refused s n)
  stays : t.who ≡ 0 → Did Right s t (outcome BarrierOpen s)
  keeps : {x : Answer} {s' : State} → t.who ≡ 0 → 20 ≤ number x → number x < 31 → SameRows s.table s'.table → Kept s t x s'
      → Did Right s t (outcome x s')
  acts : {x : Answer} {r : Row} {arena : List ℕ} → 0 < t.who → t.who ≤ 8 → 30 ≤ number x
      → (Early s.control.mv → number x ≢ 33 → header arena s.control.mv.from ≡ old_header s) → Turn Right (own_row s t) x r
      → Did Right s t (outcome x (with_arena (with_row s t.who r) arena))

-- an answer from 34 on ends the access that the client's row is ready for
pub record Ended (Right : Answer → Type 0) (s : State) (t : Step) (x : Answer) : Type 0 where
  pub client : 0 < t.who
  pub at : ℕ
  pub access : Access
  pub ready : (own_row s t).phase ≡ Ready at access
  pub right : Right x

turn_ended : {Right : Answer → Type 0} {s : State} {t : Step} {x : Answer} {r : Row} → 0 < t.who → Turn Right (own_row s t) x r
    → 34 ≤ number x → Ended Right s t x
turn_ended b (handles e _ _) n = absurd (omega arith)
turn_ended b (readies e _ _) n = absurd (omega arith)
turn_ended b (waits_on e _ _) n = absurd (omega arith)
turn_ended b (swaps e _ _ _) n = absurd (omega arith)
turn_ended b (ends _ _ _ q _ right) n = record { client = b; at = _; access = _; ready = q; right = right }

pub did_ended : {Right : Answer → Type 0} {s : State} {t : Step} {o : Outcome} → Did Right s t o → 34 ≤ number o.answer
    → Ended Right s t o.answer
did_ended (refuses b) n = absurd (omega arith)
did_ended (stays _) n = absurd (omega arith)
did_ended (keeps _ _ b _ _) n = absurd (omega arith)
did_ended (acts b _ _ _ u) n = turn_ended b u n

-- what is said of the answers 34 and 35: they end the access that the log says is open, a read or a write; and a read's value is the last
-- one written
pub record Finished (X : Type 0) (g : Account) (t : Step) (x : Answer) : Type 0 where
  pub meter : ℕ
  pub access : Access
  pub pending : (client_of g t).pending ≡ access_to meter access
  pub writes : is_write access ≡ eqb (number x) 35
  pub last : X → number x ≡ 34 → value x ≡ g.last_written meter (word_of access)

module _ {X : Type 0} (s : State) (g : Account) (t : Step) (I : Inv X s g) where
  abbrev v : Move
  v = s.control.mv

  abbrev D : Outcome → Type 0
  D = Did (Finished X g t) s t

  unless : (l : List Refusal) (o : Outcome) → T (numbers (λ n. ltb n 20) l) → (Passed l → D o) → D (refuse l (refused s) o)
  unless l o low f = by_refusals D l (refused s) o (each (λ n. D (refused s n)) (λ n. ltb n 20) l (λ n e. refuses (ltb-true n 20 e)) low) f

  module _ (k : t.who ≡ 0) where
    beyond : (o : Outcome) → D o → D (barrier s o)
    unfolding barrier
    beyond o f = by_test D (all_passed s.table) (λ _. f) (λ _. stays k)

    settled : stage_of v.stage ≡ SecondBarrier → D (settle s)
    unfolding settle
    settled e =
        let r7 = I.r7 in
        let now = one_yes (says_holds (is_early v)) (rw e tt) in
        by_test D (eqb (header s.arena v.from) (flagged v.from))
        (λ _. keeps k (omega arith) (omega arith) cleared
        (commits e (rise_is s.control.committed s.control.begun (omega arith) I.small)))
        (λ y. keeps k (omega arith) (omega arith) same
        (calls_off e (rise_is s.control.aborted s.control.begun (omega arith) I.small)
        (eqb-false (header s.arena v.from) (flagged v.from) y)))

    copying_word : stage_of v.stage ≡ Copying → D (copy_word s)
    unfolding copy_word
    copying_word e =
        let l : Early v = rw e tt in
        let z = home_real I.core (early l) in
        let more : v.copied < 8 * cells (g.kind v.meter) = omega (arith, count_at s g I Copying e) in
        let up : rise v.copied ≡ suc v.copied = rise_is v.copied 64 (omega arith) (omega arith) in
        let head = from_word I.core l more 0 (omega arith) in
        by_test D (eqb (rise v.copied) (words_at s.arena v.from))
        (λ _. keeps k (omega arith) (omega arith) cleared (fills e up head))
        (λ _. keeps k (omega arith) (omega arith) same (copies e up head))

    by_stage : (n : Stage) → stage_of v.stage ≡ n → D (advance s n)
    by_stage NoMove e = refuses {n = 9} (omega arith)
    by_stage FirstBarrier e = beyond (start_copying s) (keeps k (omega arith) (omega arith) same (starts e (count_at s g I FirstBarrier e)))
    by_stage Copying e = copying_word e
    by_stage SecondBarrier e = beyond (settle s) (settled e)
    by_stage ThirdBarrier e = beyond (give_back s) (keeps k (omega arith) (omega arith) same (gives_back e))

    admitting : Passed (refusals ADMIT s t) → D (effect ADMIT s t)
    admitting p =
        let c : ℕ = lowest_run s.control.map (cells t.b) in
        let A = admission s t p in
        keeps {x = Admitted c} k (omega arith) (omega arith) same (admits t.a t.b c
        (λ l. let z = home_real I.core (early l) in
        (side_word I.core t.a t.b c A.meter A.kind A.absent A.run (early l) 0 (omega arith)).0))

    beginning : Passed (refusals BEGIN s t) → D (effect BEGIN s t)
    beginning p =
        let c : ℕ = entry s.control.dir t.a in
        let present : c ≢ none = eqb-false c none p.1.1.0 in
        let more : s.control.begun ≢ 4294967295 = eqb-false s.control.begun 4294967295 p.1.1.1.1.0 in
        let d : ℕ = lowest_run s.control.map (cells_at s.arena c) in
        keeps {x = Begun d} k (omega arith) (omega arith) cleared (begins c d (idle_of v p.1.0)
        (rise_is s.control.begun 4294967295 (omega (arith, I.small)) (omega arith))
        (stored_head I.core t.a c refl (entry_range I.core t.a present) (flagged c)))

  module _ (w : (0 < t.who) × (t.who ≤ 8)) where
    seat : pred t.who < 8
    seat = omega arith

    abbrev S : Stepped → Type 0
    S o = D (seated s t o)

    loading : (y : Access) → S (load_header s.arena (own_row s t) y)
    unfolding at_header
    loading y =
        by_test S (flag_of (header s.arena (hold (own_row s t) (hold_of y))))
        (λ _. acts w.0 w.1 (omega arith) (λ _ _. refl) (waits_on refl refl refl))
        (λ _. acts w.0 w.1 (omega arith) (λ _ _. refl) (readies refl refl refl))

    swapping : {c : ℕ} {y : Access} → (own_row s t).phase ≡ Waiting c y → (own_row s t).swaps < s.control.begun
        → S (swap s.arena (own_row s t) c y)
    unfolding swap
    swapping {c} {y} e b =
        let up : rise (own_row s t).swaps ≡ suc (own_row s t).swaps = rise_is (own_row s t).swaps s.control.begun b I.small in
        by_test S (eqb (header s.arena c) (flagged c))
        (λ _. acts w.0 w.1 (omega arith) (λ _ n. absurd (n refl)) (swaps refl up e refl))
        (λ _. acts w.0 w.1 (omega arith) (λ _ n. absurd (n refl)) (swaps refl up e refl))

    finishing : (c : ℕ) (y : Access) → (own_row s t).phase ≡ Ready c y
        → ReadyIn X s g t c y → S (finish s.arena (own_row s t) c y)
    finishing c (Read h i) e W =
        acts {x = Got (word s.arena c (2 + i))} w.0 w.1 (omega arith) (λ _ _. refl)
        (ends (omega arith) (omega arith) refl e refl
        (record {
          meter = (client_of g t).opened h;
          access = Read h i;
          pending = W.asked.pending;
          writes = refl;
          last =
              λ x _. read_right s g t I seat x W;
        }))
    finishing c (Write h i u) e W =
        let P = spot_of s g t I seat c (Write h i u) W in
        acts {x = Written} w.0 w.1 (omega arith)
        (λ l _. home_head I.core P.0 ((client_of g t).opened h) c i u P.1 W.asked.fits l)
        (ends (omega arith) (omega arith) refl e refl
        (record {
          meter = (client_of g t).opened h;
          access = Write h i u;
          pending = W.asked.pending;
          writes = refl;
          last = λ _ z. absurd
              (omega arith);
        }))

    going : {p : Phase} → (own_row s t).phase ≡ p → PhaseIn X s g t p → not (busy p) ≡ false → S (go s.arena (own_row s t) p)
    going e (rests _) b = clash true refl b
    going e (ready {c = c} {x = y} W) b = finishing c y e W
    going e (waits W) b = swapping e W.owes

    handled : (r : Row) → r.swaps ≡ (own_row s t).swaps → r.phase ≡ Resting → D (outcome (Done 0) (with_row s t.who r))
    handled r a b = acts {x = Done 0} w.0 w.1 (omega arith) (λ _ _. refl) (handles refl a b)

  resting : busy (own_row s t).phase ≡ false → (own_row s t).phase ≡ Resting
  resting b = (phase_rests (row_in I t).phase b).0

  by_name : (n : Name) → (of_keeper n ≡ true → t.who ≡ 0) → (of_client n ≡ true → (0 < t.who) × (t.who ≤ 8))
      → D (refuse (refusals n s t) (refused s) (effect n s t))
  by_name ADMIT k w = unless (refusals ADMIT s t) (effect ADMIT s t) tt (admitting (k refl))
  by_name RETIRE k w = unless (refusals RETIRE s t) (effect RETIRE s t) tt
      (λ _. keeps (k refl) (omega arith) (omega arith) same (retires _ _))
  by_name BEGIN k w = unless (refusals BEGIN s t) (effect BEGIN s t) tt (beginning (k refl))
  by_name ADVANCE k w = unless (refusals ADVANCE s t) (effect ADVANCE s t) tt (λ _. by_stage (k refl) (stage_of v.stage) refl)
  by_name ATTACH k w = unless (refusals ATTACH s t) (effect ATTACH s t) tt
      (λ p. handled (w refl) _ refl ((row_in I t).detached p.0).rests)
  by_name DETACH k w = unless (refusals DETACH s t) (effect DETACH s t) tt (λ p. handled (w refl) _ refl (resting p.1.0))
  by_name OPEN k w = unless (refusals OPEN s t) (effect OPEN s t) tt (λ p. handled (w refl) _ refl (resting p.1.1.1.0))
  by_name DROP k w = unless (refusals DROP s t) (effect DROP s t) tt (λ p. handled (w refl) _ refl (resting p.1.1.0))
  by_name READ k w = unless (refusals READ s t) (effect READ s t) tt (λ _. loading (w refl) (Read t.a t.b))
  by_name WRITE k w = unless (refusals WRITE s t) (effect WRITE s t) tt (λ _. loading (w refl) (Write t.a t.b t.v))
  by_name GO k w = unless (refusals GO s t) (effect GO s t) tt (λ p. going (w refl) refl (row_in I t).phase p.1.0)
  by_name REST k w = unless (refusals REST s t) (effect REST s t) tt (λ p. handled (w refl) _ refl (resting p.1.0))
  by_name UNKNOWN k w = refuses {n = 4} (omega arith)
  by_name NOBODY k w = refuses {n = 3} (omega arith)

  pub did : Did (Finished X g t) s t (act s t)
  unfolding act
  did = by_name (name_of t) (keeper_who t.who t.code) (client_who t.who t.code)

-- after any steps from fresh
pub did_after : (l : List Step) (t : Step) → Did (Finished (Unit {0}) (said (log l)) t) (after l) t (act (after l) t)
did_after l t = did (after l) (said (log l)) t (always l)
