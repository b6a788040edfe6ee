-- What is promised, in 01's words: demand 1 of any memory, demands 2 and 3 of every history, that is of any steps from fresh with what the
-- library answers to each, and what is kept of every sound state. No word of the arena, and no invariant, stands here.
use Rattle.std.specs.Prelude.{◌≡◌, true, List, [], ◌∷◌, ◌++◌, ℕ, suc, ◌+◌, ◌*◌, ◌≤◌, ◌<◌, get_or}
use Rattle.model.specs.declared.Access.TheVariants.{Read, Write}
use Rattle.model.specs.Arena.{words}
use Rattle.model.specs.Rows.{fresh_row}
use Rattle.model.specs.State.{State, number, value, Outcome, Sizes, number_of01, Answered}
use Rattle.model.specs.Choice.{Refusal, ◌if◌, applies}
use Rattle.model.specs.Steps.{Step, name_of, act, wrong_size, call_refusals, fresh_call, audit_call, fill_call, step_call, Ran, run_sizes}
use Rattle.model.specs.Steps.{run_refusals, run_call, one_by_one, steps_of}
use Rattle.model.specs.Table.{table}
use Rattle.model.specs.Rules.{first_broken}
use Rattle.demands.specs.Log.{Line, Log, reached_by, history_by, Pending, no_access, access_to, Account, client_of, said, answered}
use Rattle.demands.specs.Log.{answered_to, working_steps, last_moved, own_answers}

-- Demand 1. "Every request, on memory of any contents, ends with an answer. A bad one gets the refusal number that the specification
-- names; control record, arena and client table stay as they were." The whole table of refusals, for a step:
abbrev pub step_refusals : State → Step → List Refusal
step_refusals s t = call_refusals s ++ table s t (name_of t)

-- "The lowest number that applies is given, and none is given otherwise.": n is the answer's, below 20 a refusal's
pub record LowestGiven (lines : List Refusal) (n : ℕ) : Type 0 where
  pub lowest : (k : ℕ) → applies k lines ≡ true → n ≤ k
  pub applied : n < 20 → applies n lines ≡ true

-- a request on state s that these lines speak of
pub record Request (s : State) (lines : List Refusal) (o : Outcome) : Type 0 where
  pub kept : Answered s o
  pub lowest : LowestGiven lines (number o.answer)

-- "1 or 2 refuses the whole run and writes no answers"
pub record RunRequest (s : State) (lines : List Refusal) (slots : List ℕ) (r : Ran) : Type 0 where
  pub tabled : number_of01 (number r.answer) ≡ true
  pub unchanged : number r.answer < 20 → (value r.answer ≡ 0) × ((r.slots ≡ slots) × (r.next ≡ s))
  pub lowest : LowestGiven lines (number r.answer)

-- "Of refusals fresh and audit can give only 1, fill 1 and 2."
pub record EveryRequest (s : State) : Type 0 where
  pub fresh : Request s (1 if wrong_size s ∷ []) (fresh_call s)
  pub audit : Request s (1 if wrong_size s ∷ []) (audit_call s)
  pub fill : Request s (call_refusals s) (fill_call s)
  pub step : (t : Step) → Request s (step_refusals s t) (step_call s t)
  pub run : (ws slots : List ℕ) → RunRequest s (run_refusals s ws slots) slots (run_call s ws slots)

-- by the library's step: the state that some steps reach from fresh, and their history, the last step first
abbrev pub reached : List Step → State
reached l = reached_by step_call l

abbrev pub history : List Step → Log
history l = history_by step_call l

-- P holds of each line, beside the lines before it
abbrev pub EachLine : (Line → Log → Type 0) → Log → Type 0
EachLine P [] = Unit {0}
EachLine P (x ∷ before) = P x before × EachLine P before

-- Demand 2. "a finished read gives the value of the last finished write to that meter's word since the meter was admitted, or zero":
-- v is what a read of the pending access gives
abbrev pub LastWrite : Account → Pending → ℕ → Type 0
LastWrite g no_access v = ⊥
LastWrite g (access_to meter (Read h w)) v = v ≡ g.last_written meter w
LastWrite g (access_to meter (Write h w x)) v = ⊥

abbrev pub ReadRight : Line → Log → Type 0
ReadRight x before = number x.answer ≡ 34 → LastWrite (said before) (client_of (said before) x.step).pending (value x.answer)

abbrev pub ReadsLastWrite : Log → Type 0
ReadsLastWrite l = EachLine ReadRight l

-- a line answered 35 finishes a write
abbrev pub IsWrite : Pending → Type 0
IsWrite no_access = ⊥
IsWrite (access_to meter (Read h w)) = ⊥
IsWrite (access_to meter (Write h w x)) = Unit {0}

abbrev pub WriteRight : Line → Log → Type 0
WriteRight x before = number x.answer ≡ 35 → IsWrite (client_of (said before) x.step).pending

abbrev pub FinishesWrites : Log → Type 0
FinishesWrites l = EachLine WriteRight l

-- Demand 3. "no client slot has made more swaps than moves were begun"
abbrev pub SlotSwaps : Log → Type 0
SlotSwaps l = (client : ℕ) → answered_to (suc client) 33 l ≤ answered 21 l

-- "moves called off ≤ all swaps ≤ 8 × moves begun"
abbrev pub AllSwaps : Log → Type 0
AllSwaps l = (answered 26 l ≤ answered 33 l) × (answered 33 l ≤ 8 * answered 21 l)

-- "a finished access took two of the client's own accepted steps, or three if the first found the header flagged": before the step that is
-- answered 34 or 35 the client's own answers were 31, or 32 and then 33
pub data TwoOrThree (own : List ℕ) : Type 0 where
  two : (earlier : List ℕ) → own ≡ 31 ∷ earlier → TwoOrThree own
  three : (earlier : List ℕ) → own ≡ 33 ∷ (32 ∷ earlier) → TwoOrThree own

abbrev pub AccessPrice : Line → Log → Type 0
AccessPrice x before = 34 ≤ number x.answer → TwoOrThree (own_answers x.step.who before)

-- "a move of n words took n + 3 working steps if called off, n + 4 if completed and its old block given back": n goes by the kind of the
-- meter moved
abbrev pub moved_words : Log → ℕ
moved_words l = words ((said l).kind (last_moved l))

pub record MovePrice (x : Line) (before : Log) : Type 0 where
  pub called_off : number x.answer ≡ 26 → working_steps (x ∷ before) ≡ moved_words before + 3
  pub given_back : number x.answer ≡ 27 → working_steps (x ∷ before) ≡ moved_words before + 4

pub record Price (l : Log) : Type 0 where
  pub slot_swaps : SlotSwaps l
  pub all_swaps : AllSwaps l
  pub accesses : EachLine AccessPrice l
  pub moves : EachLine MovePrice l

-- the counts that the control record and the rows show are the history's
pub record CountsTrue (s : State) (l : Log) : Type 0 where
  pub begun : s.control.begun ≡ answered 21 l
  pub committed : s.control.committed ≡ answered 25 l
  pub aborted : s.control.aborted ≡ answered 26 l
  pub swaps : (i : ℕ) → (get_or s.table i fresh_row).swaps ≡ answered_to (suc i) 33 l

-- THE PROMISES
abbrev pub Demand1 : Type 0
Demand1 = (s : State) → EveryRequest s

abbrev pub Demand2 : Type 0
Demand2 = (l : List Step) → ReadsLastWrite (history l) × FinishesWrites (history l)

abbrev pub Demand3 : Type 0
Demand3 = (l : List Step) → Price (history l) × CountsTrue (reached l) (history l)

-- soundness is kept by every step, on every sound state, reached or not; and what is reached is sound
abbrev pub SoundKept : Type 0
SoundKept = (s : State) (t : Step) → Sizes s → first_broken s ≡ 0 → first_broken (act s t).next ≡ 0

abbrev pub ReachedSound : Type 0
ReachedSound = (l : List Step) → first_broken (reached l) ≡ 0

-- 32 bits are enough: on a sound state no count, and no row's swaps, wraps, so none falls
pub record NoneFalls (s next : State) : Type 0 where
  pub begun : s.control.begun ≤ next.control.begun
  pub committed : s.control.committed ≤ next.control.committed
  pub aborted : s.control.aborted ≤ next.control.aborted
  pub swaps : (i : ℕ) → (get_or s.table i fresh_row).swaps ≤ (get_or next.table i fresh_row).swaps

abbrev pub NoCountWraps : Type 0
NoCountWraps = (s : State) (t : Step) → Sizes s → first_broken s ≡ 0 → NoneFalls s (act s t).next

-- "A run of up to 4,096 steps .. checks soundness once and equals the steps one by one."
abbrev pub RunIsSteps : Type 0
RunIsSteps = (s : State) (ws slots : List ℕ) → Sizes s → run_sizes ws slots ≡ true → first_broken s ≡ 0
    → run_call s ws slots ≡ one_by_one step_call s (steps_of ws)
