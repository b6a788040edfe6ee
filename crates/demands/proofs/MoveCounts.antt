-- Demand 3, moves: the counts of the control record are the log's answers 21, 25 and 26, and the working steps of a move of n words
-- are n + 3 when it is called off and n + 4 when it is given back. Assumes nothing.
use mathlib.Core.Path.{◌≡◌, refl, ap, subst}
use mathlib.Core.Logic.{◌≢◌}
use mathlib.Core.List.{List, [], ◌∷◌}
use Prim.Native.Nat.{ℕ, ◌+◌, ◌≤◌}
use native.Mathlib.Omega.{arith}
use lib.Dec.{T, leb}
use borrow.Author.Tests.{ne_eqb, leb-true}
use Rattle.model.specs.declared.Answer.{Answer}
use Rattle.model.specs.declared.Answer.TheVariants.{Refused, Admitted, BarrierOpen, Done}
use Rattle.model.specs.declared.Move.{Move}
use Rattle.model.specs.Choice.{◌and◌}
use Rattle.model.specs.Arena.{words}
use Rattle.model.specs.declared.Stage.{Stage}
use Rattle.model.specs.declared.Stage.TheVariants.{NoMove, FirstBarrier, Copying, SecondBarrier, ThirdBarrier}
use Rattle.model.specs.State.{stage_of, in_hand, State, number, Outcome}
use Rattle.model.specs.Steps.{Step, act}
use Rattle.model.proofs.Choice.{by_test, and_parts}
use Rattle.demands.specs.Log.{line, Log, after, log, said, answered, working_steps, last_moved, Line}
use Rattle.demands.specs.Promises.{moved_words, MovePrice}
use Rattle.demands.proofs.Inv.{Inv}
use Rattle.demands.proofs.Did.{Did, refuses, stays, keeps, acts, Kept, admits, retires, begins, starts, copies, fills, commits}
use Rattle.demands.proofs.Did.{calls_off, gives_back, did_after}
use Rattle.demands.proofs.Counted.{did_counted}
use Rattle.demands.proofs.Copying.{count_at}
use Rattle.demands.proofs.Always.{always}

-- the working steps done by a move at each stage, n words being copied
abbrev Work : Stage → ℕ → ℕ → Type 0
Work NoMove n w = Unit {0}
Work FirstBarrier n w = w ≡ 1
Work Copying n w = w ≡ 2 + n
Work SecondBarrier n w = w ≡ 2 + n
Work ThirdBarrier n w = w ≡ 3 + n

record MovesTold (v : Move) (l : Log) : Type 0 where
  pub work : Work (stage_of v.stage) v.copied (working_steps l)
  pub meter : T (in_hand (stage_of v.stage)) → v.meter ≡ last_moved l

no_work : (t : Step) (x : Answer) (l : Log) → number x ≢ 21 → (23 ≤ number x → number x ≤ 27 → ⊥)
    → working_steps (line t x ∷ l) ≡ working_steps l
no_work t x l h n =
    rw (ne_eqb (number x) 21 h)
    (by_test (λ (k : ℕ). k ≡ working_steps l) (leb 23 (number x) and leb (number x) 27)
    (λ e. let b = and_parts (leb 23 (number x)) (leb (number x) 27) e in
    absurd (n (leb-true 23 (number x) b.0) (leb-true (number x) 27 b.1))) (λ _. refl))

-- a line that says nothing of moves
silent : {v : Move} {l : Log} (t : Step) (x : Answer) → number x ≢ 21 → (23 ≤ number x → number x ≤ 27 → ⊥)
    → MovesTold v l → MovesTold v (line t x ∷ l)
silent {l = l} t x h n m = record { work = rw (no_work t x l h n) m.work; meter = rw (ne_eqb (number x) 21 h) m.meter }

-- what the stage says
work_at : {v : Move} {l : Log} → MovesTold v l → (g : Stage) → stage_of v.stage ≡ g
    → Work g v.copied (working_steps l)
work_at {v = v} {l = l} m g e = subst (λ (x : Stage). Work x v.copied (working_steps l)) e m.work

meter_at : {v : Move} {l : Log} → MovesTold v l → (g : Stage) → stage_of v.stage ≡ g → T (in_hand g)
    → v.meter ≡ last_moved l
meter_at {v = v} m g e i = m.meter (rw e i)

kept_told : {s s' : State} {t : Step} {x : Answer} {l : Log} → Kept s t x s' → MovesTold s.control.mv l
    → MovesTold s'.control.mv (line t x ∷ l)
kept_told {t = t} (admits a k c _) m = silent t (Admitted c) (omega arith) (omega arith) m
kept_told {t = t} (retires _ _) m = silent t (Done 0) (omega arith) (omega arith) m
kept_told (begins c d _ up _) m = record { work = refl; meter = λ _. refl }
kept_told (starts e z) m = record { work = omega (arith, work_at m FirstBarrier e); meter = meter_at m FirstBarrier e }
kept_told (copies e up _) m = record { work = omega (arith, work_at m Copying e); meter = meter_at m Copying e }
kept_told (fills e up _) m = record { work = omega (arith, work_at m Copying e); meter = meter_at m Copying e }
kept_told (commits e up) m = record { work = omega (arith, work_at m SecondBarrier e); meter = meter_at m SecondBarrier e }
kept_told (calls_off e up _) m = record { work = tt; meter = λ z. absurd z }
kept_told (gives_back e) m = record { work = tt; meter = λ z. absurd z }

did_told : {Right : Answer → Type 0} {s : State} {t : Step} {o : Outcome} {l : Log} → Did Right s t o
    → MovesTold s.control.mv l → MovesTold o.next.control.mv (line t o.answer ∷ l)
did_told {t = t} (refuses {n = n} b) m = silent t (Refused n) (omega arith) (omega arith) m
did_told {t = t} (stays _) m = silent t BarrierOpen (omega arith) (omega arith) m
did_told (keeps _ _ _ _ k) m = kept_told k m
did_told {t = t} (acts {x = x} _ _ b _ _) m = silent t x (omega arith) (omega arith) m

moves_told : (l : List Step) → MovesTold (after l).control.mv (log l)
moves_told [] = record { work = tt; meter = λ z. absurd z }
moves_told (t ∷ l) = did_told (did_after l t) (moves_told l)

-- the counts of the control record
counts : (l : List Step)
    → ((after l).control.begun ≡ answered 21 (log l))
    × ((after l).control.committed ≡ answered 25 (log l))
    × ((after l).control.aborted ≡ answered 26 (log l))
counts [] = (refl, refl, refl)
counts (t ∷ l) = omega (arith, did_counted (did_after l t), counts l)

pub begun_is_answered : (l : List Step) → (after l).control.begun ≡ answered 21 (log l)
begun_is_answered l = (counts l).0

pub committed_is_answered : (l : List Step) → (after l).control.committed ≡ answered 25 (log l)
committed_is_answered l = (counts l).1

pub aborted_is_answered : (l : List Step) → (after l).control.aborted ≡ answered 26 (log l)
aborted_is_answered l = (counts l).2

-- every move that has ended or is past its commit was begun
pub moves_end_once : (l : List Step) → answered 25 (log l) + answered 26 (log l) ≤ answered 21 (log l)
moves_end_once l = omega (arith, counts l, (always {X = ⊥} l).r7)

-- the working steps of a move when it ends, called off or given back
unpriced : (x : Line) (l : Log) → number x.answer ≢ 26 → number x.answer ≢ 27 → MovePrice x l
unpriced x l a b = record { called_off = λ e. absurd (a e); given_back = λ e. absurd (b e) }

module _ {X : Type 0} {s : State} {l : Log} (I : Inv X s (said l)) (m : MovesTold s.control.mv l) where
  -- at the second and third barrier as many words are copied as the moved record has
  moved_words_lem : (b : Stage) → stage_of s.control.mv.stage ≡ b → T (in_hand b)
      → words ((said l).kind s.control.mv.meter) ≡ moved_words l
  moved_words_lem b e i = ap (λ (k : ℕ). words ((said l).kind k)) (meter_at m b e i)

  at_second : stage_of s.control.mv.stage ≡ SecondBarrier → working_steps l ≡ 2 + moved_words l
  at_second e = omega (arith, work_at m SecondBarrier e, count_at s (said l) I SecondBarrier e, moved_words_lem SecondBarrier e tt)

  at_third : stage_of s.control.mv.stage ≡ ThirdBarrier → working_steps l ≡ 3 + moved_words l
  at_third e = omega (arith, work_at m ThirdBarrier e, count_at s (said l) I ThirdBarrier e, moved_words_lem ThirdBarrier e tt)

  kept_priced : {s' : State} {t : Step} {x : Answer} → Kept s t x s' → MovePrice (line t x) l
  kept_priced (admits _ _ _ _) = unpriced _ l (omega arith) (omega arith)
  kept_priced (retires _ _) = unpriced _ l (omega arith) (omega arith)
  kept_priced (begins _ _ _ _ _) = unpriced _ l (omega arith) (omega arith)
  kept_priced (starts _ _) = unpriced _ l (omega arith) (omega arith)
  kept_priced (copies _ _ _) = unpriced _ l (omega arith) (omega arith)
  kept_priced (fills _ _ _) = unpriced _ l (omega arith) (omega arith)
  kept_priced (commits _ _) = unpriced _ l (omega arith) (omega arith)
  kept_priced (calls_off e _ _) = record { called_off = λ _. omega (arith, at_second e); given_back = λ z. absurd (omega arith) }
  kept_priced (gives_back e) = record { called_off = λ z. absurd (omega arith); given_back = λ _. omega (arith, at_third e) }

  did_priced : {Right : Answer → Type 0} {t : Step} {o : Outcome} → Did Right s t o → MovePrice (line t o.answer) l
  did_priced (refuses b) = unpriced _ l (omega arith) (omega arith)
  did_priced (stays _) = unpriced _ l (omega arith) (omega arith)
  did_priced (keeps _ _ _ _ k) = kept_priced k
  did_priced (acts _ _ b _ _) = unpriced _ l (omega arith) (omega arith)

pub move_price : (l : List Step) (t : Step) → MovePrice (line t (act (after l) t).answer) (log l)
move_price l t = did_priced (always {X = Unit {0}} l) (moves_told l) (did_after l t)
