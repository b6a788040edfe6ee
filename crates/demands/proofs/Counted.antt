-- What a step does to the counts of the control record: begun, committed and aborted rise by one with the answers 21, 25 and 26, and else
-- stay. Assumes nothing.
use mathlib.Core.Path.{◌≡◌}
use mathlib.Core.Logic.{◌≢◌}
use Prim.Native.Nat.{ℕ, ◌+◌}
use native.Mathlib.Omega.{arith}
use lib.Dec.{eqb}
use borrow.Author.Tests.{ne_eqb}
use Rattle.model.specs.declared.Answer.{Answer}
use Rattle.model.specs.declared.Answer.TheVariants.{Refused, BarrierOpen}
use Rattle.model.specs.Choice.{one}
use Rattle.model.specs.State.{State, number, Outcome}
use Rattle.model.specs.Steps.{Step}
use Rattle.demands.proofs.Did.{Kept, admits, retires, begins, starts, copies, fills, commits, calls_off, gives_back, Did, refuses}
use Rattle.demands.proofs.Did.{stays, keeps, acts}

-- 1 for the answer n
abbrev pub hits : ℕ → Answer → ℕ
hits n x = one (eqb (number x) n)

abbrev pub Counted : State → Answer → State → Type 0
Counted s x s' =
    (s'.control.begun ≡ hits 21 x + s.control.begun)
    × (s'.control.committed ≡ hits 25 x + s.control.committed)
    × (s'.control.aborted ≡ hits 26 x + s.control.aborted)

kept_counted : {s s' : State} {t : Step} {x : Answer} → Kept s t x s' → Counted s x s'
kept_counted (admits _ _ _ _) = omega arith
kept_counted (retires _ _) = omega arith
kept_counted (begins _ _ _ up _) = omega arith
kept_counted (starts _ _) = omega arith
kept_counted (copies _ _ _) = omega arith
kept_counted (fills _ _ _) = omega arith
kept_counted (commits _ up) = omega arith
kept_counted (calls_off _ up _) = omega arith
kept_counted (gives_back _) = omega arith

uncounted : (s : State) (x : Answer) → number x ≢ 21 → number x ≢ 25 → number x ≢ 26 → Counted s x s
uncounted s x a b c = rw (ne_eqb (number x) 21 a, ne_eqb (number x) 25 b, ne_eqb (number x) 26 c) (omega arith)

pub did_counted : {Right : Answer → Type 0} {s : State} {t : Step} {o : Outcome} → Did Right s t o → Counted s o.answer o.next
did_counted {s = s} (refuses {n = n} b) = uncounted s (Refused n) (omega arith) (omega arith) (omega arith)
did_counted {s = s} (stays _) = uncounted s BarrierOpen (omega arith) (omega arith) (omega arith)
did_counted (keeps _ _ _ _ k) = kept_counted k
did_counted {s = s} (acts {x = x} _ _ b _ _) = uncounted s x (omega arith) (omega arith) (omega arith)
