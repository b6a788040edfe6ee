-- Demand 3, accesses: when a client is answered 34 or 35, the answers of its own accepted steps before are 31, or 33 after 32: the access
-- took two of its steps, or three. Assumes nothing.
use mathlib.Core.Path.{◌≡◌, refl, subst⁻¹}
use mathlib.Core.List.{List, [], ◌∷◌}
use Prim.Native.Nat.{ℕ, suc, pred, ◌≤◌}
use native.Mathlib.Omega.{arith}
use lib.Dec.{eqb}
use lib.ListN.{length, get_or}
use borrow.Author.Tests.{eq-eqb, ne_eqb, le-leb, lt-leb}
use Rattle.model.specs.declared.Access.{Access}
use Rattle.model.specs.declared.Answer.{Answer}
use Rattle.model.specs.declared.Phase.{Phase}
use Rattle.model.specs.declared.Phase.TheVariants.{Resting, Ready, Waiting}
use Rattle.model.specs.declared.Row.{Row}
use Rattle.model.specs.Rows.{fresh_row}
use Rattle.model.specs.State.{State, number, Outcome}
use Rattle.model.specs.Steps.{Step, act}
use Rattle.model.proofs.Choice.{and_no}
use Rattle.model.proofs.Says.{get_d_fresh}
use Rattle.demands.specs.Promises.{TwoOrThree, two, three}
use Rattle.demands.specs.Log.{line, Log, after, log, own_answers}
use Rattle.demands.proofs.Lists.{set_cases}
use Rattle.demands.proofs.Did.{Turn, handles, readies, waits_on, swaps, ends, SameRows, same, Did, refuses, stays, keeps, acts}
use Rattle.demands.proofs.Did.{same_row, did_ended, did_after}
use Rattle.demands.proofs.Always.{eight_after}

-- what it has heard in each phase
data Since : Phase → List ℕ → Type 0 where
  resting : {a : List ℕ} → Since Resting a
  ready : {c : ℕ} {x : Access} {a : List ℕ} → TwoOrThree a → Since (Ready c x) a
  waiting : {c : ℕ} {x : Access} (k : List ℕ) → Since (Waiting c x) (32 ∷ k)

record Phases (k : List Row) (l : Log) : Type 0 where
  pub since : (i : ℕ) → Since (get_or k i fresh_row).phase (own_answers (suc i) l)

-- one turn of a client that has heard a
swapped : {c d : ℕ} {x : Access} {a : List ℕ} → Since (Waiting c x) a → Since (Ready d x) (33 ∷ a)
swapped (waiting k) = ready (three k refl)

done : {c : ℕ} {x : Access} {a : List ℕ} → Since (Ready c x) a → TwoOrThree a
done (ready h) = h

turn_since : {Right : Answer → Type 0} {r r' : Row} {x : Answer} {a : List ℕ} → Turn Right r x r' → Since r.phase a
    → Since r'.phase (number x ∷ a)
turn_since (handles e _ p) h = rw p resting
turn_since {a = a} (readies e _ p) h = rw (p, e) (ready (two a refl))
turn_since {a = a} (waits_on e _ p) h = rw (p, e) (waiting a)
turn_since (swaps e _ q p) h = rw (p, e) (swapped (rw q at h))
turn_since (ends _ _ _ _ p _) h = rw p resting

unheard : {k k' : List Row} {l : Log} (t : Step) (x : Answer) → SameRows k k' → t.who ≡ 0 → Phases k l → Phases k' (line t x ∷ l)
unheard t x r e h = record { since = λ i. rw ((same_row r i).phase, e, ne_eqb 0 (suc i) (omega arith)) (h.since i) }

did_since : {Right : Answer → Type 0} {s : State} {t : Step} {o : Outcome} {l : Log} → length s.table ≡ 8 → Did Right s t o
    → Phases s.table l
    → Phases o.next.table (line t o.answer ∷ l)
did_since {t = t} e (refuses {n = n} b) h = record { since = λ i. rw (lt-leb 20 n b, and_no (eqb t.who (suc i))) (h.since i) }
did_since {t = t} e (stays z) h = unheard t _ same z h
did_since {t = t} e (keeps {x = x} z _ _ r _) h = unheard t x r z h
did_since {s = s} {t = t} {l = l} e (acts {x = x} {r = r} p q b _ u) h = record {
  since = set_cases (λ j (y : Row). Since y.phase (own_answers (suc j) (line t x ∷ l))) s.table (pred t.who) r fresh_row
      (omega arith)
      (rw (eq-eqb t.who (suc (pred t.who)) (omega arith), le-leb 20 (number x) (omega arith))
      (turn_since u (h.since (pred t.who))))
      (λ j n. rw (ne_eqb t.who (suc j) (λ z. n (omega arith))) (h.since j));
}

phases : (l : List Step) → Phases (after l).table (log l)
phases [] = record { since = λ i. rw (get_d_fresh 8 i fresh_row) resting }
phases (t ∷ l) = did_since (eight_after l) (did_after l t) (phases l)

pub access_heard : (l : List Step) (t : Step) → 34 ≤ number (act (after l) t).answer → TwoOrThree (own_answers t.who (log l))
access_heard l t n =
    let E = did_ended (did_after l t) n in
    let e : t.who ≡ suc (pred t.who) = omega (arith, E.client) in
    subst⁻¹ (λ (w : ℕ). TwoOrThree (own_answers w (log l))) e (done (rw E.ready at ((phases l).since (pred t.who))))
