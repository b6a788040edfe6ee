-- Demand 3, swaps: a slot's swaps are its answers 33 and at most the moves begun; all swaps are the log's answers 33; a move that was
-- called off lost its flag to a swap. Assumes nothing.
use mathlib.Core.Path.{◌≡◌, refl, sym, ap, ◌∙◌}
use mathlib.Core.Logic.{◌≢◌, ⊎_elim}
use mathlib.Core.List.{List, [], ◌∷◌}
use Prim.Native.Nat.{ℕ, zero, suc, pred, ◌+◌, ◌*◌, ◌≤◌, ◌<◌}
use native.Mathlib.Omega.{arith}
use lib.Dec.{eqb}
use lib.ListN.{length, get_or, set}
use borrow.Author.Tests.{eq-eqb, ne_eqb}
use Rattle.model.specs.declared.Answer.{Answer}
use Rattle.model.specs.declared.Answer.TheVariants.{Refused, BarrierOpen}
use Rattle.model.specs.declared.Row.{Row}
use Rattle.model.specs.Choice.{total}
use Rattle.model.specs.Arena.{flagged}
use Rattle.model.specs.Rows.{swaps_of, fresh_row, clear_marks}
use Rattle.model.specs.State.{State, number, Outcome}
use Rattle.model.specs.Steps.{Step}
use Rattle.model.proofs.Choice.{same_or_not, and_no}
use Rattle.model.proofs.Says.{get_d_fresh}
use Rattle.model.proofs.Readings.{Early}
use Rattle.demands.specs.Log.{line, Log, after, log, answered, answered_to}
use Rattle.demands.proofs.Lists.{set_cases}
use Rattle.demands.proofs.RowLaws.{old_header}
use Rattle.demands.proofs.Did.{Turn, handles, readies, waits_on, swaps, ends, SameRows, same, cleared, Did, refuses, stays, keeps}
use Rattle.demands.proofs.Did.{acts, Kept, admits, retires, begins, starts, copies, fills, commits, calls_off, gives_back, same_row}
use Rattle.demands.proofs.Did.{did_after}
use Rattle.demands.proofs.Always.{always, eight_after}
use Rattle.demands.proofs.Counted.{hits}
use Rattle.demands.proofs.MoveCounts.{begun_is_answered, aborted_is_answered}

-- sums over a table
total_set : (k : List Row) (i : ℕ) (r d : Row) → i < length k → total swaps_of (set k i r) + (get_or k i d).swaps ≡ total swaps_of k + r.swaps
total_set [] i r d h = absurd (omega arith)
total_set (x ∷ k) zero r d h = omega arith
total_set (x ∷ k) (suc i) r d h = omega (arith, total_set k i r d (omega arith))

total_cleared : (k : List Row) → total swaps_of (clear_marks k) ≡ total swaps_of k
total_cleared [] = refl
total_cleared (r ∷ k) = ap (λ (n : ℕ). r.swaps + n) (total_cleared k)

total_le : (k : List Row) (b : ℕ) → ((i : ℕ) → (get_or k i fresh_row).swaps ≤ b) → total swaps_of k ≤ length k * b
total_le [] b h = omega arith
total_le (r ∷ k) b h = let z = h 0 in omega (arith, total_le k b (λ i. h (suc i)))

same_total : {k k' : List Row} → SameRows k k' → total swaps_of k' ≡ total swaps_of k
same_total same = refl
same_total {k} cleared = total_cleared k

pub turn_swaps : {Right : Answer → Type 0} {r r' : Row} {x : Answer} → Turn Right r x r' → r'.swaps ≡ r.swaps + hits 33 x
turn_swaps {x = x} (handles e f _) = rw (ne_eqb (number x) 33 (omega arith)) (omega arith)
turn_swaps {x = x} (readies e f _) = rw (ne_eqb (number x) 33 (omega arith)) (omega arith)
turn_swaps {x = x} (waits_on e f _) = rw (ne_eqb (number x) 33 (omega arith)) (omega arith)
turn_swaps {x = x} (swaps e f _ _) = rw (eq-eqb (number x) 33 e) (omega arith)
turn_swaps {x = x} (ends a b f _ _ _) = rw (ne_eqb (number x) 33 (omega arith)) (omega arith)

record SwapsTold (k : List Row) (l : Log) : Type 0 where
  pub slots : (i : ℕ) → (get_or k i fresh_row).swaps ≡ answered_to (suc i) 33 l
  pub sum : total swaps_of k ≡ answered 33 l

unswapped : {k k' : List Row} {l : Log} (t : Step) (x : Answer) → SameRows k k' → number x ≢ 33 → SwapsTold k l
    → SwapsTold k' (line t x ∷ l)
unswapped {l = l} t x r n m = record {
  slots = λ i. (same_row r i).swaps ∙ m.slots i ∙ sym (rw (ne_eqb (number x) 33 n, and_no (eqb t.who (suc i))) (omega arith));
  sum = same_total r ∙ m.sum ∙ sym (rw (ne_eqb (number x) 33 n) (omega arith));
}

did_told : {Right : Answer → Type 0} {s : State} {t : Step} {o : Outcome} {l : Log} → length s.table ≡ 8 → Did Right s t o
    → SwapsTold s.table l
    → SwapsTold o.next.table (line t o.answer ∷ l)
did_told {t = t} e (refuses {n = n} b) m = unswapped t (Refused n) same (omega arith) m
did_told {t = t} e (stays _) m = unswapped t BarrierOpen same (omega arith) m
did_told {t = t} e (keeps {x = x} _ _ b r _) m = unswapped t x r (omega arith) m
did_told {s = s} {t = t} {l = l} e (acts {x = x} {r = r} p q _ _ u) m = record {
  slots = set_cases (λ j (y : Row). y.swaps ≡ answered_to (suc j) 33 (line t x ∷ l)) s.table (pred t.who) r fresh_row (omega arith)
      (rw (eq-eqb t.who (suc (pred t.who)) (omega arith)) (turn_swaps u ∙ omega (arith, m.slots (pred t.who))))
      (λ j n. rw (ne_eqb t.who (suc j) (λ z. n (omega arith))) (m.slots j ∙ omega arith));
  sum = let z = total_set s.table (pred t.who) r fresh_row (omega arith) in omega (arith, turn_swaps u, m.sum);
}

swaps_told : (l : List Step) → SwapsTold (after l).table (log l)
swaps_told [] = record { slots = λ i. ap swaps_of (get_d_fresh 8 i fresh_row); sum = refl }
swaps_told (t ∷ l) = did_told (eight_after l) (did_after l t) (swaps_told l)

-- a flag that is gone from a move's header was swapped away
record Swapped (s : State) : Type 0 where
  pub off : s.control.aborted ≤ total swaps_of s.table
  pub gone : Early s.control.mv → old_header s ≢ flagged s.control.mv.from → s.control.aborted < total swaps_of s.table

kept_swapped : {s s' : State} {t : Step} {x : Answer} → total swaps_of s'.table ≡ total swaps_of s.table → Kept s t x s' → Swapped s
    → Swapped s'
kept_swapped e (admits _ _ _ h) m = record { off = m.off; gone = λ l n. m.gone l (λ z. n (h l ∙ z)) }
kept_swapped e (retires _ _) m = record { off = m.off; gone = m.gone }
kept_swapped e (begins _ _ _ _ h) m = record { off = omega arith; gone = λ _ n. absurd (n h) }
kept_swapped e (starts d _) m = record { off = m.off; gone = λ _. m.gone (rw d tt) }
kept_swapped e (copies d _ h) m = record { off = m.off; gone = λ _ n. m.gone (rw d tt) (λ z. n (h ∙ z)) }
kept_swapped e (fills d _ h) m = record { off = omega arith; gone = λ _ n. omega (arith, m.gone (rw d tt) (λ z. n (h ∙ z))) }
kept_swapped e (commits _ _) m = record { off = omega arith; gone = λ z. absurd z }
kept_swapped e (calls_off d up n) m = record { off = omega (arith, m.gone (rw d tt) n); gone = λ z. absurd z }
kept_swapped e (gives_back _) m = record { off = m.off; gone = λ z. absurd z }

did_swapped : {Right : Answer → Type 0} {s : State} {t : Step} {o : Outcome} → length s.table ≡ 8 → Did Right s t o → Swapped s
    → Swapped o.next
did_swapped e (refuses _) m = m
did_swapped e (stays _) m = m
did_swapped e (keeps _ _ _ r k) m = kept_swapped (same_total r) k m
did_swapped {s = s} {t = t} e (acts {x = x} {r = r} p q _ h u) m =
    let z = total_set s.table (pred t.who) r fresh_row (omega arith) in
    let more = turn_swaps u in
    record {
      off = omega (arith, m.off);
      gone = λ l n. ⊎_elim (λ (y : number x ≡ 33). let one33 : hits 33 x ≡ 1 = rw (eq-eqb (number x) 33 y) refl in omega (arith, m.off))
          (λ (y : number x ≢ 33). omega (arith, m.gone l (λ k. n (h l y ∙ k)))) (same_or_not (number x) 33);
    }

swapped_away : (l : List Step) → Swapped (after l)
swapped_away [] = record { off = omega arith; gone = λ z. absurd z }
swapped_away (t ∷ l) = did_swapped (eight_after l) (did_after l t) (swapped_away l)

-- the swaps of a slot, and of all, as the log counts them
pub swaps_are_answered : (l : List Step) (i : ℕ) → (get_or (after l).table i fresh_row).swaps ≡ answered_to (suc i) 33 (log l)
swaps_are_answered l = (swaps_told l).slots

pub all_swaps_are_answered : (l : List Step) → total swaps_of (after l).table ≡ answered 33 (log l)
all_swaps_are_answered l = (swaps_told l).sum

-- a client swaps at most once for each move begun, all eight at most eight times, and no move is called off without a swap
pub slot_swaps_at_most_begun : (l : List Step) (i : ℕ) → answered_to (suc i) 33 (log l) ≤ answered 21 (log l)
slot_swaps_at_most_begun l i = omega (arith, swaps_are_answered l i, begun_is_answered l, ((always {X = ⊥} l).rows i).le)

pub all_swaps_at_most_begun : (l : List Step) → answered 33 (log l) ≤ 8 * answered 21 (log l)
all_swaps_at_most_begun l =
    let b = total_le (after l).table (after l).control.begun (λ i. ((always {X = ⊥} l).rows i).le) in
    omega (arith, rw (eight_after l) at b, (swaps_told l).sum, begun_is_answered l)

pub called_off_at_most_swaps : (l : List Step) → answered 26 (log l) ≤ answered 33 (log l)
called_off_at_most_swaps l = omega (arith, (swapped_away l).off, (swaps_told l).sum, aborted_is_answered l)
