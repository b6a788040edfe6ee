-- Turns on the words of rows are the model's steps one by one, with the answers laid in their slots. Assumes nothing.
use mathlib.Core.Path.{◌≡◌, refl, sym, ap, ◌∙◌}
use mathlib.Core.List.{List, [], ◌∷◌}
use Prim.Native.Nat.{ℕ, zero, suc, ◌+◌, ◌*◌, ◌≤◌}
use native.Mathlib.Omega.{arith}
use lib.ListN.{length, set, length-set}
use Rattle.model.specs.declared.Answer.{Answer}
use Rattle.model.specs.Arena.{laid}
use Rattle.model.specs.State.{State, Outcome, number, value}
use Rattle.model.specs.Steps.{Step, act, Ran, then, one_by_one, step_at, steps_from}
use Rattle.model.proofs.Records.{laid_none, stored_first, laid_append}
use Rattle.answers.specs.declared.Told.{Told}
use Rattle.answers.specs.Answers.{told_as}
use Rattle.acts.proofs.Acts.{lent_of, Rows, Acts, acts}
use Rattle.turns.specs.Runs.{Going, going, put_told, after, turns_from}
use Rattle.turns.proofs.Loop.{step_there, turns_next, turns_end}

-- an answer in its slot, and those behind it
slot_laid : (slots : List ℕ) (i x y : ℕ) (rest : List ℕ)
    → laid (set (set slots (2 * i) x) (2 * i + 1) y) (2 * suc i) rest ≡ laid slots (2 * i) (x ∷ y ∷ rest)
slot_laid slots i x y rest =
    let e : 2 * suc i ≡ 2 * i + 2 = omega arith in
    rw (e, stored_first slots (2 * i) x (y ∷ [])) (laid_append slots (2 * i) (x ∷ y ∷ []) rest)

slot_length : (slots : List ℕ) (i : ℕ) (x : Told) → length (put_told slots i x) ≡ length slots
unfolding put_told
slot_length slots i x = simp length-set

-- the state and the slots after a run
pub record Went (before : List ℕ) (i : ℕ) (g : Going) (r : Ran) : Type 0 where
  pub lent : g.lent ≡ lent_of r.next
  pub slots : g.slots ≡ laid before (2 * i) r.slots

one_more : (slots : List ℕ) (i : ℕ) (o : Outcome) (g : Going) (r : Ran) → Went (put_told slots i (told_as o.answer)) (suc i) g r
    → Went slots i g (then o r)
unfolding put_told
one_more slots i o g r w =
    record { lent = w.lent; slots = w.slots ∙ slot_laid slots i (number o.answer) (value o.answer) r.slots }

pub run_steps : (n f i : ℕ) (ws slots : List ℕ) (x : Answer) (s : State) → Rows s → n ≤ f → i + f ≡ 4096
    → length ws ≡ 5 * (i + n) → length slots ≡ 2 * (i + n)
    → Went slots i (turns_from ws i f (going (lent_of s) slots x)) (one_by_one act s (steps_from ws i n))
unfolding steps_from
run_steps zero f i ws slots x s R h k p q =
    rw (turns_end ws i f (going (lent_of s) slots x) (omega arith)) (record { lent = refl; slots = sym (laid_none slots (2 * i)) })
run_steps (suc n) zero i ws slots x s R h k p q = absurd (omega arith)
run_steps (suc n) (suc f) i ws slots x s R h k p q =
    let t : Step = step_at ws i in
    let A : Acts s t = acts s t.who t.code t.a t.b t.v R in
    let there = step_there (length ws) (length slots) i (omega arith) (omega arith) (omega arith) in
    let o : Outcome = act s t in
    let slots' : List ℕ = put_told slots i (told_as o.answer) in
    rw (turns_next ws i f (going (lent_of s) slots x) there, A.turn)
    (one_more slots i o _ _
    (run_steps n f (suc i) ws slots' o.answer o.next A.rows (omega arith) (omega arith) (omega arith)
    (slot_length slots i (told_as o.answer) ∙ omega arith)))

-- a run of one step
pub run_one : (ws slots : List ℕ) (x : Answer) (s : State) → Rows s → length ws ≡ 5 → length slots ≡ 2
    → turns_from ws 0 4096 (going (lent_of s) slots x)
    ≡ going (lent_of (act s (step_at ws 0)).next) (put_told slots 0 (told_as (act s (step_at ws 0)).answer)) (act s (step_at ws 0)).answer
run_one ws slots x s R p q =
    let t : Step = step_at ws 0 in
    let there = step_there (length ws) (length slots) 0 (omega arith) (omega arith) (omega arith) in
    turns_next ws 0 4095 (going (lent_of s) slots x) there
    ∙ turns_end ws 1 4095 _ (omega arith)
    ∙ ap (after 0 (going (lent_of s) slots x)) (acts s t.who t.code t.a t.b t.v R).turn
