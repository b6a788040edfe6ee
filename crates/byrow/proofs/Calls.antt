-- Each call, as an outcome of the state: a table that has not eight rows is refused by 1, and eight rows of four holds stay eight rows of
-- four holds. That is all that the calls on rows ask of it.
-- Assumes nothing.
use mathlib.Core.Path.{◌≡◌, refl, ap}
use mathlib.Core.Bool.{true, false}
use mathlib.Core.List.{List, [], ◌∷◌}
use Prim.Native.Nat.{ℕ}
use native.Mathlib.Omega.{arith}
use borrow.Author.Tests.{ltb-true, ltb-false}
use Rattle.model.specs.declared.Answer.TheVariants.{Refused, Done}
use Rattle.model.specs.State.{State, Outcome, outcome, number, fresh}
use Rattle.model.specs.Choice.{◌if◌}
use Rattle.model.specs.Steps.{Step, act, refused, wrong_size, fresh_call, step_call, fill_call, audit_call, run_call, Ran, ran, one_by_one}
use Rattle.model.specs.Steps.{steps_of, call_refusals, run_refusals}
use Rattle.model.proofs.Refusals.{unless_refused}
use Rattle.model.proofs.Calls.{wrong_size_refused, run_wrong_size, ran_done}
use Rattle.model.proofs.Answered.{answered}
use Rattle.table.proofs.FourHolds.{four_fresh}
use Rattle.acts.proofs.Acts.{Rows, acts}
use Rattle.archive.specs.Does.{is_refused}

-- 1 "table not eight rows"
pub record Tests (g : State → Outcome) : Type 0 where
  pub by_one : (s : State) → wrong_size s ≡ true → g s ≡ refused s 1

-- eight rows of four holds are left, and a refused call leaves the table as it was
pub record Keeps (s : State) (o : Outcome) : Type 0 where
  pub rows : Rows o.next
  pub same : is_refused o.answer ≡ true → o.next.table ≡ s.table

pub record Call (g : State → Outcome) : Type 0 where
  pub tests : Tests g
  pub keeps : (s : State) → Rows s → Keeps s (g s)

turned_down_lem : (s : State) → Rows s → (n : ℕ) → Keeps s (refused s n)
turned_down_lem s R n = record { rows = R; same = λ _. refl }

accepted : (s : State) (o : Outcome) → Rows o.next → is_refused o.answer ≡ false → Keeps s o
accepted s o R e =
    record {
      rows = R;
      same = λ h. absurd (omega (arith, ltb-true (number o.answer) 20 h, ltb-false (number o.answer) 20 e));
    }

-- fresh
fresh_keeps : (s : State) → Rows s → Keeps s (fresh_call s)
unfolding fresh_call
fresh_keeps s R =
    unless_refused (Keeps s) (1 if wrong_size s ∷ []) (refused s) (outcome (Done 0) fresh) (turned_down_lem s R)
    (λ _. accepted s (outcome (Done 0) fresh) (record { eight = refl; four = four_fresh 8 }) refl)

pub fresh_is : Call fresh_call
fresh_is = record { tests = record { by_one = λ s e. (wrong_size_refused s e).fresh }; keeps = fresh_keeps }

-- a step
step_rows : (t : Step) (s : State) → Rows s → Rows (step_call s t).next
unfolding step_call
step_rows t s R =
    unless_refused (λ (o : Outcome). Rows o.next) (call_refusals s) (refused s) (act s t) (λ _. R)
    (λ _. (acts s t.who t.code t.a t.b t.v R).rows)

step_keeps : (t : Step) (s : State) → Rows s → Keeps s (step_call s t)
step_keeps t s R =
    record {
      rows = step_rows t s R;
      same = λ h. ap (λ (n : State). n.table) ((answered s t).unchanged (ltb-true (number (step_call s t).answer) 20 h)).1;
    }

pub step_is : (t : Step) → Call (λ s. step_call s t)
step_is t = record { tests = record { by_one = λ s e. (wrong_size_refused s e).step t }; keeps = step_keeps t }

-- a run
abbrev pub ran_out : Ran → Outcome
ran_out r = outcome r.answer r.next

steps_keep : (l : List Step) (s : State) → Rows s → Rows (one_by_one act s l).next
steps_keep [] s R = R
steps_keep (t ∷ l) s R = steps_keep l (act s t).next (acts s t.who t.code t.a t.b t.v R).rows

run_keeps : (ws slots : List ℕ) (s : State) → Rows s → Keeps s (ran_out (run_call s ws slots))
unfolding run_call
run_keeps ws slots s R =
    unless_refused (λ (r : Ran). Keeps s (ran_out r)) (run_refusals s ws slots)
    (λ n. ran (Refused n) slots s) (one_by_one act s (steps_of ws)) (turned_down_lem s R)
    (λ _. let l = steps_of ws in
    accepted s (ran_out (one_by_one act s l)) (steps_keep l s R) (ap is_refused (ran_done act s l)))

pub run_is : (ws slots : List ℕ) → Call (λ s. ran_out (run_call s ws slots))
run_is ws slots = record { tests = record { by_one = λ s e. ap ran_out (run_wrong_size s ws slots e) }; keeps = run_keeps ws slots }

-- fill and audit
pub fill_is : Tests fill_call
fill_is = record { by_one = λ s e. (wrong_size_refused s e).fill }

pub audit_is : Tests audit_call
audit_is = record { by_one = λ s e. (wrong_size_refused s e).audit }
