-- Demand 1: a request is refused by the lowest line that applies and by none otherwise, and changes nothing then, on any state: the lines
-- of each request rise, and what no line refuses is answered from 20 on. Assumes nothing.
use mathlib.Core.Path.{◌≡◌, refl, ap}
use mathlib.Core.Bool.{true}
use mathlib.Core.List.{List, [], ◌∷◌}
use Prim.Native.Nat.{ℕ, ◌≤◌, ◌<◌}
use native.Mathlib.Omega.{arith}
use lib.Dec.{T}
use Rattle.model.specs.declared.Answer.TheVariants.{Refused, Done}
use Rattle.model.specs.Arena.{fill}
use Rattle.model.specs.State.{State, number, value, Outcome, outcome, number_of01, Answered, fresh}
use Rattle.model.specs.Choice.{Refusal, ◌if◌, refuse}
use Rattle.model.specs.Rules.{first_broken}
use Rattle.model.specs.Steps.{Step, name_of, effect, refused, act, wrong_size, call_refusals, fresh_call, audit_call, fill_call, step_call, Ran, ran}
use Rattle.model.specs.Steps.{one_by_one, steps_of, run_refusals, run_call}
use Rattle.model.specs.Table.{table}
use Rattle.model.proofs.Refusals.{Passed, rising, by_refusals, unless_refused, refuse_map, refuse_after, passed_after}
use Rattle.model.proofs.Refusals.{lowest_is_given, given_applies}
use Rattle.model.proofs.Answered.{effect_accepted, answered, fresh_answered, fill_answered, audit_answered}
use Rattle.model.proofs.Tabled.{act_tabled}
use Rattle.model.proofs.Calls.{ran_done}
use Rattle.demands.specs.Promises.{step_refusals, LowestGiven, Request, RunRequest, Demand1}

-- l are the lines that are asked, k the number of what is accepted
lowest_given : (l : List Refusal) (k : ℕ) → T (rising l) → (Passed l → 20 ≤ k) → LowestGiven l (refuse l (λ i. i) k)
lowest_given l k t h = record { lowest = lowest_is_given l k t; applied = given_applies l k h }

module _ (s : State) where
  request : (l : List Refusal) (o : Outcome) → T (rising l) → (Passed l → 20 ≤ number o.answer) → Answered s (refuse l (refused s) o)
      → Request s l (refuse l (refused s) o)
  request l o t h a =
      record {
        kept = a;
        lowest = rw (refuse_map (λ (x : Outcome). number x.answer) l (refused s) o) (lowest_given l (number o.answer) t h);
      }

  fresh_request : Request s (1 if wrong_size s ∷ []) (fresh_call s)
  unfolding fresh_call
  fresh_request = request (1 if wrong_size s ∷ []) (outcome (Done 0) fresh) tt (λ _. omega arith) (fresh_answered s)

  audit_request : Request s (1 if wrong_size s ∷ []) (audit_call s)
  unfolding audit_call
  audit_request = request (1 if wrong_size s ∷ []) (outcome (Done (first_broken s)) s) tt (λ _. omega arith) (audit_answered s)

  fill_request : Request s (call_refusals s) (fill_call s)
  unfolding fill_call
  fill_request = request (call_refusals s) (outcome (Done (fill s.control.map)) s) tt (λ _. omega arith) (fill_answered s)

  -- a step asks the table's lines after those of every call
  asks_all : (t : Step) → step_call s t ≡ refuse (step_refusals s t) (refused s) (effect (name_of t) s t)
  unfolding step_call
  asks_all t =
      rw (act_tabled s t) (refuse_after (call_refusals s) (table s t (name_of t)) (refused s) (effect (name_of t) s t))

  step_request : (t : Step) → Request s (step_refusals s t) (step_call s t)
  step_request t =
      rw (asks_all t)
      (request (step_refusals s t) (effect (name_of t) s t) tt
      (λ p. (effect_accepted s t (name_of t) (passed_after (call_refusals s) (table s t (name_of t)) p)).from)
      (rw (asks_all t) at (answered s t)))

  -- the steps of a run that is not refused are done, and the run answers 30
  run_request : (ws slots : List ℕ) → RunRequest s (run_refusals s ws slots) slots (run_call s ws slots)
  unfolding run_call
  run_request ws slots =
      let l : List Refusal = run_refusals s ws slots in
      let f : ℕ → Ran = λ n. ran (Refused n) slots s in
      let o : Ran = one_by_one act s (steps_of ws) in
      let done : o.answer ≡ Done 0 = ran_done act s (steps_of ws) in
      record {
        tabled = by_refusals (λ (r : Ran). number_of01 (number r.answer) ≡ true) l f o (refl, (refl, (refl, tt))) (λ _. rw done refl);
        unchanged =
            unless_refused
            (λ (r : Ran). number r.answer < 20 → (value r.answer ≡ 0) × ((r.slots ≡ slots) × (r.next ≡ s))) l f o
            (λ n _. (refl, (refl, refl))) (λ _ h. absurd (omega (arith, ap number done)));
        lowest =
            rw (refuse_map (λ (r : Ran). number r.answer) l f o)
            (lowest_given l (number o.answer) tt (λ _. omega (arith, ap number done)));
      }

pub demand1 : Demand1
demand1 s =
    record { fresh = fresh_request s; audit = audit_request s; fill = fill_request s; step = step_request s; run = run_request s }
